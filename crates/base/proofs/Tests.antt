-- What `search` is handed: `tests` finds the value of a test from the branch that was taken, `picks` goes down a chain of tests.
use mathlib.Core.Path.{◌≡◌, ◌∙◌, sym}
use mathlib.Core.Bool.{Bool, false}
use Prim.Native.Nat.{ℕ}
use lib.Dec.{eqb}
use borrow.Author.Tests.{lt-ltb, le-ltb, le-leb, lt-leb, eq-eqb, ne_eqb, not-true, not-false}
use Rattle.base.proofs.Choices.{on_true, on_false}

-- a test whose value a call gave
pub told : {t u v : Bool} → t ≡ u → t ≡ v → u ≡ v
told e h = sym e ∙ h

-- a number that a `match` found to be another literal
pub differs : {x j : ℕ} (k : ℕ) → x ≡ j → eqb j k ≡ false → eqb x k ≡ false
differs k e h = rw e h

pub ruleset tests = (lt-ltb, le-ltb, le-leb, lt-leb, eq-eqb, ne_eqb, not-true, not-false, told, differs)

pub ruleset picks = (on_true, on_false, tests)
