-- How many rows are in use once one was begun, and where a request of a row waits.
use Prim.Native.Nat.{ℕ, ◌+◌, ◌<◌, ◌≤◌}
use native.Mathlib.Omega.{arith}
use mathlib.Core.Path.{◌≡◌, refl, sym}
use mathlib.Core.Bool.{false}
use lib.Dec.{ltb}
use borrow.Author.Tests.{lt-ltb, le-ltb, ltb-true}
use Rattle.base.proofs.Choices.{on_true, on_false, both_false, by_test}
use Rattle.requests.specs.Requests.{standing_of, is_waiting}
use Rattle.requests.specs.declared.Phase.{Phase}
use Rattle.requests.specs.declared.Phase.TheVariants.{Read, Write}
use Rattle.attempts.specs.Rows.{requests_of, waits_at, used_after}
use Rattle.attempts.specs.declared.Row.{Row}

pub used_more : (used : ℕ) → used < 64 → used_after used ≡ used + 1
unfolding used_after
used_more used h = sym (on_true _ (lt-ltb used 64 h) refl)

pub used_full : (used : ℕ) → 64 ≤ used → used_after used ≡ used
unfolding used_after
used_full used h = sym (on_false _ (le-ltb used 64 h) refl)

-- at least as many as before, and at most 64
pub used_least : (used : ℕ) → used ≤ used_after used
unfolding used_after
used_least used = by_test (λ (k : ℕ). used ≤ k) (ltb used 64) _ _ (λ _. omega arith) (λ _. omega arith)

pub used_most : (used : ℕ) → used ≤ 64 → used_after used ≤ 64
unfolding used_after
used_most used h = by_test (λ (k : ℕ). k ≤ 64) (ltb used 64) _ _ (λ e. omega (arith, ltb-true used 64 e)) (λ _. omega arith)

-- neither request of a row waits at a box
module _ (w : Row) (b : ℕ) where
  pub none_waits : waits_at w b ≡ false → (p : Phase) → is_waiting (standing_of (requests_of p w) b) ≡ false
  unfolding waits_at
  none_waits e Read = (both_false _ _ e).0
  none_waits e Write = (both_false _ _ e).1

  pub waits_none : ((p : Phase) → is_waiting (standing_of (requests_of p w) b) ≡ false) → waits_at w b ≡ false
  unfolding waits_at
  waits_none h = sym (on_false _ (h Read) (sym (h Write)))
