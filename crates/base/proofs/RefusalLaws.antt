-- A refusal and its number, each by the other.
use Prim.Native.Nat.{ℕ, zero, suc, ◌≤◌}
use native.Mathlib.Omega.{arith}
use mathlib.Core.Path.{◌≡◌, refl, sym, ap, ◌∙◌}
use mathlib.Core.Bool.{true, false, false≢true}
use lib.Dec.{eqb}
use Rattle.base.specs.Choice.{when◌then◌else◌}
use Rattle.base.proofs.Choices.{on_true, on_false}
use Rattle.std.proofs.lemmas.Bool.{agree_below_at, eqb-true, ne_eqb}
use Rattle.base.specs.declared.Refusal.{Refusal}
use Rattle.base.specs.declared.Refusal.TheVariants.{FileSize, Version, Sizes, Label, Records, Unsound, Kind, Unknown, Gone, Busy, Round, NoRow, Away, NotDue, TooFew, Length, RankZero, Room, FrameLength, FrameVersion, Message, Departments, NotAway}
use Rattle.std.specs.Prelude.{Result, Ok, Err, is_ok}
use Rattle.base.specs.Refusals.{number, named, number_in}

pub named_number : (r : Refusal) → named (number r) ≡ r
named_number FileSize = refl
named_number Version = refl
named_number Sizes = refl
named_number Label = refl
named_number Records = refl
named_number Unsound = refl
named_number Kind = refl
named_number Unknown = refl
named_number Gone = refl
named_number Busy = refl
named_number Round = refl
named_number NoRow = refl
named_number Away = refl
named_number NotDue = refl
named_number TooFew = refl
named_number Length = refl
named_number RankZero = refl
named_number Room = refl
named_number FrameLength = refl
named_number FrameVersion = refl
named_number Message = refl
named_number Departments = refl
named_number NotAway = refl

-- a table that is gone through
pub number_named : (k : ℕ) → 1 ≤ k → k ≤ 23 → number (named k) ≡ k
number_named zero h l = absurd (omega arith)
number_named (suc k) h l =
    eqb-true _ _ (agree_below_at (λ (j : ℕ). eqb (number (named (suc j))) (suc j)) (λ _. true) 23 k refl (omega arith))

-- none is 0, so that a number tells whether there is one
pub number_above : (r : Refusal) → ¬ (number r ≡ 0)
number_above r z = let one : 1 ≡ number r = ap number (ap named (sym z) ∙ named_number r) in absurd (omega arith)

pub number_some : (r : Refusal) → eqb (number r) 0 ≡ false
number_some r = ne_eqb (number r) 0 (number_above r)

module _ {A : Type 0} where
  pub no_number : (x : Result A Refusal) → is_ok x ≡ true → number_in x ≡ 0
  no_number (Ok a) t = refl
  no_number (Err r) t = absurd (false≢true t)

  pub some_number : (x : Result A Refusal) → is_ok x ≡ false → ¬ (number_in x ≡ 0)
  some_number (Ok a) t z = absurd (false≢true (sym t))
  some_number (Err r) t z = number_above r z

-- a choice by a refusal's number k, 0 where nothing is refused
pub on_refused : {A : Type 0} (f : Refusal → A) (r : Refusal) {k : ℕ} (x : A) → number r ≡ k → f r ≡ when eqb k 0 then x else f (named k)
on_refused f r x e = on_false x (rw (← e) (number_some r)) (rw (← e, named_number r) refl)

pub on_accepted : {A : Type 0} {k : ℕ} {r x : A} (y : A) → 0 ≡ k → r ≡ x → r ≡ when eqb k 0 then x else y
on_accepted y e h = on_true y (rw (← e) refl) h
