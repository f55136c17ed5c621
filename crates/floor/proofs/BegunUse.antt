-- The rows in use before and after a begin.
use Prim.Native.Nat.{ℕ, ◌+◌, ◌<◌}
use native.Mathlib.Omega.{arith}
use mathlib.Core.Path.{◌≡◌, sym, subst}
use mathlib.Core.Logic.{inl, inr}
use Rattle.suits.specs.declared.Suit.{Suit}
use Rattle.register.proofs.DepartmentLaws.{same_or_not}
use Rattle.attempts.specs.Rows.{row_department, first_row}
use Rattle.floor.specs.Floors.{department_at, used_of, InUse}
use Rattle.floor.specs.declared.Floor.{Floor}
use Rattle.floor.specs.Effects.{row_taken, share_after, after_begin}
use Rattle.attempts.proofs.UsedLaws.{used_least}
use Rattle.floor.specs.declared.Share.{Share}
use Rattle.floor.proofs.UseLaws.{share_own, share_other, use_of, of_use}
use Rattle.floor.proofs.FreeLaws.{next_own, next_in, next_other}

-- a row in use once a station began was in use before, unless it is the row taken; and that is in use
pub begun_use : (f : Floor) (s round : ℕ) (v : Suit) (j : ℕ) → InUse (after_begin f s round v) j → ¬ (j ≡ row_taken f s) → InUse f j
begun_use f s round v j h n =
    let d = department_at f s in
    elim (same_or_not (row_department j) d) [
      | inl e ↦
          of_use f d j e (next_other f d j
          (subst (λ (x : Share). j < first_row d + x.used) (share_own d f (share_after f s round)) (use_of (after_begin f s round v) d j e h)) n)
      | inr e ↦ subst (λ (x : Share). j < first_row (row_department j) + x.used) (share_other d (row_department j) f (share_after f s round) e) h
    ]

pub use_begun : (f : Floor) (s round : ℕ) (v : Suit) (j : ℕ) → InUse f j → InUse (after_begin f s round v) j
use_begun f s round v j h =
    let d = department_at f s in
    elim (same_or_not (row_department j) d) [
      | inl e ↦
          of_use (after_begin f s round v) d j e
          (subst (λ (x : Share). j < first_row d + x.used) (sym (share_own d f (share_after f s round))) (omega (arith, use_of f d j e h, used_least (used_of f d))))
      | inr e ↦ subst (λ (x : Share). j < first_row (row_department j) + x.used) (sym (share_other d (row_department j) f (share_after f s round) e)) h
    ]

pub taken_use : (f : Floor) (s round : ℕ) (v : Suit) → row_taken f s < 128 → InUse (after_begin f s round v) (row_taken f s)
taken_use f s round v h =
    let d = department_at f s in
    of_use (after_begin f s round v) d (row_taken f s) (next_own f d h)
    (subst (λ (x : Share). row_taken f s < first_row d + x.used) (sym (share_own d f (share_after f s round))) (next_in f d h))
