-- What is printed for a decision: `none` for none alone, and 0 for a withdrawal.
use Rattle.std.specs.Prelude.{Some, codes}
use Prim.Native.Nat.{ℕ, ◌≤◌}
use native.Mathlib.Omega.{arith}
use mathlib.Core.Path.{◌≡◌, refl, subst}
use mathlib.Core.List.{List}
use lib.ListN.{get_or}
use Rattle.suits.specs.Suits.{suit0}
use Rattle.suits.specs.declared.Suit.{Suit}
use Rattle.base.specs.Choice.{when◌then◌else◌}
use Rattle.drill.specs.Report.{digits_of, decision_word}
use Rattle.drill.proofs.Decimals.{all_digits}

pub withdrawal_printed : decision_word (Some suit0) ≡ codes "0"
unfolding digits_of when◌then◌else◌
withdrawal_printed = refl

-- "none" begins with no digit
pub decided_printed : (v : Suit) → ¬ (decision_word (Some v) ≡ codes "none")
decided_printed v e = absurd (omega (arith, subst (λ (l : List ℕ). get_or l 0 0 ≤ 57) e (all_digits 20 v.r0 0)))
