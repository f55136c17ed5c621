use Rattle.std.proofs.Common.{◌≡◌, length, take, drop, ◌-◌, ◌≤◌, ℕ, List}
use native.Mathlib.Omega.{arith}
use mathlib.Core.Path.{refl, ◌∙◌, sym, ap}
use lib.ListN.{length-drop}
use lib.Seq.{take_all}
use Rattle.base.proofs.Choices.{on_true, on_false}
use Rattle.commands.specs.Commands.{all_zero, spared}
use Rattle.commands.proofs.spare.Goals as goal

whole : (l : List ℕ) (i n : ℕ) → length l ≤ n → take (n - i) (drop i l) ≡ drop i l
whole l i n h = take_all (n - i) (drop i l) (rw length-drop (omega arith))

pub returns-then-zeros : goal.returns-then-zeros
unfolding spared
returns-then-zeros c = on_true _ (sym (ap all_zero (whole c.args.r c.args.from 8 (omega arith))) ∙ sym c.zeros.ensures ∙ c.if-zeros.true) refl

pub returns : goal.returns
unfolding spared
returns c = on_false _ (sym (ap all_zero (whole c.args.r c.args.from 8 (omega arith))) ∙ sym c.zeros.ensures ∙ c.if-zeros.false) refl
