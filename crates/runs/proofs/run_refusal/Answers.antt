use lib.Bits.{and_mask}
use mathlib.Core.Path.{refl}
use Rattle.base.proofs.Choices.{on_true, on_false}
use Rattle.base.proofs.Tests.{tests}
use Rattle.runs.specs.Runs.{refusal_by}
use Rattle.runs.proofs.run_refusal.Goals as goal

pub returns-then-size-ne0 : goal.returns-then-size-ne0
unfolding refusal_by
returns-then-size-ne0 c = on_true _ (search tests) (on_false _ (rw (← (and_mask c.args.size 3)) (search tests)) refl)

pub returns : goal.returns
unfolding refusal_by
returns c = on_true _ (search tests) (on_true _ (rw (← (and_mask c.args.size 3)) (search tests)) refl)
