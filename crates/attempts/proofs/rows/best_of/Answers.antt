use Rattle.std.proofs.Common.{refl}
use native.Mathlib.Numerals.{add-one}
use Rattle.attempts.specs.Rows.{best_of}
use Rattle.attempts.proofs.rows.best_of.Goals as goal

pub loop-k-init : goal.loop-k-init
unfolding best_of
loop-k-init c = refl

pub loop-k-preserved : goal.loop-k-preserved
unfolding best_of
loop-k-preserved c = rw add-one (cc)
