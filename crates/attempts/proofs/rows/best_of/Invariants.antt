use Rattle.std.proofs.Common.{◌≡◌}
use Rattle.attempts.specs.Rows.{best_of}
use Rattle.attempts.proofs.rows.best_of.Given as goal

abbrev pub invariant-loop-k : goal.invariant-loop-k
invariant-loop-k l = l.best ≡ best_of l.answers l.h l.k
