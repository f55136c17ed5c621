use Rattle.std.proofs.Common.{◌≤◌}
use Rattle.tally.proofs.TallyLaws.{Joined}
use Rattle.tally.proofs.tally_of.Given as goal

abbrev pub invariant-loop-b : goal.invariant-loop-b
invariant-loop-b l = (l.t.count ≤ l.b-index) × Joined l.fn.d l.fn.boxes l.b-index l.t
