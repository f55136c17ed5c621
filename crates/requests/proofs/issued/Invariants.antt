use Rattle.std.proofs.Common.{◌≡◌}
use Rattle.requests.specs.Requests.{waiting_below}
use Rattle.requests.proofs.issued.Given as goal

abbrev pub invariant-loop-k : goal.invariant-loop-k
invariant-loop-k l = l.slots ≡ waiting_below l.k
