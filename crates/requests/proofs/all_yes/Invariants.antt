use Rattle.std.proofs.Common.{◌≡◌, true}
use Rattle.requests.specs.Requests.{all_yes}
use Rattle.requests.proofs.all_yes.Given as goal

abbrev pub invariant-loop-b : goal.invariant-loop-b
invariant-loop-b l = all_yes l.q l.b ≡ true
