use Rattle.std.proofs.Common.{◌≡◌}
use Rattle.floor.specs.Free.{free_below}
use Rattle.steps.proofs.free.next_sound.Given as goal

abbrev pub invariant-loop-k : goal.invariant-loop-k
invariant-loop-k l = l.found ≡ free_below l.f l.fn.d l.k
