use Rattle.std.proofs.Common.{◌≡◌}
use Rattle.floor.specs.Floors.{stations_told}
use Rattle.steps.proofs.stations_told.Given as goal

abbrev pub invariant-loop-k : goal.invariant-loop-k
invariant-loop-k l = l.stations ≡ stations_told l.departments l.k
