use native.Mathlib.Numerals.{add-one}
use Rattle.floor.specs.Floors.{stations_told, department_from}
use Rattle.steps.proofs.stations_told.Goals as goal

pub loop-k-preserved : goal.loop-k-preserved
unfolding stations_told department_from
loop-k-preserved c = rw add-one (cc)
