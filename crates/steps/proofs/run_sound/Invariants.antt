use Rattle.std.proofs.Common.{◌≡◌, ◌≤◌, ◌-◌, ◌*◌}
use Rattle.base.specs.Records.{records_from}
use Rattle.floor.specs.Runs.{run_from}
use Rattle.steps.proofs.run_sound.Given as goal

abbrev pub invariant-loop-until : goal.invariant-loop-until
invariant-loop-until l =
    (l.k ≤ l.count) × (run_from l.until l.k l.f.floor.now l.c (records_from (l.count - l.k) l.records (8 * l.k)) ≡ run_from l.until 0 l.fn.f.floor.now l.fn.first (records_from l.count l.records 0)) ×
    (l.f.floor.ghost_name ≡ l.fn.f.floor.ghost_name)

abbrev pub decreases-loop-until : goal.decreases-loop-until
decreases-loop-until l = l.count - l.k
