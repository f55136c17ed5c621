use native.Mathlib.Omega.{arith}
use mathlib.Core.Path.{ap}
use Rattle.solo.specs.Solo.{of_run}
use Rattle.solo.proofs.CountLaws.{run_short}
use Rattle.solo.proofs.WrittenLaws.{plan_ran}
use Rattle.solo.proofs.drive.Goals as goal

pub overflow_cast-result : goal.overflow_cast-result
overflow_cast-result c =
    let ran = plan_ran _ _ _ _ _ _ _ _ _ _ _ c.requires.0 c.requires.1 c.requires.2 c.encode-first.ensures c.put_phase-reads.ensures.records c.put_phase-end.ensures.records c.drive-ran.ensures.ran in
    let h = run_short _ _ _ _ c.requires.0 ran in
    omega arith

pub returns : goal.returns
returns c =
    ap of_run
    (plan_ran _ _ _ _ _ _ _ _ _ _ _ c.requires.0 c.requires.1 c.requires.2 c.encode-first.ensures c.put_phase-reads.ensures.records c.put_phase-end.ensures.records c.drive-ran.ensures.ran)
