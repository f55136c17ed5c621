-- The claim on all rows of the table, by computation. Where a row fails, the refusal shows its letter, what was expected and what
-- the definitions give.
use mathlib.Core.Path.{refl}
use lib.Count.{ones, ones_in}
use Rattle.base.specs.Choice.{when◌then◌else◌}
use Rattle.base.specs.Numbers.{sizes_right}
use Rattle.base.specs.Departments as departments
use Rattle.base.specs.Records.{record_at, records_from}
use Rattle.base.specs.Mask.{bit, set_bit, count_below}
use Rattle.register.specs.Register.{outranks, rmw_read, rmw_write, takes}
use Rattle.requests.specs.Requests.{standing, waiting_below, at_quorum, still_yes, all_yes, read_verdict, write_verdict}
use Rattle.runs.specs.Runs.{ran_from, state_at, stops_by}
use Rattle.floor.specs.Sound.{stations_below, share_sound, sound_of}
use Rattle.floor.specs.Floors.{department_from, stations_told, new_floor_of}
use Rattle.commands.specs.Commands.{all_zero, spared, command_of}
use Rattle.floor.specs.Free.{next_row}
use Rattle.attempts.specs.Rows.{row_department, new_row, used_after, better, higher, best_of, revision_from, revision_of, issued}
use Rattle.floor.specs.Refusals.{begin_refusal, serve_refusal, deliver_refusal, stop_refusal, leave_refusal}
use Rattle.floor.specs.Effects.{delivered_on}
use Rattle.floor.specs.Step.{play_of, apply_of, step_of}
use Rattle.floor.specs.Runs.{played_on}
use Rattle.plans.specs.Plans.{round_above, exchange, exchanges}
use Rattle.solo.specs.Plan.{answering_from, lowest, exchanges_of}
use Rattle.solo.specs.Solo.{front_refusal, solo_refusal, solo_of}
use Rattle.drill_file.specs.DrillFile.{departments_due, outside, any_byte, wrong_size, unknown_version, wrong_version, wrong_floor, wrong_byte, wrong_length, wrong_label, wrong_departments, wrong_run, wrong_records, file_refusal, label_of, departments_of}
use Rattle.player.specs.Play.{told_from, played_of, last_rank}
use Rattle.examples.specs.WorkedRuns.{said_from, answers_from, lines_from}
use Rattle.examples.specs.Table.{Claim}

pub examples_hold : Claim
unfolding when◌then◌else◌ sizes_right departments.departments_wrong departments.not_departments departments.not_department department_from stations_told row_department share_sound departments_due outside any_byte unknown_version wrong_departments departments_of told_from record_at records_from bit set_bit count_below ones ones_in outranks rmw_read rmw_write takes standing waiting_below at_quorum still_yes all_yes read_verdict write_verdict stations_below sound_of new_floor_of all_zero spared command_of new_row used_after next_row better higher best_of revision_from revision_of issued begin_refusal serve_refusal deliver_refusal stop_refusal leave_refusal delivered_on play_of apply_of step_of state_at stops_by ran_from played_on wrong_size wrong_version wrong_floor wrong_byte wrong_length wrong_label wrong_run wrong_records file_refusal label_of played_of last_rank round_above answering_from lowest exchange exchanges exchanges_of front_refusal solo_refusal solo_of said_from answers_from lines_from
examples_hold = (refl, (refl, (refl, (refl, (refl, (refl, (refl, (refl, (refl, (refl, (refl, (refl, (refl, (refl, (refl, (refl, (refl, (refl, (refl, tt)))))))))))))))))))
