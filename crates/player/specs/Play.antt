-- Document 01, "The drill file": a file is played on the new floor of its n and m, record by record.
use Rattle.std.specs.Prelude.{ℕ, List, [], eqb, length, replicate, Some}
use Rattle.base.specs.Choice.{when◌then◌else◌}
use Rattle.base.specs.Numbers.{rank_of}
use Rattle.base.specs.Refusals.{named}
use Rattle.floor.specs.Floors.{empty_floor, new_floor_of}
use Rattle.floor.specs.Runs.{played_on}
use Rattle.floor.specs.declared.Played.{Played}
use Rattle.drill_file.specs.DrillFile.{boxes_of, stations_of, departments_of, file_refusal, records_of}

-- Wish 6 of document 02: "after the label, one byte a station"; "Version 1 files are all sails": where a file of m stations has no department
-- bytes, m zeros
unfoldable pub told_from : (m : ℕ) (departments : List ℕ) → List ℕ
told_from m departments = when eqb (length departments) 0 then replicate m 0 else departments

abbrev pub told_in : (file : List ℕ) → List ℕ
told_in file = told_from (stations_of file) (departments_of file)

-- "File: 1 to 5, then each record as a step"; "It stops at the first refused record"; "a call with no floor to hand back gives
-- the new floor of one box and one station"
unfoldable pub played_of : (file : List ℕ) → Played
played_of file =
    when eqb (file_refusal file) 0 then played_on (new_floor_of (boxes_of file) (stations_of file) (told_in file)).floor (records_of file)
    else record { floor = empty_floor 1 1 []; accepted = 0; refusal = Some (named (file_refusal file)) }

-- "rank of its last attempt (0 if none)", from the station's last round and its number
unfoldable pub last_rank : (last station : ℕ) → ℕ
last_rank last station = when eqb last 0 then 0 else rank_of last station
