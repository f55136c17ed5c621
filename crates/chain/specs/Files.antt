-- Demand 3 on a drill file: what the stations of the floor that `player::play` hands back, and the program drill prints, show.
use Rattle.std.specs.Prelude.{ℕ, ◌<◌, ◌≡◌, List, take, Option, Some}
use Rattle.suits.specs.declared.Suit.{Suit}
use Rattle.register.specs.declared.Department.{Department}
use Rattle.floor.specs.Floors.{station_at, department_at}
use Rattle.floor.specs.declared.Floor.{Floor}
use Rattle.drill_file.specs.DrillFile.{boxes_of, stations_of, records_of}
use Rattle.player.specs.Play.{told_in, played_of}
use Rattle.agreement.specs.Words.{OfferedAt}
use Rattle.agreement.specs.Demand.{trace_of}
use Rattle.floor.specs.Floors.{first_floor}

-- the decided revision of the station s, or that there is none, after the file was played
abbrev pub decided_in : (file : List ℕ) (s : ℕ) → Option Suit
decided_in file s = (station_at (played_of file).floor s).decided

-- the new floor that the file is played on, and the department of the station s there
abbrev pub start_of : (file : List ℕ) → Floor
start_of file = first_floor (boxes_of file) (stations_of file) (told_in file)

abbrev pub department_in : (file : List ℕ) (s : ℕ) → Department
department_in file s = department_at (start_of file) s

-- the records that were accepted
abbrev pub accepted_in : (file : List ℕ) → List (List ℕ)
accepted_in file = take (played_of file).accepted (records_of file)

-- What the floor shows after the file was played. The proof is `played_file` in proofs/Files.
pub record PlayedFile (file : List ℕ) : Type 0 where
  -- "any two stations that decided have decided the same revision", where they are of one department
  pub agreement : (s j : ℕ) (u v : Suit) → department_in file s ≡ department_in file j → decided_in file s ≡ Some u → decided_in file j ≡ Some v → u ≡ v
  -- "each decided revision was offered by a station": by a begin among the accepted records
  pub validity : (s : ℕ) (v : Suit) → decided_in file s ≡ Some v
      → (i : ℕ) × (i < (played_of file).accepted) × OfferedAt (trace_of (start_of file) (accepted_in file)) (department_in file s) v i

-- of every file, refused ones too
abbrev pub PlayedFileTheorem : Type 0
PlayedFileTheorem = (file : List ℕ) → PlayedFile file
