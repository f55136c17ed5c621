-- What is claimed of a file that is played. The proof is `player_claims` in proofs/PlayLaws.
use Rattle.std.specs.Prelude.{ℕ, ◌≡◌, List, [], length, Some}
use Rattle.base.specs.Refusals.{number_if, named}
use Rattle.floor.specs.Floors.{empty_floor, new_floor_of}
use Rattle.floor.specs.Runs.{played_in}
use Rattle.floor.specs.RunClaims.{PlayedOver}
use Rattle.drill_file.specs.DrillFile.{boxes_of, stations_of, file_refusal, records_of}
use Rattle.drill_file.specs.Writer.{DrillParts, write_refusal}
use Rattle.drill_file.specs.Claims.{file_in}
use Rattle.player.specs.Play.{told_from, told_in, played_of}

pub record PlayerClaims : Type 0 where
  -- "A drill file, however mangled, is played to its end or turned back at a stated step by a number in document 01, and the floor is
  -- then what the accepted steps left."
  pub accepted : (s : List ℕ) → file_refusal s ≡ 0 → PlayedOver (new_floor_of (boxes_of s) (stations_of s) (told_in s)).floor (records_of s) (played_of s)
  -- a file that is refused: the floor of one box and one station, no steps
  pub refused : (s : List ℕ) → ¬ (file_refusal s ≡ 0) → played_of s ≡ record { floor = empty_floor 1 1 []; accepted = 0; refusal = Some (named (file_refusal s)) }
  pub refused_number : (s : List ℕ) → ¬ (file_refusal s ≡ 0) → number_if (played_of s).refusal ≡ file_refusal s
  -- document 02, wish 1: a file that was written, played, is the run of the records that were given, on the new floor of the n, m and departments given
  pub written : (buffer : List ℕ) (p : DrillParts) → write_refusal (length buffer) p ≡ 0 → played_of (file_in buffer p) ≡ played_in (new_floor_of p.boxes p.stations (told_from p.stations p.departments)).floor p.run
