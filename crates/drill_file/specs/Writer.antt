-- Document 02, wish 1: "from n, m, a label and a run of 8-byte records, a writer fills a lent buffer with the file and returns its size".
-- Wish 6: "the writer, told the version, makes .. both".
use Rattle.std.specs.Prelude.{ℕ, Bool, not, ◌||◌, List, eqb, ltb, length, get_or}
use Rattle.std.specs.List.{list_any}
use Rattle.base.specs.Choice.{when◌then◌else◌}
use Rattle.base.specs.Numbers.{sizes_right}
use Rattle.base.specs.Departments.{departments_wrong}
use Rattle.base.specs.Records.{records_in}
use Rattle.base.specs.Writing.{size_written, buffer_written}
use Rattle.drill_file.specs.DrillFile.{departments_due, any_byte, unknown_version, wrong_byte, wrong_length, wrong_run}
use Rattle.drill_file.specs.Layout.{file_of}
use Rattle.drill_file.specs.declared.writer.Drill.{Drill}

-- the parts of a drill: "n, m, a label and a run of 8-byte records", by wish 6 with the version and the department bytes. The run is given
-- as its bytes, record behind record
pub record DrillParts : Type 0 where
  pub version : ℕ
  pub boxes : ℕ
  pub stations : ℕ
  pub label : List ℕ
  pub departments : List ℕ
  pub run : List ℕ

abbrev pub parts_given : (version n m : ℕ) (label departments run : List ℕ) → DrillParts
parts_given version n m label departments run =
    record { version = version; boxes = n; stations = m; label = label; departments = departments; run = run }

-- those that the writer is handed
abbrev pub parts_in : (d : Drill) → DrillParts
parts_in d = parts_given d.version d.n d.m d.label.now d.departments.now d.records.now

-- the bytes of their file, in the documented layout
unfoldable pub file_from : (p : DrillParts) → List ℕ
file_from p = file_of p.version p.boxes p.stations p.label p.departments (records_in p.run)

-- 4, of a label by itself: its length is not 1 to 32, or a byte of it is not 33 to 126
unfoldable pub wrong_text : (label : List ℕ) → Bool
wrong_text label = wrong_length (length label) || any_byte wrong_byte label

-- 22, of department bytes by themselves: "a department byte is missing or not 0 or 1", and "also for a department byte too many", as each is
-- in version 1
unfoldable pub wrong_given : (version m : ℕ) (departments : List ℕ) → Bool
wrong_given version m departments = departments_wrong (departments_due version m) departments

-- one of the records is of that kind, by its first byte: nothing else in a record is looked at
unfoldable pub has_kind : (kind : ℕ) (records : List (List ℕ)) → Bool
has_kind kind records = list_any (λ r. eqb (get_or r 0 0) kind) records

-- "Turned away: 3, 4, 5, then 18 when the buffer is shorter than the file". Wish 6: "22, after 4 ..; in the writer 2 comes first". Wish 8:
-- "the writer turns kind 6 back with 7 between 5 and 18". 0 where the file is written. `room` is the buffer's length
unfoldable pub write_refusal : (room : ℕ) (p : DrillParts) → ℕ
write_refusal room p =
    when unknown_version p.version then 2
    else when not (sizes_right p.boxes p.stations) then 3
    else when wrong_text p.label then 4
    else when wrong_given p.version p.stations p.departments then 22
    else when wrong_run (length p.run) then 5
    else when has_kind 6 (records_in p.run) then 7
    else when ltb room (length (file_from p)) then 18
    else 0

-- "and returns its size"; 0 where nothing is written
unfoldable pub written_size : (room : ℕ) (p : DrillParts) → ℕ
written_size room p = size_written (write_refusal room p) (file_from p)

-- "fills a lent buffer with the file .. Bytes behind the file, and a refused buffer, are untouched"
unfoldable pub written_buffer : (buffer : List ℕ) (p : DrillParts) → List ℕ
written_buffer buffer p = buffer_written (write_refusal (length buffer) p) (file_from p) buffer
