-- What is claimed of a file that is read, of one that is laid out from its parts, and of the writer. The proofs are `file_claims` and
-- `writer_claims` in proofs/Claims.
use Rattle.std.specs.Prelude.{ℕ, ◌+◌, ◌-◌, ◌*◌, ◌/◌, ◌%◌, ◌≤◌, ◌<◌, ◌≡◌, true, false, length, get_or, take, drop, Ok}
use mathlib.Core.List.{List, [], ◌∷◌, ◌++◌, flatten}
use Rattle.base.specs.Bytes.{Bytes, bytes16}
use Rattle.base.specs.Records.{records_from, records_in}
use Rattle.base.specs.Numbers.{sizes_right}
use Rattle.base.specs.Claims.{Sizes}
use Rattle.base.specs.Refusals.{number_in}
use Rattle.drill_file.specs.DrillFile.{stated_size, unknown_version, wrong_run, version_of, boxes_of, stations_of, label_length, label_part, label_end, departments_due, departments_part, records_start, after_header, record_count, file_refusal, header_of, header_values, file_values, label_of, departments_of, records_of}
use Rattle.drill_file.specs.Layout.{file_of}
use Rattle.drill_file.specs.Writer.{DrillParts, parts_given, file_from, wrong_text, wrong_given, has_kind, write_refusal, written_size, written_buffer}
use Rattle.drill_file.specs.declared.Header.{Header}

-- refusal 1; wish 6 of document 02: "refusal 1's limit is 32,822 bytes"
pub record Sized (s : List ℕ) : Type 0 where
  pub least : 6 ≤ length s
  pub most : length s ≤ 32822
  pub stated : stated_size s ≡ length s - 2

-- refusal 2. Wish 6 of document 02: "the writer .. makes and refusal 2 passes both", version 1 and version 2
abbrev pub Version : ℕ → Type 0
Version v = (1 ≤ v) × (v ≤ 2)

-- refusal 4
abbrev pub Printable : ℕ → Type 0
Printable b = (33 ≤ b) × (b ≤ 126)

pub record Labelled (s : List ℕ) : Type 0 where
  pub some : 1 ≤ label_length s
  pub few : label_length s ≤ 32
  pub within : label_end s ≤ length s
  pub printable : (i : ℕ) → i < length (label_part s) → Printable (get_or (label_part s) i 0)

-- refusal 22. Wish 6 of document 02: "0 sails, 1 canvas"
abbrev pub Department : ℕ → Type 0
Department b = b ≤ 1

pub record Departed (s : List ℕ) : Type 0 where
  -- none is missing
  pub within : records_start s ≤ length s
  pub each : (i : ℕ) → i < length (departments_part s) → Department (get_or (departments_part s) i 0)

-- refusal 5
pub record Recorded (s : List ℕ) : Type 0 where
  pub whole : after_header s % 8 ≡ 0
  pub few : record_count s ≤ 4096

-- none of 1 to 5 and 22 applies
pub record Passed (s : List ℕ) : Type 0 where
  pub sized : Sized s
  pub version : Version (version_of s)
  pub floored : Sizes (boxes_of s) (stations_of s)
  pub labelled : Labelled s
  pub departments : Departed s
  pub recorded : Recorded s

-- Which number turns a file back, for which cause, and that none before it applies: 1, 2, 3, 4, 22, 5, and 0 where none does.
pub data FileTurned (s : List ℕ) : ℕ → Type 0 where
  gives_1 : ¬ Sized s → FileTurned s 1
  gives_2 : Sized s → ¬ Version (version_of s) → FileTurned s 2
  gives_3 : Sized s → Version (version_of s) → ¬ Sizes (boxes_of s) (stations_of s) → FileTurned s 3
  gives_4 : Sized s → Version (version_of s) → Sizes (boxes_of s) (stations_of s) → ¬ Labelled s → FileTurned s 4
  gives_22 : Sized s → Version (version_of s) → Sizes (boxes_of s) (stations_of s) → Labelled s → ¬ Departed s → FileTurned s 22
  gives_5 : Sized s → Version (version_of s) → Sizes (boxes_of s) (stations_of s) → Labelled s → Departed s → ¬ Recorded s → FileTurned s 5
  accepts : Passed s → FileTurned s 0

pub record Values (s : List ℕ) (n m start count : ℕ) : Type 0 where
  pub accepted : file_refusal s ≡ 0
  pub boxes : n ≡ boxes_of s
  pub stations : m ≡ stations_of s
  pub starts : start ≡ records_start s
  pub counts : count ≡ record_count s

-- the parts that a file may have
pub record FileParts (version n m : ℕ) (label departments : List ℕ) (records : List (List ℕ)) : Type 0 where
  pub versioned : Version version
  -- "n boxes (1 to 9 ..) and m stations (1 to 16 ..)"
  pub boxes : (1 ≤ n) × (n ≤ 9)
  pub stations : (1 ≤ m) × (m ≤ 16)
  -- "label length 1 to 32; the label, bytes 33 to 126"
  pub labelled : (1 ≤ length label) × (length label ≤ 32)
  pub printable : (i : ℕ) → i < length label → Printable (get_or label i 0)
  -- wish 6 of document 02: in version 2 "one byte a station: 0 sails, 1 canvas", in version 1 none
  pub due : length departments ≡ departments_due version m
  pub each : (i : ℕ) → i < length departments → Department (get_or departments i 0)
  -- "records of 8 bytes, at most 4,096"
  pub few : length records ≤ 4096
  pub eights : (i : ℕ) → i < length records → length (get_or records i []) ≡ 8

-- a file, read as n, m and count records from start on, is exactly these parts, its version, its label and its departments, in the
-- documented layout
pub record LaidOut (s : List ℕ) (n m start count : ℕ) : Type 0 where
  pub parts : FileParts (version_of s) n m (label_of s) (departments_of s) (records_from count s start)
  pub exactly : s ≡ file_of (version_of s) n m (label_of s) (departments_of s) (records_from count s start)
  -- the records are the rest of the file
  pub starts : start ≡ 6 + length (label_of s) + length (departments_of s)
  pub size : length s ≡ start + 8 * count
  pub rest : flatten (records_from count s start) ≡ drop start s

-- What holds of every file, and of every file laid out.
pub record FileClaims : Type 0 where
  -- a file is accepted exactly where none of the refusals 1 to 5 and 22 applies
  pub passes : (s : List ℕ) → file_refusal s ≡ 0 → Passed s
  pub accepted : (s : List ℕ) → Passed s → file_refusal s ≡ 0
  pub turned : (s : List ℕ) → FileTurned s (file_refusal s)
  -- the header's answer gives this number, and these values, 0 where it is refused
  pub number : (s : List ℕ) → number_in (header_of s) ≡ file_refusal s
  pub given : (s : List ℕ) → header_values (header_of s) ≡ file_values s
  pub no_values_lem : (s : List ℕ) → ¬ (file_refusal s ≡ 0) → file_values s ≡ record { boxes = 0; stations = 0; start = 0; count = 0 }
  pub values : (s : List ℕ) (h : Header) → header_of s ≡ Ok h → Values s h.n h.m h.start h.count
  -- an accepted file is exactly its parts, in the documented layout
  pub layout : (s : List ℕ) → Bytes s → (h : Header) → header_of s ≡ Ok h → LaidOut s h.n h.m h.start h.count
  -- parts that a file may have, laid out, are read back
  pub reads : (version n m : ℕ) (l ds : List ℕ) (rs : List (List ℕ)) → FileParts version n m l ds rs
      → header_of (file_of version n m l ds rs) ≡ Ok (record { n = n; m = m; start = 6 + length l + length ds; count = length rs })
  pub version : (version n m : ℕ) (l ds : List ℕ) (rs : List (List ℕ)) → version_of (file_of version n m l ds rs) ≡ version
  pub label : (version n m : ℕ) (l ds : List ℕ) (rs : List (List ℕ)) → FileParts version n m l ds rs → label_of (file_of version n m l ds rs) ≡ l
  pub departments : (version n m : ℕ) (l ds : List ℕ) (rs : List (List ℕ)) → FileParts version n m l ds rs → departments_of (file_of version n m l ds rs) ≡ ds
  pub records : (version n m : ℕ) (l ds : List ℕ) (rs : List (List ℕ)) → FileParts version n m l ds rs → records_of (file_of version n m l ds rs) ≡ rs
  -- a file of version 1 is byte for byte what document 01 lists
  pub listed : (n m : ℕ) (l : List ℕ) (rs : List (List ℕ)) → file_of 1 n m l [] rs ≡ bytes16 (4 + length l + length (flatten rs)) ++ (1 ∷ n ∷ m ∷ length l ∷ (l ++ flatten rs))
  -- wish 6 of document 02: "Version 1 files are all sails", with no department byte; "Version 2 .. has .. one byte a station"
  pub one : (n m : ℕ) (l ds : List ℕ) (rs : List (List ℕ)) → FileParts 1 n m l ds rs → ds ≡ []
  pub two : (n m : ℕ) (l ds : List ℕ) (rs : List (List ℕ)) → FileParts 2 n m l ds rs → length ds ≡ m

-- ---- The writer

-- a file may have these parts
abbrev pub PartsRight : (p : DrillParts) → Type 0
PartsRight p = FileParts p.version p.boxes p.stations p.label p.departments (records_in p.run)

-- Wish 8 of document 02: "files without kind 6". No record is of kind 6, by its first byte.
abbrev pub WithoutKind6 : (records : List (List ℕ)) → Type 0
WithoutKind6 records = (i : ℕ) → i < length records → ¬ (get_or (get_or records i []) 0 0 ≡ 6)

-- none of its refusals applies: a file may have these parts, none of its records is of kind 6, and the buffer has room for it
pub record Writable (room : ℕ) (p : DrillParts) : Type 0 where
  pub parts : PartsRight p
  pub whole : length p.run % 8 ≡ 0
  pub kinds : WithoutKind6 (records_in p.run)
  pub fits : length (file_from p) ≤ room

-- Which number turns the writer back, for which test, and that none before it applies: 2, 3, 4, 22, 5, 7, 18, and 0 where none does.
module _ (room : ℕ) (p : DrillParts) where
  abbrev pub Labelling : Type 0
  Labelling = (unknown_version p.version ≡ false) × (sizes_right p.boxes p.stations ≡ true) × (wrong_text p.label ≡ false)

  abbrev pub Running : Type 0
  Running = Labelling × (wrong_given p.version p.stations p.departments ≡ false) × (wrong_run (length p.run) ≡ false)

  pub data WriteTurned : ℕ → Type 0 where
    gives_2 : unknown_version p.version ≡ true → WriteTurned 2
    gives_3 : unknown_version p.version ≡ false → sizes_right p.boxes p.stations ≡ false → WriteTurned 3
    gives_4 : unknown_version p.version ≡ false → sizes_right p.boxes p.stations ≡ true → wrong_text p.label ≡ true → WriteTurned 4
    gives_22 : Labelling → wrong_given p.version p.stations p.departments ≡ true → WriteTurned 22
    gives_5 : Labelling → wrong_given p.version p.stations p.departments ≡ false → wrong_run (length p.run) ≡ true → WriteTurned 5
    gives_7 : Running → has_kind 6 (records_in p.run) ≡ true → WriteTurned 7
    gives_18 : Running → has_kind 6 (records_in p.run) ≡ false → room < length (file_from p) → WriteTurned 18
    accepts : Running → has_kind 6 (records_in p.run) ≡ false → length (file_from p) ≤ room → WriteTurned 0

-- the parts that a file has for its reader; the run is what stands from the start of the records on
abbrev pub parts_of : (s : List ℕ) → DrillParts
parts_of s = parts_given (version_of s) (boxes_of s) (stations_of s) (label_of s) (departments_of s) (drop (records_start s) s)

-- the bytes that a caller takes for the file: as many of the buffer's first as the writer says
abbrev pub file_in : (buffer : List ℕ) (p : DrillParts) → List ℕ
file_in buffer p = take (written_size (length buffer) p) (written_buffer buffer p)

-- "fills a lent buffer with the file and returns its size"; "Bytes behind the file .. are untouched"
pub record Filled (buffer : List ℕ) (p : DrillParts) : Type 0 where
  pub size : written_size (length buffer) p ≡ 6 + length p.label + length p.departments + length p.run
  pub file : file_in buffer p ≡ file_from p
  pub behind : drop (written_size (length buffer) p) (written_buffer buffer p) ≡ drop (written_size (length buffer) p) buffer
  pub room : length (written_buffer buffer p) ≡ length buffer

-- "a refused buffer [is] untouched"
pub record Untouched (buffer : List ℕ) (p : DrillParts) : Type 0 where
  pub size : written_size (length buffer) p ≡ 0
  pub kept : written_buffer buffer p ≡ buffer

-- "Reading back gives the same parts": the file is accepted, and its n, m, label and records are those given, by wish 6 its version and its
-- departments too
pub record ReadBack (s : List ℕ) (p : DrillParts) : Type 0 where
  pub accepted : file_refusal s ≡ 0
  pub header : header_of s ≡ Ok (record { n = p.boxes; m = p.stations; start = 6 + length p.label + length p.departments; count = length p.run / 8 })
  pub parts : parts_of s ≡ p
  pub records : records_of s ≡ records_in p.run

-- "an accepted file written again is the same file"; wish 8: "writing again speaks of files without kind 6"
pub record WrittenAgain (buffer s : List ℕ) : Type 0 where
  pub accepted : write_refusal (length buffer) (parts_of s) ≡ 0
  pub size : written_size (length buffer) (parts_of s) ≡ length s
  pub same : written_buffer buffer (parts_of s) ≡ s ++ drop (length s) buffer

-- What holds of the writer, for every buffer and all parts.
pub record WriterClaims : Type 0 where
  -- a file is written exactly where none of 2, 3, 4, 22, 5, 7 and 18 applies
  pub writable : (buffer : List ℕ) (p : DrillParts) → write_refusal (length buffer) p ≡ 0 → Writable (length buffer) p
  pub writes : (buffer : List ℕ) (p : DrillParts) → Writable (length buffer) p → write_refusal (length buffer) p ≡ 0
  pub turned : (room : ℕ) (p : DrillParts) → WriteTurned room p (write_refusal room p)
  pub filled : (buffer : List ℕ) (p : DrillParts) → write_refusal (length buffer) p ≡ 0 → Filled buffer p
  pub untouched : (buffer : List ℕ) (p : DrillParts) → ¬ (write_refusal (length buffer) p ≡ 0) → Untouched buffer p
  pub back : (buffer : List ℕ) (p : DrillParts) → write_refusal (length buffer) p ≡ 0 → ReadBack (file_in buffer p) p
  -- an accepted file without kind 6, taken apart and written again; 18 where the buffer is shorter than the file
  pub again : (s buffer : List ℕ) → Bytes s → file_refusal s ≡ 0 → WithoutKind6 (records_of s) → length s ≤ length buffer → WrittenAgain buffer s
  pub short : (s buffer : List ℕ) → Bytes s → file_refusal s ≡ 0 → WithoutKind6 (records_of s) → length buffer < length s → write_refusal (length buffer) (parts_of s) ≡ 18
  -- one with kind 6, in whichever record, is turned back with 7, whatever the buffer
  pub stops : (s : List ℕ) (room : ℕ) → Bytes s → file_refusal s ≡ 0 → (i : ℕ) → i < length (records_of s) → get_or (get_or (records_of s) i []) 0 0 ≡ 6
      → write_refusal room (parts_of s) ≡ 7
  -- two different sets of parts never make the same file, nor do two versions
  pub apart : (b c : List ℕ) (p q : DrillParts) → write_refusal (length b) p ≡ 0 → write_refusal (length c) q ≡ 0 → file_in b p ≡ file_in c q → p ≡ q
