-- Document 01, "The drill file" and the refusals 1 to 5, with the departments of document 02, wish 6, and refusal 22. A file is the list of
-- its bytes; past its end a byte reads 0.
use Rattle.std.specs.Prelude.{ℕ, ◌+◌, ◌-◌, ◌/◌, ◌%◌, Bool, not, ◌&&◌, ◌||◌, if◌then◌else◌, List, [], eqb, leb, ltb, length, get_or, take, drop, Result, Ok, Err}
use Rattle.std.specs.List.{list_any}
use Rattle.base.specs.Choice.{when◌then◌else◌}
use Rattle.base.specs.Numbers.{sizes_right}
use Rattle.base.specs.Departments.{not_departments}
use Rattle.base.specs.Bytes.{word16}
use Rattle.base.specs.Records.{records_from}
use Rattle.base.specs.declared.Refusal.{Refusal}
use Rattle.base.specs.Refusals.{named}
use Rattle.drill_file.specs.declared.Header.{Header}

-- "Two bytes L, big-endian, the number of bytes after them"
abbrev pub stated_size : (s : List ℕ) → ℕ
stated_size s = word16 (get_or s 0 0) (get_or s 1 0)

-- "version byte 1; n; m; label length 1 to 32"; by wish 6 of document 02 the version byte may also be 2
abbrev pub version_of : (s : List ℕ) → ℕ
version_of s = get_or s 2 0

abbrev pub boxes_of : (s : List ℕ) → ℕ
boxes_of s = get_or s 3 0

abbrev pub stations_of : (s : List ℕ) → ℕ
stations_of s = get_or s 4 0

abbrev pub label_length : (s : List ℕ) → ℕ
label_length s = get_or s 5 0

-- "the label": that many bytes, behind the label length
abbrev pub label_part : (s : List ℕ) → List ℕ
label_part s = take (label_length s) (drop 6 s)

-- where the label ends
abbrev pub label_end : (s : List ℕ) → ℕ
label_end s = 6 + label_length s

-- Wish 6 of document 02: "Version 2 of the file has, after the label, one byte a station". How many a file has by its version and m: m
-- in version 2, none in version 1
unfoldable pub departments_due : (version m : ℕ) → ℕ
departments_due version m = if eqb version 2 then m else 0

abbrev pub department_count : (s : List ℕ) → ℕ
department_count s = departments_due (version_of s) (stations_of s)

-- that many bytes, "after the label"
abbrev pub departments_part : (s : List ℕ) → List ℕ
departments_part s = take (department_count s) (drop (label_end s) s)

-- "then records of 8 bytes": where they start, how many bytes stand there, how many records those make
abbrev pub records_start : (s : List ℕ) → ℕ
records_start s = label_end s + department_count s

abbrev pub after_header : (s : List ℕ) → ℕ
after_header s = length s - records_start s

abbrev pub record_count : (s : List ℕ) → ℕ
record_count s = after_header s / 8

-- a byte that is not low to high, and whether a list has a wrong byte
unfoldable pub outside : (low high b : ℕ) → Bool
outside low high b = not (leb low b && leb b high)

unfoldable pub any_byte : (wrong : ℕ → Bool) (bs : List ℕ) → Bool
any_byte wrong bs = list_any wrong bs

-- 1. "The file has fewer than 6 or more than 32,806 bytes, or L is not its size less 2." Wish 6 of document 02: "refusal 1's limit is 32,822
-- bytes"
unfoldable pub wrong_size : (s : List ℕ) → Bool
wrong_size s = outside 6 32822 (length s) || not (eqb (stated_size s) (length s - 2))

-- 2. "The version byte is not 1." Wish 6 of document 02: "refusal 2 passes both", 1 and 2
unfoldable pub unknown_version : (version : ℕ) → Bool
unknown_version version = outside 1 2 version

unfoldable pub wrong_version : (s : List ℕ) → Bool
wrong_version s = unknown_version (version_of s)

-- 3. "n is not 1 to 9 or m is not 1 to 16"
unfoldable pub wrong_floor : (s : List ℕ) → Bool
wrong_floor s = not (sizes_right (boxes_of s) (stations_of s))

-- 4. "The label length is not 1 to 32, or the label passes the end, or a label byte is not 33 to 126."
unfoldable pub wrong_byte : (b : ℕ) → Bool
wrong_byte b = outside 33 126 b

unfoldable pub wrong_length : (k : ℕ) → Bool
wrong_length k = outside 1 32 k

unfoldable pub wrong_label : (s : List ℕ) → Bool
wrong_label s = wrong_length (label_length s) || ltb (length s) (label_end s) || any_byte wrong_byte (label_part s)

-- Wish 6 of document 02: "22, after 4, when a department byte is missing or not 0 or 1"
unfoldable pub wrong_departments : (s : List ℕ) → Bool
wrong_departments s = ltb (length s) (records_start s) || not_departments (departments_part s)

-- 5. "What follows the label is not whole records, or is more than 4,096 of them." By wish 6 of document 02 the departments of version 2
-- are not among what follows. Of that many bytes:
unfoldable pub wrong_run : (k : ℕ) → Bool
wrong_run k = not (eqb (k % 8) 0) || ltb 4096 (k / 8)

unfoldable pub wrong_records : (s : List ℕ) → Bool
wrong_records s = wrong_run (after_header s)

-- "The first that applies is given", by wish 6 of document 02 with 22 "after 4"; 0 where none does: the file is then accepted.
unfoldable pub file_refusal : (s : List ℕ) → ℕ
file_refusal s =
    when wrong_size s then 1
    else when wrong_version s then 2
    else when wrong_floor s then 3
    else when wrong_label s then 4
    else when wrong_departments s then 22
    else when wrong_records s then 5
    else 0

-- what the header's answer is: the refusal, or n, m, where the records start and how many there are
unfoldable pub header_of : (s : List ℕ) → Result Header Refusal
header_of s =
    when eqb (file_refusal s) 0 then Ok (record { n = boxes_of s; m = stations_of s; start = records_start s; count = record_count s })
    else Err (named (file_refusal s))

-- "a definition gives this paper's number and values for each of its cases". The number is `number_in`. The values: "n; m", where the
-- "records of 8 bytes" start and how many there are
pub record HeaderValues : Type 0 where
  pub boxes : ℕ
  pub stations : ℕ
  pub start : ℕ
  pub count : ℕ

-- where the file is refused each is 0
abbrev pub no_values : HeaderValues
no_values = record { boxes = 0; stations = 0; start = 0; count = 0 }

-- those of each case of the answer
abbrev pub header_values : (h : Result Header Refusal) → HeaderValues
header_values (Err r) = no_values
header_values (Ok h) = record { boxes = h.n; stations = h.m; start = h.start; count = h.count }

-- those of a file
unfoldable pub file_values : (s : List ℕ) → HeaderValues
file_values s =
    when eqb (file_refusal s) 0 then record { boxes = boxes_of s; stations = stations_of s; start = records_start s; count = record_count s }
    else no_values

-- a number of an accepted file, 0 of a refused one: where a part of the file starts, and how many bytes it has
abbrev pub if_accepted : (s : List ℕ) (k : ℕ) → ℕ
if_accepted s k = when eqb (file_refusal s) 0 then k else 0

-- "The reader hands back the label as that part of the file"; "a file refused before its records are played gives an empty label"
unfoldable pub label_of : (s : List ℕ) → List ℕ
label_of s = when eqb (file_refusal s) 0 then label_part s else []

-- "with a contract on which part it is": at which byte of the file it starts, behind the label length. The empty label of a refused file
-- lies at the file's start
unfoldable pub label_start : (s : List ℕ) → ℕ
label_start s = when eqb (file_refusal s) 0 then 6 else 0

-- Wish 6 of document 02: the department bytes of an accepted file, "one byte a station: 0 sails, 1 canvas". "Version 1 files are all sails":
-- there it is the empty part. As with the label, so is that of a refused file
unfoldable pub departments_of : (s : List ℕ) → List ℕ
departments_of s = when eqb (file_refusal s) 0 then departments_part s else []

-- at which byte of the file they start, "after the label"; the empty part of a refused file lies at the file's start
unfoldable pub departments_start : (s : List ℕ) → ℕ
departments_start s = when eqb (file_refusal s) 0 then label_end s else 0

-- "then records of 8 bytes": those of an accepted file
abbrev pub records_of : (s : List ℕ) → List (List ℕ)
records_of s = records_from (record_count s) s (records_start s)
