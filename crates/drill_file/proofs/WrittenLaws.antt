-- What the writer leaves in a buffer: read back it is the parts that were given, and an accepted file is written again as it was.
use Prim.Native.Nat.{ℕ, ◌+◌, ◌/◌, ◌%◌, ◌≤◌, ◌<◌}
use mathlib.Core.Path.{◌≡◌, refl, sym, ap, ◌∙◌}
use mathlib.Core.List.{List, [], flatten}
use borrow.Author.Tests.{lt-ltb}
use lib.ListN.{length, get_or, drop}
use Rattle.std.specs.Prelude.{Ok}
use Rattle.base.specs.Bytes.{Bytes}
use Rattle.base.specs.Records.{records_in}
use Rattle.base.proofs.Choices.{on_true}
use Rattle.base.proofs.RecordLaws.{records_length}
use Rattle.base.proofs.WritingLaws.{no_size, buffer_kept, size_is, buffer_is, bytes_stand, behind_kept, room_kept}
use Rattle.drill_file.specs.Claims.{PartsRight, WithoutKind6, parts_of, file_in, Filled, Untouched, ReadBack, WrittenAgain}
use Rattle.drill_file.specs.DrillFile.{version_of, boxes_of, stations_of, label_of, departments_of, records_start, file_refusal, header_of, records_of}
use Rattle.drill_file.specs.Layout.{body_of, file_of}
use Rattle.drill_file.specs.Writer.{DrillParts, file_from, write_refusal, written_size, written_buffer}
use Rattle.drill_file.proofs.LayoutLaws.{rest_records, rest_whole, accepted_rest, accepted_parts, accepted_exactly, written_version, written_passed, written_accepted, written_label, written_departments, written_records}
use Rattle.drill_file.proofs.WriterLaws.{run_joined, file_size, unrefused, refused_kind, refused_short, refused_none}

-- a refused buffer
pub left_untouched : (b : List ℕ) (p : DrillParts) → ¬ (write_refusal (length b) p ≡ 0) → Untouched b p
unfolding written_size written_buffer
left_untouched b p f = record { size = no_size _ (file_from p) b f; kept = buffer_kept _ (file_from p) b f }

-- a buffer that is filled
module _ (b : List ℕ) (p : DrillParts) (e : write_refusal (length b) p ≡ 0) where
  file_is : file_in b p ≡ file_from p
  unfolding written_size written_buffer
  file_is = bytes_stand _ (file_from p) b e

  pub left_filled : Filled b p
  unfolding written_size written_buffer
  left_filled =
      let w = unrefused (length b) p e in
      record {
        size = size_is _ (file_from p) b e ∙ file_size p w.whole;
        file = file_is;
        behind = behind_kept _ (file_from p) b e;
        room = room_kept _ (file_from p) b e w.fits;
      }

-- the file of parts that a file may have, read
module _ (p : DrillParts) (f : PartsRight p) where
  from_records : records_of (file_from p) ≡ records_in p.run
  unfolding file_from
  from_records = written_records p.version p.boxes p.stations p.label p.departments (records_in p.run) f

  from_passed : file_refusal (file_from p) ≡ 0
  unfolding file_from
  from_passed = written_passed p.version p.boxes p.stations p.label p.departments (records_in p.run) f

  from_header : header_of (file_from p) ≡ Ok (record { n = p.boxes; m = p.stations; start = 6 + length p.label + length p.departments; count = length p.run / 8 })
  unfolding file_from
  from_header =
      written_accepted p.version p.boxes p.stations p.label p.departments (records_in p.run) f
      ∙ ap (λ (k : ℕ). Ok (record { n = p.boxes; m = p.stations; start = 6 + length p.label + length p.departments; count = k })) (records_length (length p.run / 8) p.run 0)

  from_label : label_of (file_from p) ≡ p.label
  unfolding file_from
  from_label = written_label p.version p.boxes p.stations p.label p.departments (records_in p.run) f

  from_departments : departments_of (file_from p) ≡ p.departments
  unfolding file_from
  from_departments = written_departments p.version p.boxes p.stations p.label p.departments (records_in p.run) f

  from_version : version_of (file_from p) ≡ p.version
  unfolding file_from
  from_version = written_version p.version p.boxes p.stations p.label p.departments (records_in p.run)

  from_boxes : boxes_of (file_from p) ≡ p.boxes
  unfolding file_from file_of body_of
  from_boxes = refl

  from_stations : stations_of (file_from p) ≡ p.stations
  unfolding file_from file_of body_of
  from_stations = refl

  from_run : length p.run % 8 ≡ 0 → drop (records_start (file_from p)) (file_from p) ≡ p.run
  from_run whole = sym (accepted_rest (file_from p) from_passed) ∙ ap flatten from_records ∙ run_joined p.run whole

  from_parts : length p.run % 8 ≡ 0 → parts_of (file_from p) ≡ p
  from_parts whole = rw (from_run whole, from_version, from_boxes, from_stations, from_label, from_departments)

pub reads_back : (b : List ℕ) (p : DrillParts) → write_refusal (length b) p ≡ 0 → ReadBack (file_in b p) p
reads_back b p e =
    let w = unrefused (length b) p e in
    rw (file_is b p e)
    (record { accepted = from_passed p w.parts; header = from_header p w.parts; parts = from_parts p w.parts w.whole; records = from_records p w.parts })

-- so the file tells its parts
pub parts_apart : (b c : List ℕ) (p q : DrillParts) → write_refusal (length b) p ≡ 0 → write_refusal (length c) q ≡ 0 → file_in b p ≡ file_in c q → p ≡ q
parts_apart b c p q e f same = sym (reads_back b p e).parts ∙ ap parts_of same ∙ (reads_back c q f).parts

-- an accepted file, taken apart
module _ (s : List ℕ) (bytes : Bytes s) (e : file_refusal s ≡ 0) where
  taken_file : file_from (parts_of s) ≡ s
  unfolding file_from
  taken_file = rw (rest_records s) (sym (accepted_exactly s e bytes))

  taken_parts : PartsRight (parts_of s)
  taken_parts = rw (rest_records s) (accepted_parts s e)

  pub writes_again : (b : List ℕ) → WithoutKind6 (records_of s) → length s ≤ length b → WrittenAgain b s
  unfolding written_size written_buffer
  writes_again b n h =
      let accepted = refused_none (length b) (parts_of s) (record { parts = taken_parts; whole = rest_whole s e; kinds = rw (rest_records s) n; fits = rw taken_file h }) in
      record {
        accepted = accepted;
        size = size_is _ (file_from (parts_of s)) b accepted ∙ ap length taken_file;
        same = buffer_is _ (file_from (parts_of s)) b accepted ∙ rw taken_file;
      }

  pub writes_short : (b : List ℕ) → WithoutKind6 (records_of s) → length b < length s → write_refusal (length b) (parts_of s) ≡ 18
  writes_short b n h =
      refused_short (length b) (parts_of s) taken_parts (rest_whole s e) (rw (rest_records s) n)
      ∙ sym (on_true _ (lt-ltb (length b) (length (file_from (parts_of s))) (rw taken_file h)) refl)

  pub writes_stops : (room i : ℕ) → i < length (records_of s) → get_or (get_or (records_of s) i []) 0 0 ≡ 6 → write_refusal room (parts_of s) ≡ 7
  writes_stops room i h q = refused_kind room (parts_of s) taken_parts (rest_whole s e) i (rw (rest_records s) h) (rw (rest_records s) q)
