-- An accepted file is exactly its parts, in the documented layout; and a file so laid out is accepted, with these parts.
use Prim.Native.Nat.{ℕ, suc, ◌+◌, ◌-◌, ◌*◌, ◌/◌, ◌%◌, ◌≤◌}
use mathlib.Core.Path.{◌≡◌, refl, sym, ap, ap₂, ◌∙◌}
use mathlib.Core.List.{List, [], ◌∷◌, ◌++◌, flatten, append_assoc}
use native.Mathlib.Omega.{arith}
use borrow.Author.Tests.{eq-eqb}
use lib.ListN.{length, get_or, drop, length-append, length-drop, take-append-drop}
use lib.Seq.{drop-cons, drop-drop, take_all, length-take-le, take-append_seam, drop-append_seam}
use Rattle.std.specs.Prelude.{Ok}
use Rattle.base.specs.Bytes.{Bytes, bytes16}
use Rattle.base.specs.Records.{records_from, records_in}
use Rattle.base.proofs.Choices.{on_true}
use Rattle.base.proofs.ByteLaws.{bytes_below, bytes16_of_word}
use Rattle.base.proofs.RecordLaws.{record_length, records_length, record_nth, records_joined, joined_length, records_back, records_drop}
use Rattle.drill_file.specs.DrillFile.{stated_size, version_of, boxes_of, stations_of, label_length, label_part, label_end, department_count, departments_part, records_start, after_header, record_count, file_refusal, header_of, label_of, departments_of, records_of}
use Rattle.drill_file.specs.Claims.{FileParts, LaidOut}
use Rattle.drill_file.specs.Layout.{body_of, file_of}
use Rattle.drill_file.specs.declared.Header.{Header}
use Rattle.drill_file.proofs.TestLaws.{accepted_passed, passed_accepted}
use Rattle.drill_file.proofs.FileLaws.{due_one, due_two, due_most, header_accepted, accepted_values}

-- the first six bytes of a file, and the rest
six : (s : List ℕ) → 6 ≤ length s → s ≡ get_or s 0 0 ∷ get_or s 1 0 ∷ get_or s 2 0 ∷ get_or s 3 0 ∷ get_or s 4 0 ∷ get_or s 5 0 ∷ drop 6 s
six s h =
    cc (drop-cons s 0 0 (omega arith), drop-cons s 1 0 (omega arith), drop-cons s 2 0 (omega arith), drop-cons s 3 0 (omega arith), drop-cons s 4 0 (omega arith), drop-cons s 5 0 (omega arith))

-- the label and the departments of an accepted file
label_is : (s : List ℕ) → file_refusal s ≡ 0 → label_of s ≡ label_part s
unfolding label_of
label_is s e = sym (on_true _ (eq-eqb (file_refusal s) 0 e) refl)

pub departments_are : (s : List ℕ) → file_refusal s ≡ 0 → departments_of s ≡ departments_part s
unfolding departments_of
departments_are s e = sym (on_true _ (eq-eqb (file_refusal s) 0 e) refl)

-- the records are those of the bytes behind the header
pub rest_records : (s : List ℕ) → records_in (drop (records_start s) s) ≡ records_of s
rest_records s =
    ap (λ (k : ℕ). records_from (k / 8) (drop (records_start s) s) 0) (length-drop (records_start s) s)
    ∙ records_drop (record_count s) s (records_start s) 0
    ∙ ap (records_from (record_count s) s) (omega arith)

module _ (s : List ℕ) (e : file_refusal s ≡ 0) where
  -- which are whole records
  pub rest_whole : length (drop (records_start s) s) % 8 ≡ 0
  rest_whole = rw (length-drop (records_start s) s) (accepted_passed s e).recorded.whole

  label_long : length (label_part s) ≡ label_length s
  label_long = length-take-le (label_length s) (drop 6 s) (rw length-drop (omega (arith, (accepted_passed s e).labelled.within)))

  pub departments_long : length (departments_part s) ≡ department_count s
  departments_long = length-take-le (department_count s) (drop (label_end s) s) (rw length-drop (omega (arith, (accepted_passed s e).departments.within)))

  -- header and records fill the file
  pub accepted_size : length s ≡ records_start s + 8 * record_count s
  accepted_size =
      let p = accepted_passed s e in
      omega (arith, p.departments.within, p.recorded.whole)

  -- the joined records are the rest of the file
  pub accepted_rest : flatten (records_of s) ≡ drop (records_start s) s
  accepted_rest =
      records_joined (record_count s) s (records_start s) (omega (arith, accepted_size))
      ∙ take_all (8 * record_count s) (drop (records_start s) s) (rw length-drop (omega (arith, accepted_size)))

  -- the parts are such as a file may have
  pub accepted_parts : FileParts (version_of s) (boxes_of s) (stations_of s) (label_of s) (departments_of s) (records_of s)
  accepted_parts =
      let p = accepted_passed s e in
      let many = records_length (record_count s) s (records_start s) in
      rw (label_is s e, departments_are s e)
      (record {
        versioned = p.version;
        boxes = (p.floored.box_least, p.floored.box_most);
        stations = (p.floored.station_least, p.floored.station_most);
        labelled = rw label_long (p.labelled.some, p.labelled.few);
        printable = p.labelled.printable;
        due = departments_long;
        each = p.departments.each;
        few = rw many p.recorded.few;
        eights = λ i h.
            ap length (record_nth (record_count s) s (records_start s) i [] (rw many at h)) ∙ record_length s (records_start s + 8 * i);
      })

  -- the bytes from the version on
  body_is : version_of s ∷ boxes_of s ∷ stations_of s ∷ label_length s ∷ drop 6 s ≡ body_of (version_of s) (boxes_of s) (stations_of s) (label_of s) (departments_of s) (records_of s)
  unfolding body_of
  body_is =
      rw (label_is s e, label_long, departments_are s e, accepted_rest, ← (drop-drop (department_count s) (label_end s) s), take-append-drop (department_count s) (drop (label_end s) s))
      (rw (← (drop-drop (label_length s) 6 s), take-append-drop (label_length s) (drop 6 s)))

  -- the file is these parts in the documented layout, and nothing else
  pub accepted_exactly : Bytes s → s ≡ file_of (version_of s) (boxes_of s) (stations_of s) (label_of s) (departments_of s) (records_of s)
  unfolding file_of
  accepted_exactly b =
      let z = (accepted_passed s e).sized in
      let size : length (drop 6 s) ≡ length s - 6 = length-drop 6 s in
      let stated : stated_size s ≡ suc (suc (suc (suc (length (drop 6 s))))) = omega (arith, z.stated, z.least) in
      rw (← body_is, ← stated) (cc (six s z.least, bytes16_of_word (get_or s 0 0) (get_or s 1 0) (bytes_below s b 1)))

-- whatever file of bytes the reader accepts is laid out as it says
pub header_layout : (s : List ℕ) → Bytes s → (h : Header) → header_of s ≡ Ok h → LaidOut s h.n h.m h.start h.count
header_layout s b h said =
    let v = accepted_values s h said in
    let e = v.accepted in
    rw (v.boxes, v.stations, v.starts, v.counts)
    (record {
      parts = accepted_parts s e;
      exactly = accepted_exactly s e b;
      starts = rw (label_is s e, departments_are s e, label_long s e, departments_long s e);
      size = accepted_size s e;
      rest = accepted_rest s e;
    })

-- the other way: a file that is written from such parts
module _ (version n m : ℕ) (l ds : List ℕ) (rs : List (List ℕ)) where
  abbrev file : List ℕ
  file = file_of version n m l ds rs

  pub written_version : version_of file ≡ version
  unfolding file_of body_of
  written_version = refl

  module _ (p : FileParts version n m l ds rs) where
    pub written_size_lem : length file ≡ 6 + length l + length ds + 8 * length rs
    unfolding file_of body_of
    written_size_lem = simp (length-append, joined_length rs p.eights) (omega arith)

    stated : stated_size file ≡ length file - 2
    unfolding file_of body_of
    stated = omega arith

    part : label_part file ≡ l
    unfolding file_of body_of
    part = take-append_seam l (ds ++ flatten rs)

    start : records_start file ≡ 6 + length l + length ds
    unfolding file_of body_of
    start = rw (← p.due)

    departments_part_lem : departments_part file ≡ ds
    unfolding file_of body_of
    departments_part_lem = rw (← p.due, ← (drop-drop (length l) 6 file), drop-append_seam l (ds ++ flatten rs)) (take-append_seam ds (flatten rs))

    after : after_header file ≡ 8 * length rs
    after = omega (arith, written_size_lem, start)

    count : record_count file ≡ length rs
    count = omega (arith, after)

    pub written_passed : file_refusal file ≡ 0
    unfolding file_of body_of
    written_passed =
        passed_accepted file
        (record {
          sized = record {
            least = omega (arith, written_size_lem);
            most = omega (arith, written_size_lem, p.labelled.1, p.due, due_most version m, p.stations.1, p.few);
            stated = stated;
          };
          version = p.versioned;
          floored = record { box_least = p.boxes.0; box_most = p.boxes.1; station_least = p.stations.0; station_most = p.stations.1 };
          labelled = record {
            some = p.labelled.0;
            few = p.labelled.1;
            within = omega (arith, written_size_lem);
            printable = rw part p.printable;
          };
          departments = record { within = omega (arith, written_size_lem, start); each = rw departments_part_lem p.each };
          recorded = record { whole = omega (arith, after); few = rw count p.few };
        })

    pub written_accepted : header_of file ≡ Ok (record { n = n; m = m; start = 6 + length l + length ds; count = length rs })
    unfolding file_of body_of
    written_accepted =
        header_accepted file written_passed
        ∙ ap₂ (λ (a k : ℕ). Ok (record { n = n; m = m; start = a; count = k })) start count

    pub written_label : label_of file ≡ l
    written_label = label_is file written_passed ∙ part

    pub written_departments : departments_of file ≡ ds
    written_departments = departments_are file written_passed ∙ departments_part_lem

    pub written_records : records_of file ≡ rs
    unfolding file_of body_of
    written_records =
        let head : List ℕ = bytes16 (length (body_of version n m l ds rs)) ++ (version ∷ n ∷ m ∷ length l ∷ (l ++ ds)) in
        let size : 6 + length l + length ds ≡ length head = omega (arith, length-append l ds) in
        let whole : file ≡ head ++ flatten rs = rw (append_assoc l ds (flatten rs)) in
        ap (λ (k : ℕ). records_from k file (records_start file)) count
        ∙ ap (records_from (length rs) file) (start ∙ size)
        ∙ ap (λ (s : List ℕ). records_from (length rs) s (length head)) whole
        ∙ records_back rs p.eights head

-- a file of version 1, whose department bytes are none
pub one_listed : (n m : ℕ) (l : List ℕ) (rs : List (List ℕ)) → file_of 1 n m l [] rs ≡ bytes16 (4 + length l + length (flatten rs)) ++ (1 ∷ n ∷ m ∷ length l ∷ (l ++ flatten rs))
unfolding file_of body_of
one_listed n m l rs =
    let size : suc (suc (suc (suc (length (l ++ flatten rs))))) ≡ 4 + length l + length (flatten rs) = omega (arith, length-append l (flatten rs)) in
    rw size

-- the department bytes by the version
pub none_in_one : (n m : ℕ) (l ds : List ℕ) (rs : List (List ℕ)) → FileParts 1 n m l ds rs → ds ≡ []
none_in_one n m l [] rs p = refl
none_in_one n m l (d ∷ ds) rs p = absurd (omega (arith, p.due, due_one m))

pub each_in_two : (n m : ℕ) (l ds : List ℕ) (rs : List (List ℕ)) → FileParts 2 n m l ds rs → length ds ≡ m
each_in_two n m l ds rs p = p.due ∙ due_two m
