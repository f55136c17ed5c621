-- What it means that none of the refusals 1 to 5 and 22 applies to a file, both ways.
use Prim.Native.Nat.{ℕ, zero, suc, ◌-◌, ◌/◌, ◌%◌, ◌≤◌, ◌<◌}
use mathlib.Core.Path.{◌≡◌, refl, sym, ap, ◌∙◌}
use mathlib.Core.Bool.{Bool, true, false, not, true≢false}
use mathlib.Core.List.{List, [], ◌∷◌}
use native.Mathlib.Omega.{arith}
use lib.ListN.{length, get_or}
use Rattle.std.proofs.lemmas.Bool.{ltb-false, le-ltb, leb-true, le-leb, eqb-true, eq-eqb, not-false, not_from_true, and_parts, and_from, or_parts, or_from}
use Rattle.base.specs.Choice.{when◌then◌else◌}
use Rattle.base.specs.Numbers.{sizes_right}
use Rattle.base.proofs.Choices.{on_false, by_test, passed}
use Rattle.base.proofs.SizeLaws.{sizes_mean, sizes_hold}
use Rattle.base.proofs.DepartmentLaws.{each_mean, each_hold}
use Rattle.drill_file.specs.Claims.{Sized, Version, Printable, Labelled, Departed, Recorded, Passed, FileTurned, gives_1, gives_2, gives_3, gives_4, gives_22, gives_5, accepts}
use Rattle.drill_file.specs.DrillFile.{stated_size, version_of, boxes_of, stations_of, label_length, label_part, label_end, departments_part, records_start, after_header, outside, any_byte, wrong_size, unknown_version, wrong_version, wrong_floor, wrong_byte, wrong_length, wrong_label, wrong_departments, wrong_run, wrong_records, file_refusal}

module _ (low high : ℕ) where
  outside_means : (b : ℕ) → outside low high b ≡ false → (low ≤ b) × (b ≤ high)
  unfolding outside
  outside_means b e = let a = and_parts _ _ (not-false _ e) in (leb-true low b a.0, leb-true b high a.1)

  outside_holds : (b : ℕ) → (low ≤ b) × (b ≤ high) → outside low high b ≡ false
  unfolding outside
  outside_holds b p = not_from_true _ (and_from _ _ (le-leb low b p.0) (le-leb b high p.1))

  bytes_mean : (l : List ℕ) → any_byte (outside low high) l ≡ false → (i : ℕ) → i < length l → (low ≤ get_or l i 0) × (get_or l i 0 ≤ high)
  unfolding any_byte
  bytes_mean [] e i h = absurd (omega arith)
  bytes_mean (b ∷ l) e zero h = outside_means b (or_parts _ _ e).0
  bytes_mean (b ∷ l) e (suc i) h = bytes_mean l (or_parts _ _ e).1 i (omega arith)

  bytes_hold : (l : List ℕ) → ((i : ℕ) → i < length l → (low ≤ get_or l i 0) × (get_or l i 0 ≤ high)) → any_byte (outside low high) l ≡ false
  unfolding any_byte
  bytes_hold [] h = refl
  bytes_hold (b ∷ l) h = or_from _ _ (outside_holds b (h 0 (omega arith))) (bytes_hold l (λ i k. h (suc i) (omega arith)))

size_means : (s : List ℕ) → wrong_size s ≡ false → Sized s
unfolding wrong_size
size_means s e =
    let a = or_parts _ _ e in
    let b = outside_means 6 32822 (length s) a.0 in
    record { least = b.0; most = b.1; stated = eqb-true (stated_size s) (length s - 2) (not-false _ a.1) }

size_holds : (s : List ℕ) → Sized s → wrong_size s ≡ false
unfolding wrong_size
size_holds s z =
    or_from _ _ (outside_holds 6 32822 (length s) (z.least, z.most)) (not_from_true _ (eq-eqb (stated_size s) (length s - 2) z.stated))

pub version_means : (v : ℕ) → unknown_version v ≡ false → Version v
unfolding unknown_version
version_means = outside_means 1 2

pub version_holds : (v : ℕ) → Version v → unknown_version v ≡ false
unfolding unknown_version
version_holds = outside_holds 1 2

pub letters_mean : (l : List ℕ) → any_byte wrong_byte l ≡ false → (i : ℕ) → i < length l → Printable (get_or l i 0)
unfolding wrong_byte
letters_mean = bytes_mean 33 126

pub letters_hold : (l : List ℕ) → ((i : ℕ) → i < length l → Printable (get_or l i 0)) → any_byte wrong_byte l ≡ false
unfolding wrong_byte
letters_hold = bytes_hold 33 126

pub length_means : (k : ℕ) → wrong_length k ≡ false → (1 ≤ k) × (k ≤ 32)
unfolding wrong_length
length_means = outside_means 1 32

pub length_holds : (k : ℕ) → (1 ≤ k) × (k ≤ 32) → wrong_length k ≡ false
unfolding wrong_length
length_holds = outside_holds 1 32

label_means : (s : List ℕ) → wrong_label s ≡ false → Labelled s
unfolding wrong_label
label_means s e =
    let a = or_parts _ _ e in
    let b = or_parts _ _ a.0 in
    let l = length_means (label_length s) b.0 in
    record { some = l.0; few = l.1; within = ltb-false (length s) (label_end s) b.1; printable = letters_mean (label_part s) a.1 }

label_holds : (s : List ℕ) → Labelled s → wrong_label s ≡ false
unfolding wrong_label
label_holds s l =
    or_from _ _ (or_from _ _ (length_holds (label_length s) (l.some, l.few)) (le-ltb (length s) (label_end s) l.within))
    (letters_hold (label_part s) l.printable)

departments_mean : (s : List ℕ) → wrong_departments s ≡ false → Departed s
unfolding wrong_departments
departments_mean s e =
    let a = or_parts _ _ e in
    record { within = ltb-false (length s) (records_start s) a.0; each = each_mean (departments_part s) a.1 }

departments_hold : (s : List ℕ) → Departed s → wrong_departments s ≡ false
unfolding wrong_departments
departments_hold s d = or_from _ _ (le-ltb (length s) (records_start s) d.within) (each_hold (departments_part s) d.each)

pub run_means : (k : ℕ) → wrong_run k ≡ false → (k % 8 ≡ 0) × (k / 8 ≤ 4096)
unfolding wrong_run
run_means k e = let a = or_parts _ _ e in (eqb-true (k % 8) 0 (not-false _ a.0), ltb-false 4096 (k / 8) a.1)

pub run_holds : (k : ℕ) → (k % 8 ≡ 0) × (k / 8 ≤ 4096) → wrong_run k ≡ false
unfolding wrong_run
run_holds k h = or_from _ _ (not_from_true _ (eq-eqb (k % 8) 0 h.0)) (le-ltb 4096 (k / 8) h.1)

records_mean : (s : List ℕ) → wrong_records s ≡ false → Recorded s
unfolding wrong_records
records_mean s e = let r = run_means (after_header s) e in record { whole = r.0; few = r.1 }

records_hold : (s : List ℕ) → Recorded s → wrong_records s ≡ false
unfolding wrong_records
records_hold s r = run_holds (after_header s) (r.whole, r.few)

pub accepted_passed : (s : List ℕ) → file_refusal s ≡ 0 → Passed s
unfolding file_refusal wrong_version wrong_floor
accepted_passed s e =
    let a = passed _ _ _ e (omega arith) in
    let b = passed _ _ _ a.1 (omega arith) in
    let c = passed _ _ _ b.1 (omega arith) in
    let d = passed _ _ _ c.1 (omega arith) in
    let f = passed _ _ _ d.1 (omega arith) in
    let g = passed _ _ _ f.1 (omega arith) in
    record {
      sized = size_means s a.0;
      version = version_means (version_of s) b.0;
      floored = sizes_mean (boxes_of s) (stations_of s) (not-false _ c.0);
      labelled = label_means s d.0;
      departments = departments_mean s f.0;
      recorded = records_mean s g.0;
    }

pub passed_accepted : (s : List ℕ) → Passed s → file_refusal s ≡ 0
unfolding file_refusal wrong_version wrong_floor
passed_accepted s p =
    sym (on_false _ (size_holds s p.sized) (on_false _ (version_holds (version_of s) p.version)
    (on_false _ (ap not (sizes_hold (boxes_of s) (stations_of s) p.floored))
    (on_false _ (label_holds s p.labelled) (on_false _ (departments_hold s p.departments) (on_false _ (records_hold s p.recorded) refl))))))

-- which refusal applies
wrong_not : {P : Type 0} {t : Bool} → (P → t ≡ false) → t ≡ true → ¬ P
wrong_not h e x = true≢false (sym e ∙ h x)

pub file_turned : (s : List ℕ) → FileTurned s (file_refusal s)
unfolding file_refusal wrong_version wrong_floor
file_turned s =
    choose (wrong_size s) (λ e. gives_1 (wrong_not (size_holds s) e)) (λ e. let a = size_means s e in
    choose (unknown_version (version_of s)) (λ e. gives_2 a (wrong_not (version_holds (version_of s)) e)) (λ e. let b = version_means (version_of s) e in
    choose (not (sizes_right (boxes_of s) (stations_of s))) (λ e. gives_3 a b (wrong_not (λ z. ap not (sizes_hold (boxes_of s) (stations_of s) z)) e))
    (λ e. let c = sizes_mean (boxes_of s) (stations_of s) (not-false _ e) in
    choose (wrong_label s) (λ e. gives_4 a b c (wrong_not (label_holds s) e)) (λ e. let d = label_means s e in
    choose (wrong_departments s) (λ e. gives_22 a b c d (wrong_not (departments_hold s) e)) (λ e. let f = departments_mean s e in
    choose (wrong_records s) (λ e. gives_5 a b c d f (wrong_not (records_hold s) e))
    (λ e. accepts (record { sized = a; version = b; floored = c; labelled = d; departments = f; recorded = records_mean s e })))))))
  where
    choose : (t : Bool) {x y : ℕ} → (t ≡ true → FileTurned s x) → (t ≡ false → FileTurned s y) → FileTurned s (when t then x else y)
    choose t {x} {y} = by_test (FileTurned s) t x y
