-- What the writer's functions go by: the parts that pass its tests, how long their file is, and the file as four runs of bytes.
use Prim.Native.Nat.{ℕ, zero, suc, ◌+◌, ◌-◌, ◌*◌, ◌/◌, ◌%◌, ◌≤◌, ◌<◌}
use native.Mathlib.Nat.{eq-or-lt_of_le}
use native.Mathlib.Omega.{arith}
use mathlib.Core.Path.{◌≡◌, refl, sym, ap, ap₂, subst, ◌∙◌}
use mathlib.Core.Logic.{inl, inr}
use mathlib.Core.Bool.{Bool, true, false, not}
use mathlib.Core.List.{List, [], ◌∷◌, ◌++◌, flatten, append_assoc}
use borrow.Author.Tests.{le-ltb, ltb-true, ltb-false, eqb-false, eq-eqb, ne_eqb, not-true, not-false}
use lib.Dec.{ltb}
use lib.ListN.{length, get_or, drop, length-append, length-drop}
use lib.Seq.{take_all, drop-drop}
use Rattle.std.specs.Simd.{first_chunks}
use Rattle.std.proofs.lemmas.Bool.{or_parts, or_from}
use Rattle.std.proofs.lemmas.List.Folds.{list_any_at}
use Rattle.base.specs.Bytes.{bytes16, bytes_put}
use Rattle.base.specs.Choice.{when◌then◌else◌}
use Rattle.base.specs.Numbers.{sizes_right}
use Rattle.base.specs.Claims.{Sizes}
use Rattle.base.specs.Records.{records_from, records_in}
use Rattle.base.specs.Refusals.{number}
use Rattle.base.specs.declared.Refusal.{Refusal}
use Rattle.base.proofs.DepartmentLaws.{departments_mean, departments_hold}
use Rattle.base.proofs.Choices.{on_true, on_false, by_test, passed}
use Rattle.base.proofs.PutLaws.{put_fits, two_put, three_put}
use Rattle.base.proofs.RefusalLaws.{number_above}
use Rattle.base.proofs.RecordLaws.{record_length, record_whole, records_length, record_nth, records_joined}
use Rattle.base.proofs.SizeLaws.{sizes_mean, sizes_hold}
use Rattle.base.proofs.WritingLaws.{no_size, buffer_kept, size_is, buffer_is}
use Rattle.drill_file.specs.Claims.{Printable, Department, PartsRight, WithoutKind6, Writable, WriteTurned, gives_2, gives_3, gives_4, gives_22, gives_5, gives_7, gives_18, accepts}
use Rattle.drill_file.specs.DrillFile.{departments_due, unknown_version, wrong_run}
use Rattle.drill_file.specs.Layout.{body_of, file_of}
use Rattle.drill_file.specs.Writer.{DrillParts, file_from, wrong_text, wrong_given, has_kind, write_refusal, written_size, written_buffer}
use Rattle.drill_file.proofs.TestLaws.{version_means, version_holds, letters_mean, letters_hold, length_means, length_holds, run_means, run_holds}
use Rattle.drill_file.proofs.FileLaws.{due_most}

-- the records of a run of whole records, joined, are the run
pub run_joined : (run : List ℕ) → length run % 8 ≡ 0 → flatten (records_in run) ≡ run
run_joined run h =
    records_joined (length run / 8) run 0 (omega arith) ∙ take_all (8 * (length run / 8)) run (omega arith)

-- how many bytes a file has before its records
abbrev pub front_size : DrillParts → ℕ
front_size p = 6 + length p.label + length p.departments

-- the bytes before the label
abbrev pub first_bytes : DrillParts → List ℕ
first_bytes p = bytes16 (front_size p + length p.run - 2) ++ (p.version ∷ p.boxes ∷ p.stations ∷ length p.label ∷ [])

-- so the file is these bytes, the label, the departments and the run
module _ (p : DrillParts) (h : length p.run % 8 ≡ 0) where
  pub file_size : length (file_from p) ≡ front_size p + length p.run
  unfolding file_from file_of body_of
  file_size =
      let rest = flatten (records_in p.run) in
      omega (arith, length-append p.label (p.departments ++ rest), length-append p.departments rest, ap length (run_joined p.run h))

  file_runs : first_bytes p ++ (p.label ++ p.departments) ++ p.run ≡ file_from p
  unfolding file_from file_of body_of
  file_runs =
      let rest = p.label ++ (p.departments ++ p.run) in
      let stated : suc (suc (suc (suc (length rest)))) ≡ front_size p + length p.run - 2 = omega (arith, length-append p.label (p.departments ++ p.run), length-append p.departments p.run) in
      rw (run_joined p.run h, append_assoc p.label p.departments p.run, ← stated)

-- the length of the file by those of its parts
pub short_said : (room : ℕ) (p : DrillParts) → wrong_run (length p.run) ≡ false → ltb room (length (file_from p)) ≡ ltb room (front_size p + length p.run)
short_said room p w = ap (ltb room) (file_size p (run_means (length p.run) w).0)

-- what it means that none of the writer's refusals applies, both ways
module _ (kind : ℕ) where
  abbrev Kind : List (List ℕ) → ℕ → Type 0
  Kind rs i = get_or (get_or rs i []) 0 0 ≡ kind

  -- none of the first so many is, as the code looks at one after the other
  abbrev pub NoneOf : List (List ℕ) → ℕ → Type 0
  NoneOf rs k = (i : ℕ) → i < k → ¬ Kind rs i

  pub none_begins : (rs : List (List ℕ)) → NoneOf rs 0
  none_begins rs i h = absurd (omega arith)

  pub none_further : (rs : List (List ℕ)) (k : ℕ) → NoneOf rs k → ¬ Kind rs k → NoneOf rs (k + 1)
  none_further rs k n u i h = elim (eq-or-lt_of_le h) [
    | inl e ↦ subst (λ (j : ℕ). ¬ Kind rs j) (let e' : suc i ≡ k + 1 = e in omega arith) u
    | inr l ↦ n i (omega (arith, l))
  ]

  kinds_mean : (rs : List (List ℕ)) → has_kind kind rs ≡ false → (i : ℕ) → i < length rs → ¬ Kind rs i
  unfolding has_kind
  kinds_mean [] e i h = absurd (omega arith)
  kinds_mean (r ∷ rs) e zero h = eqb-false _ _ (or_parts _ _ e).0
  kinds_mean (r ∷ rs) e (suc i) h = kinds_mean rs (or_parts _ _ e).1 i (omega arith)

  pub kinds_hold : (rs : List (List ℕ)) → ((i : ℕ) → i < length rs → ¬ Kind rs i) → has_kind kind rs ≡ false
  unfolding has_kind
  kinds_hold [] n = refl
  kinds_hold (r ∷ rs) n = or_from _ _ (ne_eqb _ _ (n 0 (omega arith))) (kinds_hold rs (λ i h. n (suc i) (omega arith)))

  pub kind_holds : (rs : List (List ℕ)) (i : ℕ) → i < length rs → Kind rs i → has_kind kind rs ≡ true
  unfolding has_kind
  kind_holds rs i h e = list_any_at _ rs i [] h (eq-eqb _ _ e)

-- the whole records of a run, as std cuts it, are those of the bytes
whole_records : (k : ℕ) (s : List ℕ) (p : ℕ) → p + 8 * k ≤ length s → first_chunks 8 k (drop p s) ≡ records_from k s p
unfolding records_from
whole_records zero s p h = refl
whole_records (suc k) s p h = ap₂ ◌∷◌ (sym (record_whole s p (omega arith))) (rw (drop-drop 8 p s) (whole_records k s (p + 8) (omega arith)))

pub records_are_whole : (s : List ℕ) → first_chunks 8 (length s / 8) s ≡ records_in s
records_are_whole s = whole_records (length s / 8) s 0 (omega arith)

text_means : (label : List ℕ) → wrong_text label ≡ false → ((1 ≤ length label) × (length label ≤ 32)) × ((i : ℕ) → i < length label → Printable (get_or label i 0))
unfolding wrong_text
text_means label e = let a = or_parts _ _ e in (length_means (length label) a.0, letters_mean label a.1)

text_holds : (label : List ℕ) → (1 ≤ length label) × (length label ≤ 32) → ((i : ℕ) → i < length label → Printable (get_or label i 0)) → wrong_text label ≡ false
unfolding wrong_text
text_holds label h p = or_from _ _ (length_holds (length label) h) (letters_hold label p)

given_means : (version m : ℕ) (ds : List ℕ) → wrong_given version m ds ≡ false → (length ds ≡ departments_due version m) × ((i : ℕ) → i < length ds → Department (get_or ds i 0))
unfolding wrong_given
given_means version m ds e = let d = departments_mean (departments_due version m) ds e in (d.count, d.each)

given_holds : (version m : ℕ) (ds : List ℕ) → length ds ≡ departments_due version m → ((i : ℕ) → i < length ds → Department (get_or ds i 0)) → wrong_given version m ds ≡ false
unfolding wrong_given
given_holds version m ds h d = departments_hold (departments_due version m) ds (record { count = h; each = d })

module _ (room : ℕ) (p : DrillParts) where
  pub unrefused : write_refusal room p ≡ 0 → Writable room p
  unfolding write_refusal
  unrefused e =
      let a = passed _ _ _ e (omega arith) in
      let b = passed _ _ _ a.1 (omega arith) in
      let c = passed _ _ _ b.1 (omega arith) in
      let d = passed _ _ _ c.1 (omega arith) in
      let f = passed _ _ _ d.1 (omega arith) in
      let k = passed _ _ _ f.1 (omega arith) in
      let g = passed _ _ _ k.1 (omega arith) in
      let z = sizes_mean p.boxes p.stations (not-false _ b.0) in
      let t = text_means p.label c.0 in
      let y = given_means p.version p.stations p.departments d.0 in
      let r = run_means (length p.run) f.0 in
      let many = records_length (length p.run / 8) p.run 0 in
      record {
        parts = record {
          versioned = version_means p.version a.0;
          boxes = (z.box_least, z.box_most);
          stations = (z.station_least, z.station_most);
          labelled = t.0;
          printable = t.1;
          due = y.0;
          each = y.1;
          few = rw many r.1;
          eights = λ i h. ap length (record_nth (length p.run / 8) p.run 0 i [] (rw many at h)) ∙ record_length p.run (0 + 8 * i);
        };
        whole = r.0;
        kinds = kinds_mean 6 (records_in p.run) k.0;
        fits = ltb-false room (length (file_from p)) g.0;
      }

  -- parts that a file may have are refused for a record of kind 6, and for want of room alone
  refused_late : PartsRight p → length p.run % 8 ≡ 0
      → write_refusal room p ≡ (when has_kind 6 (records_in p.run) then 7 else when ltb room (length (file_from p)) then 18 else 0)
  unfolding write_refusal
  refused_late f whole =
      let few = rw (records_length (length p.run / 8) p.run 0) at f.few in
      let sizes : Sizes p.boxes p.stations = record { box_least = f.boxes.0; box_most = f.boxes.1; station_least = f.stations.0; station_most = f.stations.1 } in
      sym (on_false _ (version_holds p.version f.versioned) (on_false _ (ap not (sizes_hold p.boxes p.stations sizes))
      (on_false _ (text_holds p.label f.labelled f.printable) (on_false _ (given_holds p.version p.stations p.departments f.due f.each)
      (on_false _ (run_holds (length p.run) (whole, few)) refl)))))

  pub refused_kind : PartsRight p → length p.run % 8 ≡ 0 → (i : ℕ) → i < length (records_in p.run) → Kind 6 (records_in p.run) i → write_refusal room p ≡ 7
  refused_kind f whole i h e = refused_late f whole ∙ sym (on_true _ (kind_holds 6 (records_in p.run) i h e) refl)

  pub refused_short : PartsRight p → length p.run % 8 ≡ 0 → WithoutKind6 (records_in p.run)
      → write_refusal room p ≡ (when ltb room (length (file_from p)) then 18 else 0)
  refused_short f whole n = refused_late f whole ∙ sym (on_false _ (kinds_hold 6 (records_in p.run) n) refl)

  pub refused_none : Writable room p → write_refusal room p ≡ 0
  refused_none w = refused_short w.parts w.whole w.kinds ∙ sym (on_false _ (le-ltb room (length (file_from p)) w.fits) refl)

  -- which refusal applies
  pub write_turned : WriteTurned room p (write_refusal room p)
  unfolding write_refusal
  write_turned =
      choose (unknown_version p.version) gives_2 (λ a.
      choose (not (sizes_right p.boxes p.stations)) (λ e. gives_3 a (not-true _ e)) (λ e. let b = not-false _ e in
      choose (wrong_text p.label) (gives_4 a b) (λ c.
      choose (wrong_given p.version p.stations p.departments) (gives_22 (a, b, c)) (λ d.
      choose (wrong_run (length p.run)) (gives_5 (a, b, c) d) (λ f.
      choose (has_kind 6 (records_in p.run)) (gives_7 ((a, b, c), d, f)) (λ k.
      choose (ltb room (length (file_from p))) (λ e. gives_18 ((a, b, c), d, f) k (ltb-true room (length (file_from p)) e))
      (λ e. accepts ((a, b, c), d, f) k (ltb-false room (length (file_from p)) e))))))))
    where
      choose : (t : Bool) {x y : ℕ} → (t ≡ true → WriteTurned room p x) → (t ≡ false → WriteTurned room p y) → WriteTurned room p (when t then x else y)
      choose t {x} {y} = by_test (WriteTurned room p) t x y

  -- such parts are short
  pub parts_short : write_refusal room p ≡ 0 → (length p.label ≤ 32) × (length p.departments ≤ 16) × (length p.run ≤ 32768)
  parts_short z =
      let w = unrefused z in
      let few = rw (records_length (length p.run / 8) p.run 0) at w.parts.few in
      (w.parts.labelled.1, omega (arith, w.parts.due, due_most p.version p.stations, w.parts.stations.1), omega (arith, w.whole))

-- what is said and left where they are refused
module _ (b : List ℕ) (p : DrillParts) (r : Refusal) (e : number r ≡ write_refusal (length b) p) where
  refuses : ¬ (write_refusal (length b) p ≡ 0)
  refuses z = number_above r (e ∙ z)

  pub refused_size : written_size (length b) p ≡ 0
  unfolding written_size
  refused_size = no_size _ (file_from p) b refuses

  pub refused_buffer : written_buffer b p ≡ b
  unfolding written_buffer
  refused_buffer = buffer_kept _ (file_from p) b refuses

-- and where nothing is refused
module _ (b : List ℕ) (p : DrillParts) (z : write_refusal (length b) p ≡ 0) where
  pub written_said : (first b₁ b₂ b₃ b₄ : List ℕ)
      → first ≡ first_bytes p
      → b₁ ≡ bytes_put b 0 first
      → b₂ ≡ bytes_put b₁ 6 p.label
      → b₃ ≡ bytes_put b₂ (6 + length p.label) p.departments
      → b₄ ≡ bytes_put b₃ (front_size p) p.run
      → (front_size p + length p.run ≡ written_size (length b) p) × (b₄ ≡ written_buffer b p)
  unfolding written_size written_buffer
  written_said first b₁ b₂ b₃ b₄ f g₁ g₂ g₃ g₄ =
      let w = unrefused (length b) p z in
      let size = file_size p w.whole in
      let six : length first ≡ 6 = ap length f in
      let one : length (bytes_put b 0 first) ≡ length b = rw (put_fits b 0 first (omega (arith, w.fits))) (simp (length-append, length-drop) (omega (arith, w.fits))) in
      let joined = two_put (bytes_put b 0 first) 6 p.label p.departments (omega (arith, w.fits)) in
      let front = length-append p.label p.departments in
      let seam : 6 + (length p.label + length p.departments) ≡ front_size p = omega arith in
      let runs = rw (six, front, seam) at (three_put b first (p.label ++ p.departments) p.run (omega (arith, w.fits))) in
      let file = ap (λ (h : List ℕ). h ++ (p.label ++ p.departments) ++ p.run) f ∙ file_runs p w.whole in
      (sym (size_is _ (file_from p) b z ∙ size), rw (buffer_is _ (file_from p) b z, g₄, g₃, g₂, g₁, joined, size) (runs ∙ ap (λ (s : List ℕ). s ++ drop (front_size p + length p.run) b) file))
