-- Playing a file, by its header's answer.
use Prim.Native.Nat.{ℕ, zero, suc, ◌-◌, ◌%◌, ◌≤◌}
use native.Mathlib.Omega.{arith}
use mathlib.Core.Path.{◌≡◌, refl, sym, ap, ap₂, subst, ◌∙◌}
use mathlib.Core.List.{List, [], ◌∷◌}
use lib.ListN.{length, take, drop, replicate, length-drop}
use lib.Seq.{take_all}
use borrow.Author.Tests.{eq-eqb, ne_eqb}
use Rattle.std.specs.Prelude.{Some, Ok}
use Rattle.base.proofs.Choices.{on_true, on_false}
use Rattle.base.specs.Refusals.{number, number_if, named}
use Rattle.base.proofs.RefusalLaws.{on_refused}
use Rattle.base.specs.declared.Refusal.{Refusal}
use Rattle.base.specs.Records.{records_in}
use Rattle.base.specs.Choice.{when◌then◌else◌}
use Rattle.base.specs.Numbers.{sizes_right}
use Rattle.base.specs.Departments.{departments_wrong, not_departments, not_department}
use Rattle.floor.specs.Floors.{department_from, stations_told, empty_floor, new_floor_of}
use Rattle.floor.specs.declared.Floor.{Floor}
use Rattle.floor.specs.Runs.{played_on, played_in}
use Rattle.floor.specs.RunClaims.{PlayedOver}
use Rattle.floor.proofs.SoundLaws.{sound_holds}
use Rattle.floor.proofs.EmptyFloors.{new_sound}
use Rattle.floor.proofs.RunCalls.{run_0, played_whole}
use Rattle.floor.proofs.RunMeans.{run_played}
use Rattle.drill_file.specs.DrillFile.{boxes_of, stations_of, departments_of, records_start, file_refusal, header_of, records_of}
use Rattle.drill_file.specs.Claims.{Values, file_in}
use Rattle.drill_file.specs.Writer.{DrillParts, write_refusal}
use Rattle.drill_file.proofs.FileLaws.{refused_number, accepted_values}
use Rattle.drill_file.proofs.TestLaws.{accepted_passed}
use Rattle.drill_file.proofs.LayoutLaws.{rest_records, rest_whole}
use Rattle.drill_file.proofs.Claims.{writer_claims}
use Rattle.player.specs.Play.{told_from, told_in, played_of}
use Rattle.floor.specs.declared.NewFloor.{NewFloor}
use Rattle.drill_file.specs.declared.Header.{Header}
use Rattle.player.specs.Claims.{PlayerClaims}
use Rattle.floor.specs.declared.Played.{Played}

-- the new floor of one box and one station, sails
one_by_one : (new_floor_of 1 1 (0 ∷ [])).floor ≡ empty_floor 1 1 []
unfolding new_floor_of sizes_right departments_wrong not_departments not_department stations_told department_from when◌then◌else◌
one_by_one = refl

-- an accepted file's run
pub played_accepted : (s : List ℕ) → file_refusal s ≡ 0 → played_of s ≡ played_on (new_floor_of (boxes_of s) (stations_of s) (told_in s)).floor (records_of s)
unfolding played_of
played_accepted s e = sym (on_true _ (eq-eqb _ _ e) refl)

-- a file that is refused: the floor of one box and one station, no steps
pub played_refused : (s : List ℕ) → (file_refusal s ≡ 0 → ⊥) → played_of s ≡ record { floor = empty_floor 1 1 []; accepted = 0; refusal = Some (named (file_refusal s)) }
unfolding played_of
played_refused s e = sym (on_false _ (ne_eqb _ _ e) refl)

-- its refusal has its number
pub refused_named : (s : List ℕ) → (file_refusal s ≡ 0 → ⊥) → number (named (file_refusal s)) ≡ file_refusal s
unfolding header_of
refused_named s e = sym (refused_number s (named (file_refusal s)) (sym (on_false _ (ne_eqb _ _ e) refl))).0

refused_played : (s : List ℕ) → (file_refusal s ≡ 0 → ⊥) → number_if (played_of s).refusal ≡ file_refusal s
refused_played s e = ap (λ (x : Played). number_if x.refusal) (played_refused s e) ∙ refused_named s e

-- whole records on a new floor, which is sound: nothing turns them back before the first step
whole_played : (n m : ℕ) (d l : List ℕ) → length l % 8 ≡ 0 → played_in (new_floor_of n m d).floor l ≡ played_on (new_floor_of n m d).floor (records_in l)
whole_played n m d l whole =
    let f = (new_floor_of n m d).floor in
    sym (played_whole f l {A = ℕ} (Ok 0) (run_0 f l (sound_holds f (new_sound n m d)) whole) 0 refl (played_on f (records_in l)) refl)

-- the first m of sixteen zeros
zeros : (m k : ℕ) → m ≤ k → take {A = ℕ} m (replicate k 0) ≡ replicate m 0
zeros zero k h = refl
zeros (suc m) zero h = absurd (omega arith)
zeros (suc m) (suc k) h = ap (λ (l : List ℕ). 0 ∷ l) (zeros m k (omega arith))

-- the department bytes of a file, or m zeros where it has none
pub told_none : (m : ℕ) (l : List ℕ) → m ≤ 16 → length l ≡ 0 → told_from m l ≡ take m (replicate 16 0)
unfolding told_from
told_none m l h e = sym (zeros m 16 h ∙ on_true _ (eq-eqb _ _ e) refl)

pub told_some : (m : ℕ) (l : List ℕ) → ¬ (length l ≡ 0) → told_from m l ≡ l
unfolding told_from
told_some m l e = sym (on_false _ (ne_eqb _ _ e) refl)

module _ (s : List ℕ) where
  pub header_refused : (r : Refusal) (x : NewFloor) → number r ≡ file_refusal s → x ≡ new_floor_of 1 1 (0 ∷ []) → record { floor = x.floor; accepted = 0; refusal = Some r } ≡ played_of s
  unfolding played_of
  header_refused r x e ex =
      let g : x.floor ≡ empty_floor 1 1 [] = ap (λ (y : NewFloor). y.floor) ex ∙ one_by_one in
      rw g (on_refused (λ (r : Refusal). record { floor = empty_floor 1 1 []; accepted = 0; refusal = Some r }) r _ e)

  module _ (h : Header) (q : Ok h ≡ header_of s) where
    values : Values s h.n h.m h.start h.count
    values = accepted_values s h (sym q)

    -- the records start behind the header, and within the file
    pub start_within : h.start ≤ length s
    start_within = let w = (accepted_passed s values.accepted).departments.within in omega (arith, values.starts)

    pub stations_most : h.m ≤ 16
    stations_most = omega (arith, values.stations, (accepted_passed s values.accepted).floored.station_most)

    rest : take (length s - h.start) (drop h.start s) ≡ drop h.start s
    rest = take_all (length s - h.start) (drop h.start s) (rw length-drop (omega arith))

    -- the new floor
    abbrev first : Floor
    first = (new_floor_of h.n h.m (told_from h.m (departments_of s))).floor

    -- they are whole
    records : played_in first (drop h.start s) ≡ played_on first (records_of s)
    records =
        rw values.starts (whole_played h.n h.m (told_from h.m (departments_of s)) (drop (records_start s) s) (rest_whole s values.accepted) ∙ ap (played_on first) (rest_records s))

    pub header_played : (d : List ℕ) (y : Played) → d ≡ departments_of s → y ≡ played_in (new_floor_of h.n h.m (told_from h.m d)).floor (take (length s - h.start) (drop h.start s)) → y ≡ played_of s
    header_played d y ed ey =
        ey ∙ ap (λ (x : List ℕ). played_in (new_floor_of h.n h.m (told_from h.m x)).floor (take (length s - h.start) (drop h.start s))) ed
        ∙ ap (played_in first) rest ∙ records
        ∙ ap₂ (λ (a b : ℕ). played_on (new_floor_of a b (told_from b (departments_of s))).floor (records_of s)) values.boxes values.stations
        ∙ sym (played_accepted s values.accepted)

-- a file that was written
pub played_written : (b : List ℕ) (p : DrillParts) → write_refusal (length b) p ≡ 0
    → played_of (file_in b p) ≡ played_in (new_floor_of p.boxes p.stations (told_from p.stations p.departments)).floor p.run
played_written b p e =
    let w = writer_claims in
    let r = w.back b p e in
    let v = accepted_values (file_in b p) _ r.header in
    let d : departments_of (file_in b p) ≡ p.departments = ap (λ (x : DrillParts). x.departments) r.parts in
    played_accepted (file_in b p) r.accepted
    ∙ ap₂ (λ (n m : ℕ). played_on (new_floor_of n m (told_from m (departments_of (file_in b p)))).floor (records_of (file_in b p))) (sym v.boxes) (sym v.stations)
    ∙ ap₂ (λ (x : List ℕ) (l : List (List ℕ)). played_on (new_floor_of p.boxes p.stations (told_from p.stations x)).floor l) d r.records
    ∙ (sym (whole_played p.boxes p.stations (told_from p.stations p.departments) p.run (w.writable b p e).whole))

-- What the player says of an accepted file, of a refused one, and of one that was written.
pub player_claims : PlayerClaims
player_claims = record {
  accepted = λ s e. subst (PlayedOver (new_floor_of (boxes_of s) (stations_of s) (told_in s)).floor (records_of s)) (sym (played_accepted s e)) (run_played _ (records_of s));
  refused = played_refused;
  refused_number = refused_played;
  written = played_written;
}
