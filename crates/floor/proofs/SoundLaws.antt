-- What the tests of refusals 3 and 6 say, both ways, and the laws of a place.
use Prim.Native.Nat.{ℕ, zero, suc, ◌+◌, ◌-◌, ◌<◌, ◌≤◌}
use native.Mathlib.Omega.{arith}
use native.Mathlib.Nat.{le_refl}
use native.Mathlib.Numerals.{add-one}
use mathlib.Core.Path.{◌≡◌, refl, sym, subst}
use mathlib.Core.Bool.{Bool, true, false}
use mathlib.Core.List.{List, [], ◌∷◌}
use lib.ListN.{length, get_or, take, drop, length-drop}
use lib.Seq.{get_or-drop, take-suc}
use lib.Dec.{ltb}
use Rattle.std.specs.Prelude.{◌&&◌}
use Rattle.std.specs.List.{list_all}
use Rattle.std.proofs.lemmas.List.Folds.{list_all-append}
use Rattle.base.specs.Choice.{when◌then◌else◌}
use borrow.Author.Count.{below_more}
use borrow.Author.Tests.{ltb-true, ltb-false, lt-ltb, le-ltb}
use Rattle.base.specs.Claims.{Sizes}
use Rattle.base.proofs.SizeLaws.{sizes_mean, sizes_hold}
use Rattle.base.proofs.Choices.{on_true, on_false, both_true, first_false}
use Rattle.register.specs.declared.Department.{Department}
use Rattle.register.specs.declared.Department.TheVariants.{Sails, Canvas}
use Rattle.attempts.specs.Rows.{row0, row_department, first_row}
use Rattle.attempts.proofs.RowDepartments.{row_own, row_least, row_number}
use Rattle.floor.specs.Floors.{row_at, used_of}
use Rattle.floor.specs.Sound.{stations_below, share_sound, sound_of}
use Rattle.floor.specs.Soundness.{Sound}
use Rattle.attempts.specs.declared.Row.{Row}
use Rattle.floor.specs.declared.Floor.{Floor}
use Rattle.floor.proofs.UseLaws.{of_use}

-- each of the k rows from `first` on has a station below m
pub below_all : (rows : List Row) (m first k : ℕ) → stations_below rows m first k ≡ true → (a : ℕ) → a < k → (get_or rows (first + a) row0).station < m
unfolding stations_below
below_all rows m first zero e a h = absurd (omega arith)
below_all rows m first (suc k) e a h =
    let p = both_true _ _ e in
    below_more (λ (i : ℕ). (get_or rows (first + i) row0).station < m) k (below_all rows m first k p.1) (ltb-true _ _ p.0) a (rw add-one h)

pub all_below : (rows : List Row) (m first k : ℕ) → ((a : ℕ) → a < k → (get_or rows (first + a) row0).station < m) → stations_below rows m first k ≡ true
unfolding stations_below
all_below rows m first zero h = refl
all_below rows m first (suc k) h = sym (on_true _ (lt-ltb _ _ (h k (le_refl (suc k)))) (sym (all_below rows m first k (λ a l. h a (omega arith)))))

-- the same of the part of the list that is looked at
one_more : (t u : Bool) → (t && (u && true)) ≡ (when u then t else false)
unfolding when◌then◌else◌
one_more true true = refl
one_more true false = refl
one_more false true = refl
one_more false false = refl

pub below_part : (rows : List Row) (m first k : ℕ) → first + k ≤ length rows → list_all (λ (w : Row). ltb w.station m) (take k (drop first rows)) ≡ stations_below rows m first k
unfolding stations_below
below_part rows m first zero h = refl
below_part rows m first (suc k) h =
    let here : get_or (drop first rows) k row0 ≡ get_or rows (first + k) row0 = get_or-drop first rows k row0 in
    rw (take-suc (drop first rows) k row0 (rw length-drop (omega arith)), here, list_all-append (λ (w : Row). ltb w.station m) (take k (drop first rows)) (get_or rows (first + k) row0 ∷ []), below_part rows m first k (omega arith))
    (one_more _ _)

-- the rows that a department uses
pub record ShareSound (f : Floor) (d : Department) : Type 0 where
  pub most : used_of f d ≤ 64
  pub stations : (a : ℕ) → a < used_of f d → (row_at f (first_row d + a)).station < f.m

share_means : (f : Floor) (d : Department) → share_sound f d ≡ true → ShareSound f d
unfolding share_sound
share_means f d e = let u = first_false _ _ e in record { most = ltb-false _ _ u.0; stations = below_all f.rows f.m (first_row d) (used_of f d) u.1 }

share_holds : (f : Floor) (d : Department) → ShareSound f d → share_sound f d ≡ true
unfolding share_sound
share_holds f d z = sym (on_false _ (le-ltb _ _ z.most) (sym (all_below f.rows f.m (first_row d) (used_of f d) z.stations)))

-- a floor that passes the test of refusal 6 is sound
pub sound_means : (f : Floor) → sound_of f ≡ true → Sound f
unfolding sound_of
sound_means f e =
    let p = both_true _ _ e in
    let z = sizes_mean f.n f.m p.0 in
    let u = both_true _ _ p.1 in
    let each : (d : Department) → ShareSound f d = λ d. elim d as (ShareSound f) [ Sails ↦ share_means f Sails u.0 | Canvas ↦ share_means f Canvas u.1 ] in
    record {
      box_least = z.box_least;
      box_most = z.box_most;
      station_least = z.station_least;
      station_most = z.station_most;
      rows_most = λ d. (each d).most;
      stations = λ a h.
          let d = row_department a in
          let l = row_least d a refl in
          subst (λ (i : ℕ). (row_at f i).station < f.m) (sym (row_number d a refl)) ((each d).stations (a - first_row d) (omega arith));
    }

pub sound_sizes : (f : Floor) → Sound f → Sizes f.n f.m
sound_sizes f z = record { box_least = z.box_least; box_most = z.box_most; station_least = z.station_least; station_most = z.station_most }

-- and a sound floor passes it
pub sound_holds : (f : Floor) → Sound f → sound_of f ≡ true
unfolding sound_of
sound_holds f z =
    let each : (d : Department) → share_sound f d ≡ true = λ d. share_holds f d (record {
      most = z.rows_most d;
      stations = λ a h. z.stations (first_row d + a) (of_use f d (first_row d + a) (row_own d a (omega (arith, z.rows_most d))) (omega arith));
    }) in
    sym (on_true _ (sizes_hold f.n f.m (sound_sizes f z)) (on_true _ (each Sails) (sym (each Canvas))))
