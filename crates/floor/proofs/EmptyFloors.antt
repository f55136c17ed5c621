-- A new floor: no row is in use, no station has begun anything; it is sound and has its lengths.
use Prim.Native.Nat.{ℕ, zero, suc, ◌<◌, ◌≤◌}
use native.Mathlib.Omega.{arith}
use mathlib.Core.Path.{◌≡◌, refl, ap, ◌∙◌}
use mathlib.Core.List.{List, []}
use lib.ListN.{length, get_or, length-set, get_or-replicate}
use Rattle.base.specs.Numbers.{sizes_right}
use Rattle.base.specs.Departments.{departments_wrong}
use Rattle.base.proofs.Choices.{by_test}
use Rattle.register.specs.declared.Department.{Department}
use Rattle.register.specs.declared.Department.TheVariants.{Sails, Canvas}
use Rattle.attempts.specs.Stations.{station0}
use Rattle.attempts.specs.Rows.{row0, unused_row, row_department, first_row, requests_of}
use Rattle.floor.specs.Floors.{used_of, end_of, InUse, new_station, stations_told, empty_floor, new_floor_of}
use Rattle.floor.specs.Soundness.{Sound, Lengths}
use Rattle.attempts.specs.declared.Station.{Station}
use Rattle.attempts.specs.declared.Row.{Row}
use Rattle.floor.specs.declared.Floor.{Floor}
use Rattle.floor.specs.declared.NewFloor.{NewFloor}
use Rattle.base.specs.Claims.{Sizes, Departments}
use Rattle.base.proofs.DepartmentLaws.{departments_mean}
use Rattle.base.proofs.SizeLaws.{sizes_mean}
use Rattle.requests.specs.declared.Phase.{Phase}
use Rattle.requests.specs.declared.Phase.TheVariants.{Read, Write}
use Rattle.base.proofs.Stores.{set_all, get_d_same}
use Rattle.attempts.proofs.RowDepartments.{row_least}

-- on an empty floor no row is in use, and there are 16 stations
pub empty_unused : (n m : ℕ) (l : List ℕ) (a : ℕ) → ¬ InUse (empty_floor n m l) a
empty_unused n m l a h = none (row_department a) (row_least (row_department a) a refl) h
  where
    none : (d : Department) → first_row d ≤ a → ¬ (a < end_of (empty_floor n m l) d)
    none Sails k h = omega arith
    none Canvas k h = omega arith

pub told_length : (l : List ℕ) (k : ℕ) → length (stations_told l k) ≡ 16
unfolding stations_told
told_length l zero = refl
told_length l (suc k) = length-set (stations_told l k) k _ ∙ told_length l k

-- each of them has begun nothing
pub told_at : (l : List ℕ) (k s : ℕ) → get_or (stations_told l k) s station0 ≡ new_station (get_or (stations_told l k) s station0).department
unfolding stations_told
told_at l zero s = rw (get_d_same 16 s station0) refl
told_at l (suc k) s = set_all station0 (λ (j : ℕ) (x : Station). x ≡ new_station x.department) (stations_told l k) k _ (told_at l k) refl s

-- a new floor is sound and has its lengths
pub empty_sound : (n m : ℕ) (l : List ℕ) → Sizes n m → Sound (empty_floor n m l)
empty_sound n m l z = record {
  box_least = z.box_least;
  box_most = z.box_most;
  station_least = z.station_least;
  station_most = z.station_most;
  rows_most = λ d. elim d as (λ k. used_of (empty_floor n m l) k ≤ 64) [ Sails ↦ omega arith | Canvas ↦ omega arith ];
  stations = λ a h. absurd (empty_unused n m l a h);
}

pub empty_lengths : (n m : ℕ) (l : List ℕ) → Lengths (empty_floor n m l)
empty_lengths n m l = record {
  boxes = refl;
  stations = told_length l (length l);
  rows = refl;
  slots = λ p a h. ap (λ (w : Row). length (requests_of p w).slots) (get_or-replicate 128 a unused_row row0 h) ∙ unused p;
  answers = λ a h. ap (λ (w : Row). length w.answers) (get_or-replicate 128 a unused_row row0 h);
}
  where
    unused : (p : Phase) → length (requests_of p unused_row).slots ≡ 9
    unused Read = refl
    unused Write = refl

one_each : Sizes 1 1
one_each = record { box_least = omega arith; box_most = omega arith; station_least = omega arith; station_most = omega arith }

-- a new floor is an empty one: that of n and m and the departments told, or that of one box and one station
pub new_floor_by : (P : Floor → Type 0) (n m : ℕ) (l : List ℕ) → (Sizes n m → Departments m l → P (empty_floor n m l)) → P (empty_floor 1 1 []) → P (new_floor_of n m l).floor
unfolding new_floor_of
new_floor_by P n m l p q =
    by_test (λ (x : NewFloor). P x.floor) (sizes_right n m) _ _
    (λ e. by_test (λ (x : NewFloor). P x.floor) (departments_wrong m l) _ _ (λ _. q) (λ w. p (sizes_mean n m e) (departments_mean m l w))) (λ _. q)

pub new_sound : (n m : ℕ) (l : List ℕ) → Sound (new_floor_of n m l).floor
new_sound n m l = new_floor_by Sound n m l (λ z _. empty_sound n m l z) (empty_sound 1 1 [] one_each)

pub new_lengths : (n m : ℕ) (l : List ℕ) → Lengths (new_floor_of n m l).floor
new_lengths n m l = new_floor_by Lengths n m l (λ _ _. empty_lengths n m l) (empty_lengths 1 1 [])
