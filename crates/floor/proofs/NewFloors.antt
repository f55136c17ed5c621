-- A new floor: the number that turns it back, and what it is where none does.
use Prim.Native.Nat.{ℕ, zero, suc, ◌≤◌, ◌<◌}
use native.Mathlib.Decide.{ℕ_discrete}
use native.Mathlib.Omega.{arith}
use mathlib.Core.Path.{◌≡◌, refl, sym, ap, ◌∙◌}
use mathlib.Core.Bool.{true, false}
use mathlib.Core.List.{List, []}
use Rattle.std.specs.Prelude.{None}
use lib.ListN.{length, get_or}
use lib.Seq.{get_or-set_same, get_or-set_other}
use borrow.Author.Tests.{eq-eqb, ne_eqb}
use Rattle.base.specs.Numbers.{sizes_right}
use Rattle.base.specs.Departments.{departments_wrong}
use Rattle.base.specs.Refusals.{number_if}
use Rattle.base.proofs.Choices.{on_true, on_false, by_test}
use Rattle.base.proofs.SizeLaws.{sizes_mean}
use Rattle.base.proofs.DepartmentLaws.{departments_mean}
use Rattle.register.specs.declared.Department.TheVariants.{Sails, Canvas}
use Rattle.attempts.specs.Stations.{station0}
use Rattle.attempts.specs.declared.Station.{Station}
use Rattle.floor.specs.Floors.{share_of, department_from, new_station, stations_told, empty_floor, new_floor_of}
use Rattle.floor.specs.NewFloors.{Told, NewFloorClaims}
use Rattle.floor.specs.declared.NewFloor.{NewFloor}
use Rattle.floor.proofs.EmptyFloors.{told_length}

-- a byte's department
sails_from : (b : ℕ) → b ≡ 0 → department_from b ≡ Sails
unfolding department_from
sails_from b e = sym (on_true _ (eq-eqb b 0 e) refl)

canvas_from : (b : ℕ) → b ≡ 1 → department_from b ≡ Canvas
unfolding department_from
canvas_from b e = sym (on_false _ (ne_eqb b 0 (λ q. omega (arith, e, q))) refl)

-- each of the first k stations is of the department that it was told
told_from_lem : (l : List ℕ) (k s : ℕ) → k ≤ 16 → s < k → (get_or (stations_told l k) s station0).department ≡ department_from (get_or l s 0)
unfolding stations_told
told_from_lem l zero s m h = absurd (omega arith)
told_from_lem l (suc k) s m h = elim (ℕ_discrete s k) [
  | yes e ↦ rw e (ap (λ (x : Station). x.department) (get_or-set_same (stations_told l k) k (new_station (department_from (get_or l k 0))) station0 (omega (arith, told_length l k))))
  | no e ↦ ap (λ (x : Station). x.department) (get_or-set_other (stations_told l k) k s (new_station (department_from (get_or l k 0))) station0 e) ∙ told_from_lem l k s (omega arith) (omega arith)
]

module _ (n m : ℕ) (l : List ℕ) where
  gives_3 : sizes_right n m ≡ false → number_if (new_floor_of n m l).refusal ≡ 3
  unfolding new_floor_of
  gives_3 e = ap (λ (x : NewFloor). number_if x.refusal) (sym (on_false _ e refl))

  gives_22 : sizes_right n m ≡ true → departments_wrong m l ≡ true → number_if (new_floor_of n m l).refusal ≡ 22
  unfolding new_floor_of
  gives_22 e w = ap (λ (x : NewFloor). number_if x.refusal) (sym (on_true _ e (on_true _ w refl)))

  told_at_each : sizes_right n m ≡ true → departments_wrong m l ≡ false → (s : ℕ) → s < m → (get_or (stations_told l (length l)) s station0).department ≡ department_from (get_or l s 0)
  told_at_each e w s h = let d = departments_mean m l w in told_from_lem l (length l) s (omega (arith, d.count, (sizes_mean n m e).station_most)) (omega (arith, d.count, h))

  empty_told : sizes_right n m ≡ true → departments_wrong m l ≡ false → Told n m l (record { floor = empty_floor n m l; refusal = None })
  empty_told e w = record {
    accepted = refl;
    boxes = refl;
    stations = refl;
    sails = λ s h b. told_at_each e w s h ∙ sails_from (get_or l s 0) b;
    canvas = λ s h b. told_at_each e w s h ∙ canvas_from (get_or l s 0) b;
    share = λ d. elim d as (λ k. share_of k (empty_floor n m l) ≡ record { used = 0; highest = 0 }) [ Sails ↦ refl | Canvas ↦ refl ];
  }

  told : sizes_right n m ≡ true → departments_wrong m l ≡ false → Told n m l (new_floor_of n m l)
  unfolding new_floor_of
  told e w =
      by_test (Told n m l) (sizes_right n m) _ _
      (λ _. by_test (Told n m l) (departments_wrong m l) _ _ (λ q. absurd (let k : ◌≡◌ {A = ℕ} 0 1 = cc (w, q) in omega arith)) (λ _. empty_told e w))
      (λ q. absurd (let k : ◌≡◌ {A = ℕ} 0 1 = cc (e, q) in omega arith))

  refused : ¬ (number_if (new_floor_of n m l).refusal ≡ 0) → (new_floor_of n m l).floor ≡ empty_floor 1 1 []
  unfolding new_floor_of
  refused =
      by_test (λ (x : NewFloor). ¬ (number_if x.refusal ≡ 0) → x.floor ≡ empty_floor 1 1 []) (sizes_right n m) _ _
      (λ _. by_test (λ (x : NewFloor). ¬ (number_if x.refusal ≡ 0) → x.floor ≡ empty_floor 1 1 []) (departments_wrong m l) _ _ (λ _ _. refl) (λ _ k. absurd (k refl))) (λ _ _. refl)

pub new_floor_claims : NewFloorClaims
new_floor_claims = record { gives_3 = gives_3; gives_22 = gives_22; told = told; refused = refused }
