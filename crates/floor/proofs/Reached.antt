-- The floors that a list of steps reaches from a new floor.
use Prim.Native.Nat.{ℕ, zero, suc}
use mathlib.Core.Path.{◌≡◌, refl, ◌∙◌}
use mathlib.Core.List.{List, []}
use lib.ListN.{length, get_or}
use Rattle.base.proofs.Stores.{get_d_same}
use Rattle.register.specs.Register.{box0}
use Rattle.register.specs.declared.Department.{Department}
use Rattle.register.specs.declared.Department.TheVariants.{Sails, Canvas}
use Rattle.runs.specs.Runs.{state_at}
use Rattle.floor.specs.Floors.{box_at, station_at, department_at, share_of, InUse, new_station, empty_floor, new_floor_of}
use Rattle.floor.specs.Departments.{Owned}
use Rattle.floor.specs.Soundness.{Lengths}
use Rattle.floor.specs.Runs.{floor_at, command_at}
use Rattle.floor.specs.Step.{step_of}
use Rattle.floor.specs.declared.Floor.{Floor}
use Rattle.floor.proofs.DepartmentLaws.{step_owned}
use Rattle.floor.proofs.EmptyFloors.{empty_lengths, empty_unused, told_at, new_floor_by}
use Rattle.floor.proofs.LengthLaws.{step_lengths}
use Rattle.floor.proofs.Keeps.{step_sizes}
use Rattle.floor.proofs.StationLaws.{department_stays}

-- A new floor: nothing has happened on it.
pub record New (f : Floor) : Type 0 where
  pub lengths : Lengths f
  pub unused : (a : ℕ) → ¬ InUse f a
  pub shares : (d : Department) → share_of d f ≡ record { used = 0; highest = 0 }
  pub boxes : (b : ℕ) → box_at f b ≡ box0
  pub stations : (j : ℕ) → station_at f j ≡ new_station (department_at f j)

pub new_floor_lem : (n m : ℕ) (l : List ℕ) → New (new_floor_of n m l).floor
new_floor_lem n m l = new_floor_by New n m l (λ _ _. empty n m l) (empty 1 1 [])
  where
    empty : (n m : ℕ) (l : List ℕ) → New (empty_floor n m l)
    empty n m l = record {
      lengths = empty_lengths n m l;
      unused = empty_unused n m l;
      shares = λ d. elim d as (λ k. share_of k (empty_floor n m l) ≡ record { used = 0; highest = 0 }) [ Sails ↦ refl | Canvas ↦ refl ];
      boxes = λ b. get_d_same 9 b box0;
      stations = told_at l (length l);
    }

-- The floors that the list l reaches from f.
module _ (f : Floor) (l : List (List ℕ)) where
  -- the number of boxes stays
  pub size_at : (i : ℕ) → (floor_at f l i).n ≡ f.n
  unfolding state_at
  size_at zero = refl
  size_at (suc i) = (step_sizes (floor_at f l i) (get_or l i [])).boxes ∙ size_at i

  -- the number of stations stays
  pub stations_at : (i : ℕ) → (floor_at f l i).m ≡ f.m
  unfolding state_at
  stations_at zero = refl
  stations_at (suc i) = (step_sizes (floor_at f l i) (get_or l i [])).stations ∙ stations_at i

  -- a station keeps its department
  pub department_at_lem : (s i : ℕ) → department_at (floor_at f l i) s ≡ department_at f s
  unfolding state_at step_of
  department_at_lem s zero = refl
  department_at_lem s (suc i) = department_stays (floor_at f l i) (command_at l i) s ∙ department_at_lem s i

  -- from a new floor on, arrays have their lengths and rows in use belong to stations of their department
  module _ (new : New f) where
    pub lengths_at : (i : ℕ) → Lengths (floor_at f l i)
    unfolding state_at
    lengths_at zero = new.lengths
    lengths_at (suc i) = step_lengths (floor_at f l i) (get_or l i []) (lengths_at i)

    pub owned_at : (i : ℕ) → Owned (floor_at f l i)
    unfolding state_at
    owned_at zero = λ a h. absurd (new.unused a h)
    owned_at (suc i) = step_owned (floor_at f l i) (get_or l i []) (lengths_at i) (owned_at i)
