-- What is claimed of a new floor: which number turns it back, and what it is where none does. The proof is `new_floor_claims` in
-- proofs/NewFloors.
use Rattle.std.specs.Prelude.{ℕ, ◌<◌, ◌≡◌, true, false, List, [], get_or}
use Rattle.base.specs.Numbers.{sizes_right}
use Rattle.base.specs.Departments.{departments_wrong}
use Rattle.base.specs.Refusals.{number_if}
use Rattle.register.specs.declared.Department.{Department}
use Rattle.register.specs.declared.Department.TheVariants.{Sails, Canvas}
use Rattle.floor.specs.Floors.{department_at, share_of, empty_floor, new_floor_of}
use Rattle.floor.specs.declared.NewFloor.{NewFloor}

-- the floor of n boxes and m stations that was asked for
pub record Told (n m : ℕ) (departments : List ℕ) (x : NewFloor) : Type 0 where
  pub accepted : number_if x.refusal ≡ 0
  pub boxes : x.floor.n ≡ n
  pub stations : x.floor.m ≡ m
  -- "one byte a station: 0 sails, 1 canvas"
  pub sails : (s : ℕ) → s < m → get_or departments s 0 ≡ 0 → department_at x.floor s ≡ Sails
  pub canvas : (s : ℕ) → s < m → get_or departments s 0 ≡ 1 → department_at x.floor s ≡ Canvas
  -- nothing is begun in either department
  pub share : (d : Department) → share_of d x.floor ≡ record { used = 0; highest = 0 }

pub record NewFloorClaims : Type 0 where
  -- "3. n is not 1 to 9 or m is not 1 to 16 (also when a new floor is made)", then 22
  pub gives_3 : (n m : ℕ) (departments : List ℕ) → sizes_right n m ≡ false → number_if (new_floor_of n m departments).refusal ≡ 3
  pub gives_22 : (n m : ℕ) (departments : List ℕ) → sizes_right n m ≡ true → departments_wrong m departments ≡ true → number_if (new_floor_of n m departments).refusal ≡ 22
  pub told : (n m : ℕ) (departments : List ℕ) → sizes_right n m ≡ true → departments_wrong m departments ≡ false → Told n m departments (new_floor_of n m departments)
  -- "a call with no floor to hand back gives the new floor of one box and one station"
  pub refused : (n m : ℕ) (departments : List ℕ) → ¬ (number_if (new_floor_of n m departments).refusal ≡ 0) → (new_floor_of n m departments).floor ≡ empty_floor 1 1 []
