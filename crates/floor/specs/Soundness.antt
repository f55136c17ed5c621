-- What holds of a floor that refusal 6 does not turn back, and the lengths of its arrays.
use Rattle.std.specs.Prelude.{ℕ, ◌<◌, ◌≤◌, ◌≡◌, length}
use Rattle.register.specs.declared.Department.{Department}
use Rattle.requests.specs.declared.Phase.{Phase}
use Rattle.attempts.specs.Rows.{requests_of}
use Rattle.floor.specs.Floors.{row_at, used_of, InUse}
use Rattle.floor.specs.declared.Floor.{Floor}

-- Refusal 6 does not apply, as facts.
pub record Sound (f : Floor) : Type 0 where
  pub box_least : 1 ≤ f.n
  pub box_most : f.n ≤ 9
  pub station_least : 1 ≤ f.m
  pub station_most : f.m ≤ 16
  pub rows_most : (d : Department) → used_of f d ≤ 64
  pub stations : (a : ℕ) → InUse f a → (row_at f a).station < f.m

-- The arrays have their lengths: those of the types, which no step changes.
pub record Lengths (f : Floor) : Type 0 where
  pub boxes : length f.boxes ≡ 9
  pub stations : length f.stations ≡ 16
  pub rows : length f.rows ≡ 128
  pub slots : (p : Phase) (a : ℕ) → a < 128 → length (requests_of p (row_at f a)).slots ≡ 9
  pub answers : (a : ℕ) → a < 128 → length (row_at f a).answers ≡ 9

-- The numbers of boxes and stations are the same.
pub record SameSizes (f g : Floor) : Type 0 where
  pub boxes : g.n ≡ f.n
  pub stations : g.m ≡ f.m
