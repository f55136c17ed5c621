-- Document 02, wish 5, on every list of steps: when a row is given back, and that nothing is lost by it. The proof is `given_back` in
-- proofs/GivenBack.
use Rattle.std.specs.Prelude.{ℕ, ◌≤◌, ◌<◌, ◌≡◌, ◌⊎◌, true, List}
use Rattle.requests.specs.Requests.{heard_from}
use Rattle.requests.specs.declared.Phase.{Phase}
use Rattle.attempts.specs.Rows.{requests_of}
use Rattle.register.specs.declared.Department.{Department}
use Rattle.floor.specs.Floors.{row_at, used_of, highest_of, InUse}
use Rattle.floor.specs.Free.{is_free}
use Rattle.floor.specs.Runs.{floor_at}
use Rattle.floor.specs.declared.Floor.{Floor}
use Rattle.agreement.specs.Words.{Attempt, attempt_rank, attempt_department, Named, ServedAt, ServesAt, DeliversAt, FreedAt, FreeAt, attempts_before, Trace}
use Rattle.agreement.specs.Demand.{trace_of}
use Rattle.base.specs.Positions.{Before}
use Rattle.floor.specs.Floors.{first_floor}

module _ (t : Trace) where
  -- "drops": the begin y takes the row of the attempt x, which its number meant until then
  pub record Drops (y x : Attempt t) : Type 0 where
    pub number : x.number ≡ y.number
    pub named : Named t x y.at

  -- each answer that is counted for the attempt y, of the box b, was served and delivered for y, and so since its begin
  pub record OwnAnswer (y : Attempt t) (phase : Phase) (b i : ℕ) : Type 0 where
    pub served : Before (ServesAt t y phase b) i
    pub delivered : Before (DeliversAt t y phase b) i

  -- the highest rank begun in the department before the step at i is h
  pub record HighestAt (d : Department) (h i : ℕ) : Type 0 where
    pub each : (x : Attempt t) → x.at < i → attempt_department t x ≡ d → attempt_rank t x ≤ h
    pub some : (h ≡ 0) ⊎ ((x : Attempt t) × (x.at < i) × (attempt_department t x ≡ d) × (attempt_rank t x ≡ h))

pub record GivenBack (f : Floor) (l : List (List ℕ)) : Type 0 where
  -- a row is free on the floor exactly where the words of demand 3 say so of the list
  pub free : (a i : ℕ) → InUse (floor_at f l i) a → is_free (floor_at f l i) a ≡ true → FreeAt (trace_of f l) a i
  pub free_holds : (a i : ℕ) → FreeAt (trace_of f l) a i → InUse (floor_at f l i) a × (is_free (floor_at f l i) a ≡ true)
  -- as many rows of a department are in use as attempts of it were begun, up to 64
  pub used : (d : Department) (i : ℕ) → ((attempts_before (trace_of f l) d i ≤ 64) × (used_of (floor_at f l i) d ≡ attempts_before (trace_of f l) d i))
      ⊎ ((64 < attempts_before (trace_of f l) d i) × (used_of (floor_at f l i) d ≡ 64))
  -- "the highest rank begun alone, which the floor keeps", in each department
  pub highest : (d : Department) (i : ℕ) → HighestAt (trace_of f l) d (highest_of (floor_at f l i) d) i
  -- an attempt whose row is taken was over, and its requests were served at every box
  pub freed : (y x : Attempt (trace_of f l)) → Drops (trace_of f l) y x → FreedAt (trace_of f l) x y.at
  -- from then on no box serves its rank
  pub rank_not_served : (y x : Attempt (trace_of f l)) → Drops (trace_of f l) y x → (b k : ℕ) → y.at ≤ k → ¬ ServedAt (trace_of f l) (attempt_department (trace_of f l) x) (attempt_rank (trace_of f l) x) b k
  -- "drops its answers still on the way": each answer that is delivered was served for the attempt that its number means then, and so since
  -- the begin of that
  pub own_deliveries : (y : Attempt (trace_of f l)) (phase : Phase) (b i : ℕ) → DeliversAt (trace_of f l) y phase b i → Before (ServesAt (trace_of f l) y phase b) i
  -- and no other is counted for it
  pub own_answers : (y : Attempt (trace_of f l)) (i : ℕ) → Named (trace_of f l) y i → (phase : Phase) (b : ℕ) → b < f.n
      → heard_from (requests_of phase (row_at (floor_at f l i) y.number)) b ≡ true → OwnAnswer (trace_of f l) y phase b i

-- of every list, from a new floor of any n and m
abbrev pub GivenBackTheorem : Type 0
GivenBackTheorem = (n m : ℕ) (departments : List ℕ) (l : List (List ℕ)) → GivenBack (first_floor n m departments) l
