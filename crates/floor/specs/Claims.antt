-- What is claimed of single steps. The proof is `step_claims` in proofs/Claims.
use Rattle.std.specs.Prelude.{ℕ, ◌+◌, ◌<◌, ◌≤◌, ◌≡◌, ◌⊎◌, true, false, List}
use Rattle.base.specs.Mask.{count_below}
use Rattle.register.specs.declared.Department.{Department}
use Rattle.requests.specs.declared.Phase.{Phase}
use Rattle.commands.specs.Commands.{command_of}
use Rattle.base.specs.Refusals.{number_if}
use Rattle.commands.specs.Outcomes.{number_of, refusal_said, is_refused}
use Rattle.commands.specs.declared.Command.TheVariants.{Serve, Deliver}
use Rattle.commands.specs.declared.Outcome.TheVariants.{Begun, Served}
use Rattle.attempts.specs.Stations.{is_gone, is_active}
use Rattle.attempts.specs.Rows.{requests_of, row_department}
use Rattle.floor.specs.Floors.{box_at, station_at, row_at, register_at, department_at, share_of, new_floor_of, owner_at, used_of, end_of}
use Rattle.floor.specs.Free.{is_free, next_row}
use Rattle.floor.specs.Step.{step_of, refusal_of}
use Rattle.floor.specs.declared.Floor.{Floor}
use Rattle.floor.specs.Soundness.{Sound, Lengths, SameSizes}
use Rattle.floor.specs.Tests.{RefusalOfStep}
use Rattle.floor.specs.Meanings.{Meaning}
use Rattle.floor.specs.Moves.{StationMove, BoxMove, Grown, SameAttempt, DecidesNow, BeginsNow, RaisesNow, ServesNow, Waits, WaitsOn, AwayMove}
use Rattle.requests.specs.Requests.{standing_of, is_waiting}

-- Wish 5 of document 02: "Its row is free once it is over and its issued requests are served", wish 8: "at every box, away or not"
pub record Free (f : Floor) (a : ℕ) : Type 0 where
  pub over : is_active (owner_at f a).state a ≡ false
  pub served : (b : ℕ) → b < f.n → (p : Phase) → is_waiting (standing_of (requests_of p (row_at f a)) b) ≡ false

-- "With all 64 used, begin takes the free row with the smallest rank, of equals the lowest"; with fewer it takes the next. Wish 6: among the
-- rows of the department d.
pub data TakesRow (f : Floor) (d : Department) : ℕ → Type 0 where
  unused : used_of f d < 64 → TakesRow f d (end_of f d)
  free : {a : ℕ} → 64 ≤ used_of f d → row_department a ≡ d → a < 128 → is_free f a ≡ true
      → ((c : ℕ) → row_department c ≡ d → c < 128 → is_free f c ≡ true → (row_at f a).rank ≤ (row_at f c).rank)
      → ((c : ℕ) → row_department c ≡ d → c < a → is_free f c ≡ true → (row_at f a).rank < (row_at f c).rank)
      → TakesRow f d a
  none : 64 ≤ used_of f d → ((c : ℕ) → row_department c ≡ d → c < 128 → is_free f c ≡ false) → TakesRow f d 128

-- What holds of every single step, accepted or refused, on any floor.
pub record StepClaims : Type 0 where
  -- "Floor, record and reply stay unchanged": a refused step hands back the very floor, and has one of these numbers
  pub refused_same : (f : Floor) (r : List ℕ) → is_refused (step_of f r).outcome ≡ true → (step_of f r).floor ≡ f
  pub refused_number : (f : Floor) (r : List ℕ) → is_refused (step_of f r).outcome ≡ true
      → RefusalOfStep (number_of (step_of f r).outcome)
  pub number : (f : Floor) (r : List ℕ) → number_of (step_of f r).outcome ≡ refusal_of f (command_of r)
  -- the refusal that it says by name has that number; none is said where the step is accepted
  pub named : (f : Floor) (r : List ℕ) → number_if (refusal_said (step_of f r).outcome) ≡ number_of (step_of f r).outcome
  -- soundness, the sizes and the lengths of the arrays are kept; a new floor has them
  pub new_sound : (n m : ℕ) (departments : List ℕ) → Sound (new_floor_of n m departments).floor
  pub new_lengths : (n m : ℕ) (departments : List ℕ) → Lengths (new_floor_of n m departments).floor
  pub sound : (f : Floor) (r : List ℕ) → Sound f → Sound (step_of f r).floor
  pub lengths : (f : Floor) (r : List ℕ) → Lengths f → Lengths (step_of f r).floor
  pub sizes : (f : Floor) (r : List ℕ) → SameSizes f (step_of f r).floor
  -- "Each accepted step says one thing that came of it": what that means
  pub means : (f : Floor) (r : List ℕ) → Meaning f (command_of r) (step_of f r).floor (step_of f r).outcome
  -- each station and box, whichever the step names
  pub station : (f : Floor) (r : List ℕ) (j : ℕ) → StationMove f (command_of r) j (step_of f r).outcome (station_at (step_of f r).floor j)
  pub storage : (f : Floor) (r : List ℕ) (j : ℕ) → BoxMove f (command_of r) j (step_of f r).outcome (box_at (step_of f r).floor j)
  -- a record of a box changes at a serve there only, of an attempt of its department, where the box is not away
  pub record_from : (f : Floor) (r : List ℕ) (d : Department) (b : ℕ) → (register_at (step_of f r).floor d b ≡ register_at f d b) ⊎ ServesNow f d (command_of r) b (step_of f r).outcome
  -- a request waits until it is served there, whatever else happens; and a row of which a request waits, at whichever box, is given to no
  -- other attempt
  pub waits_until : (f : Floor) (r : List ℕ) → Sound f → Lengths f → (p : Phase) (a b : ℕ) → Waits f p a b
      → WaitsOn f (step_of f r).floor p a b ⊎ ((command_of r ≡ Serve p a b) × ((step_of f r).outcome ≡ Served a))
  pub waits_keeps : (f : Floor) (r : List ℕ) → Lengths f → (p : Phase) (a b : ℕ) → Waits f p a b → ¬ ((step_of f r).outcome ≡ Begun a)
  -- Wish 8: boxes "return with their records": a step, the one that brings it back too, changes no record of a box that is away; "Requests
  -- waiting there wait on"; and what puts a box away and brings it back
  pub away_keeps : (f : Floor) (r : List ℕ) (d : Department) (b : ℕ) → (box_at f b).away ≡ true → register_at (step_of f r).floor d b ≡ register_at f d b
  pub away_waits : (f : Floor) (r : List ℕ) → Sound f → Lengths f → (p : Phase) (a b : ℕ) → (box_at f b).away ≡ true → Waits f p a b → WaitsOn f (step_of f r).floor p a b
  pub away_moves : (f : Floor) (r : List ℕ) → Lengths f → (b : ℕ) → AwayMove b (step_of f r).outcome (box_at f b).away (box_at (step_of f r).floor b).away
  -- "a station leaves for good": one that is gone stays gone
  pub gone_stays : (f : Floor) (r : List ℕ) (j : ℕ) → is_gone (station_at f j).state ≡ true → is_gone (station_at (step_of f r).floor j).state ≡ true
  -- a box's ranks never fall, and each is its old one or that of a row in use, department by department
  pub grown : (f : Floor) (r : List ℕ) (d : Department) (j : ℕ) → Grown f d (register_at f d j) (register_at (step_of f r).floor d j)
  -- "It also keeps its last round and its decided revision, which survives its going", and whether it decided (wish 7): both change at the
  -- step that says so only
  pub last_from : (f : Floor) (r : List ℕ) (j : ℕ) → ((station_at (step_of f r).floor j).last ≡ (station_at f j).last)
      ⊎ BeginsNow f (command_of r) j (step_of f r).outcome (station_at (step_of f r).floor j).last
  pub decided_from : (f : Floor) (r : List ℕ) (j : ℕ) → ((station_at (step_of f r).floor j).decided ≡ (station_at f j).decided)
      ⊎ DecidesNow f (command_of r) j (step_of f r).outcome (station_at (step_of f r).floor j).decided
  -- a station keeps its department
  pub department : (f : Floor) (r : List ℕ) (j : ℕ) → department_at (step_of f r).floor j ≡ department_at f j
  -- an attempt keeps its station, its rank and its offer until its row is given back
  pub attempt : (f : Floor) (r : List ℕ) (j : ℕ) → ¬ ((step_of f r).outcome ≡ Begun j) → SameAttempt (row_at f j) (row_at (step_of f r).floor j)
  -- wish 5: what a free row is, and which row a begin takes
  pub free : (f : Floor) (a : ℕ) → is_free f a ≡ true → Free f a
  pub free_holds : (f : Floor) (a : ℕ) → Free f a → is_free f a ≡ true
  pub takes : (f : Floor) (d : Department) → TakesRow f d (next_row f d)
  -- "Rows are numbered from 0 in order of beginning", up to 64 in each department: one more is in use exactly where a station of the
  -- department begins. "the highest rank begun alone, which the floor keeps": it changes at these begins only
  pub share_from : (f : Floor) (r : List ℕ) (d : Department) → (share_of d (step_of f r).floor ≡ share_of d f)
      ⊎ RaisesNow f d (command_of r) (step_of f r).outcome (share_of d (step_of f r).floor)
  -- "boxes are counted, not different answers": each accepted delivery makes the answers received from boxes below n one more
  pub counted : (f : Floor) (r : List ℕ) (p : Phase) (a b : ℕ) → Lengths f → command_of r ≡ Deliver p a b → is_refused (step_of f r).outcome ≡ false
      → count_below (requests_of p (row_at (step_of f r).floor a)).heard f.n ≡ count_below (requests_of p (row_at f a)).heard f.n + 1
