-- Document 02, wish 6: "Delete every step of one department from an accepted run: each step of the other is answered as before, with the same
-- records." The proof is `deletion` in proofs/Deletion.
use Rattle.std.specs.Prelude.{ℕ, ◌≤◌, ◌<◌, ◌≡◌, Bool, true, false, List, [], ◌∷◌, length, get_or}
use Rattle.base.specs.Choice.{when◌then◌else◌}
use Rattle.base.specs.Quorum.{count}
use Rattle.register.specs.Register.{is_of}
use Rattle.register.specs.declared.Department.{Department}
use Rattle.commands.specs.Commands.{command_of}
use Rattle.commands.specs.Outcomes.{is_refused}
use Rattle.commands.specs.declared.Command.{Command}
use Rattle.floor.specs.Floors.{box_at}
use Rattle.floor.specs.Departments.{Belonging, only, shared, department_of, SameFor}
use Rattle.floor.specs.Runs.{command_at, floor_at, said_at}
use Rattle.floor.specs.declared.Floor.{Floor}
use Rattle.floor.specs.Floors.{first_floor}

-- The steps that are kept: those of the department d, and those that are shared. "Only box stops, n and m are shared"; wish 8: kinds 8 and 9
-- are "shared as kind 6".
abbrev pub is_kept : (d : Department) (x : Belonging) → Bool
is_kept d (only e) = is_of d e
is_kept d shared = true

abbrev pub keeps : (f : Floor) (d : Department) (c : Command) → Bool
keeps f d c = is_kept d (department_of f c)

-- the list without the others
unfoldable pub kept_of : (f : Floor) (d : Department) (l : List (List ℕ)) → List (List ℕ)
kept_of f d [] = []
kept_of f d (r ∷ l) = when keeps f d (command_of r) then r ∷ kept_of f d l else kept_of f d l

-- how many of the first i steps are kept: the place of the step at i, if it is kept
abbrev pub place_of : (f : Floor) (d : Department) (l : List (List ℕ)) (i : ℕ) → ℕ
place_of f d l i = count (λ k. keeps f d (command_at l k)) i

pub record Deletion (f : Floor) (d : Department) (l : List (List ℕ)) : Type 0 where
  -- nothing else is kept
  pub size : length (kept_of f d l) ≡ place_of f d l (length l)
  -- a kept step is the same step
  pub asked : (i : ℕ) → i < length l → keeps f d (command_at l i) ≡ true → get_or (kept_of f d l) (place_of f d l i) [] ≡ get_or l i []
  -- one of the department says what it said, and so does a shared one
  pub own : (i : ℕ) → i < length l → department_of f (command_at l i) ≡ only d → said_at f (kept_of f d l) (place_of f d l i) ≡ said_at f l i
  pub common : (i : ℕ) → i < length l → department_of f (command_at l i) ≡ shared → said_at f (kept_of f d l) (place_of f d l i) ≡ said_at f l i
  -- and behind it, as behind every other, that department's records in the boxes, its stations and its rows are what they were, and the
  -- same boxes are away
  pub same : (i : ℕ) → i ≤ length l → SameFor d (floor_at f l i) (floor_at f (kept_of f d l) (place_of f d l i))
  pub away : (i : ℕ) → i ≤ length l → (b : ℕ) → (box_at (floor_at f (kept_of f d l) (place_of f d l i)) b).away ≡ (box_at (floor_at f l i) b).away

-- of every run from a new floor in which every step was accepted
abbrev pub DeletionTheorem : Type 0
DeletionTheorem = (n m : ℕ) (departments : List ℕ) (l : List (List ℕ)) → ((i : ℕ) → i < length l → is_refused (said_at (first_floor n m departments) l i) ≡ false)
    → (d : Department) → Deletion (first_floor n m departments) d l
