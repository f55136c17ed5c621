-- Document 02, wish 6: to which department a step belongs, what a department has of a floor, and that a step of the other leaves it as it was.
-- The proof is `department_claims` in proofs/DepartmentLaws.
use Rattle.std.specs.Prelude.{ℕ, ◌≡◌, Bool, false, List}
use Rattle.register.specs.Register.{is_of}
use Rattle.register.specs.declared.Department.{Department}
use Rattle.commands.specs.Commands.{command_of}
use Rattle.commands.specs.declared.Command.{Command}
use Rattle.commands.specs.declared.Command.TheVariants.{Begin, Serve, Deliver, Stop, Leave, Return, Malformed}
use Rattle.attempts.specs.Rows.{row_department}
use Rattle.places.specs.Places.{station_in}
use Rattle.floor.specs.Floors.{station_at, row_at, register_at, department_at, share_of, InUse, new_floor_of}
use Rattle.floor.specs.Step.{step_of}
use Rattle.floor.specs.Soundness.{Lengths}
use Rattle.floor.specs.declared.Floor.{Floor}

-- What a step belongs to: one department, or both share it.
pub data Belonging : Type 0 where
  only : Department → Belonging
  shared : Belonging

-- "A serve or delivery belongs to its row's department", a begin and a going to the station's, `own`; "Only box stops, n and m are shared",
-- wish 8: kinds 8 and 9 "shared as kind 6". A record that is turned back with 7 names no department either.
abbrev pub belonging : (own : Department) (c : Command) → Belonging
belonging own (Begin s round v) = only own
belonging own (Serve p a b) = only (row_department a)
belonging own (Deliver p a b) = only (row_department a)
belonging own (Stop b) = shared
belonging own (Leave s) = only own
belonging own (Return b) = shared
belonging own Malformed = shared

-- the department whose things the step is handed: its own; of a step that both share any is named, here `own`, and stored as it was
abbrev pub department_with : (own : Department) (x : Belonging) → Department
department_with own (only d) = d
department_with own shared = own

-- the step with the command c on the floor f
abbrev pub department_of : (f : Floor) (c : Command) → Belonging
department_of f c = belonging (department_at f (station_in 0 c)) c

-- it belongs to the department d alone
abbrev pub is_only : (d : Department) (x : Belonging) → Bool
is_only d (only e) = is_of d e
is_only d shared = false

-- the floor g has of the department d what f has: "each step of the other is answered as before, with the same records"
pub record SameFor (d : Department) (f g : Floor) : Type 0 where
  pub registers : (b : ℕ) → register_at g d b ≡ register_at f d b
  pub share : share_of d g ≡ share_of d f
  pub rows : (a : ℕ) → row_department a ≡ d → row_at g a ≡ row_at f a
  pub stations : (s : ℕ) → department_at f s ≡ d → station_at g s ≡ station_at f s
  pub departments : (s : ℕ) → department_at g s ≡ department_at f s

-- Each row in use belongs to a station of its department: so on every floor that steps from a new one reach. On a floor built by hand a row may
-- belong to a station of the other.
abbrev pub Owned : (f : Floor) → Type 0
Owned f = (a : ℕ) → InUse f a → department_at f (row_at f a).station ≡ row_department a

pub record DepartmentClaims : Type 0 where
  pub new_owned : (n m : ℕ) (departments : List ℕ) → Owned (new_floor_of n m departments).floor
  pub owned : (f : Floor) (r : List ℕ) → Lengths f → Owned f → Owned (step_of f r).floor
  -- a step that does not belong to the department changes nothing of it
  pub untouched : (f : Floor) (r : List ℕ) (d : Department) → Owned f → is_only d (department_of f (command_of r)) ≡ false → SameFor d f (step_of f r).floor
