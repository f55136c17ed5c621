-- The floor of panels as the machine of crate `machine`, one for each department: its records in the boxes, its rows in use, its stations, and
-- what each step says in it.
use Rattle.std.specs.Prelude.{ℕ, ◌≡◌, Bool, List, get_or}
use Rattle.suits.specs.Suits.{suit0}
use Rattle.suits.specs.declared.Suit.{Suit}
use Rattle.base.specs.Choice.{when◌then◌else◌}
use Rattle.register.specs.Register.{is_of, is_held, rmw_read, rmw_write}
use Rattle.register.specs.declared.Department.{Department}
use Rattle.register.specs.declared.Department.TheVariants.{Sails, Canvas}
use Rattle.register.specs.declared.Register.{Register}
use Rattle.attempts.specs.Rows.{answer0, row_department}
use Rattle.register.specs.declared.Answer.{Answer}
use Rattle.attempts.specs.declared.Row as concrete
use Rattle.attempts.specs.declared.State.{State}
use Rattle.attempts.specs.declared.State.TheVariants.{Idle, Reading, Writing, Decided, Gone}
use Rattle.attempts.specs.declared.Station as seated
use Rattle.floor.specs.Floors.{station_at, row_at, register_at, InUse}
use Rattle.floor.specs.declared.Floor.{Floor}
use Rattle.commands.specs.Commands.{command_of}
use Rattle.commands.specs.declared.Command.{Command}
use Rattle.commands.specs.declared.Command.TheVariants.{Begin, Serve, Deliver, Stop, Leave, Return, Malformed}
use Rattle.commands.specs.declared.Outcome.{Outcome}
use Rattle.commands.specs.declared.Outcome.TheVariants as said
use Rattle.requests.specs.declared.Phase.{Phase}
use Rattle.requests.specs.declared.Phase.TheVariants.{Read, Write}
use Rattle.floor.specs.Soundness.{Lengths}
use Rattle.floor.specs.Departments.{Belonging, only, shared, department_of, Owned}
use Rattle.floor.specs.Effects.{served_by}
use Rattle.floor.specs.Step.{step_of}
use Rattle.protocol.specs.Trace.{Box}
use Rattle.machine.specs.Machine.{Found, Row, Seat, none, reading, writing, Station, Machine, Label, Step}
use Rattle.machine.specs.Machine as machine
use Rattle.machine.specs.Asks.{asks}
use Rattle.machine.specs.Rules.{Rule, consensus}

-- the rule by which a station makes what it writes: Figure 1
abbrev pub figure1 : Rule Suit Suit
figure1 = consensus suit0

-- the record of a department in a box
abbrev pub box_of : Register → Box Suit
box_of x = record { read_rank = x.read; write_rank = x.write; value = x.value }

-- the answer to a read that a row keeps
abbrev pub found_in : Answer → Found Suit
found_in x = record { rank = x.rank; value = x.value }

-- the row of an attempt
abbrev pub row_of : concrete.Row → Row Suit Suit
row_of w = record {
  station = w.station;
  rank = w.rank;
  offer = w.offer;
  written = w.written;
  read = asks w.read;
  found = λ b. found_in (get_or w.answers b answer0);
  write = asks w.write;
}

-- the state of a station; one that is idle, decided or gone is in no attempt
abbrev pub seat_in : State → Seat
seat_in Idle = none
seat_in (Reading a) = reading a
seat_in (Writing a) = writing a
seat_in (Decided a) = none
seat_in Gone = none

-- a station of the department; the others have begun nothing in it
unfoldable pub station_for : Department → seated.Station → Station
station_for d x = when is_of d x.department then record { seat = seat_in x.state; last = x.last } else record { seat = none; last = 0 }

-- the department d of the floor
abbrev pub panel : Department → Floor → Machine Suit Suit
panel d f = record {
  box = λ b. box_of (register_at f d b);
  Used = λ a. (row_department a ≡ d) × InUse f a;
  row = λ a. row_of (row_at f a);
  station = λ j. station_for d (station_at f j);
}

-- What a step that belongs to x says in the department d: nothing where it is of the other, or shared.
abbrev pub within : (d : Department) (x : Belonging) → Label Suit Suit → Label Suit Suit
within Sails (only Sails) t = t
within Sails (only Canvas) t = machine.quiet
within Canvas (only Sails) t = machine.quiet
within Canvas (only Canvas) t = t
within d shared t = machine.quiet

-- what the box answers to the request: yes where a read is answered or a write taken
abbrev pub answers_to : Floor → Phase → ℕ → ℕ → Bool
answers_to f Read a b = is_held (rmw_read (served_by f a b) (row_at f a).rank).answer
answers_to f Write a b = (rmw_write (served_by f a b) (row_at f a).rank (row_at f a).written).taken

-- A step that said begun was asked by a begin, and so on: t is what it says, of the numbers that the command names.
abbrev pub of_begin : (ℕ → ℕ → Suit → Label Suit Suit) → Command → Label Suit Suit
of_begin t (Begin s round v) = t s round v
of_begin t (Serve p a b) = machine.quiet
of_begin t (Deliver p a b) = machine.quiet
of_begin t (Stop b) = machine.quiet
of_begin t (Leave s) = machine.quiet
of_begin t (Return b) = machine.quiet
of_begin t Malformed = machine.quiet

abbrev pub of_serve : (Phase → ℕ → ℕ → Label Suit Suit) → Command → Label Suit Suit
of_serve t (Begin s round v) = machine.quiet
of_serve t (Serve p a b) = t p a b
of_serve t (Deliver p a b) = machine.quiet
of_serve t (Stop b) = machine.quiet
of_serve t (Leave s) = machine.quiet
of_serve t (Return b) = machine.quiet
of_serve t Malformed = machine.quiet

abbrev pub of_delivery : (Phase → ℕ → ℕ → Label Suit Suit) → Command → Label Suit Suit
of_delivery t (Begin s round v) = machine.quiet
of_delivery t (Serve p a b) = machine.quiet
of_delivery t (Deliver p a b) = t p a b
of_delivery t (Stop b) = machine.quiet
of_delivery t (Leave s) = machine.quiet
of_delivery t (Return b) = machine.quiet
of_delivery t Malformed = machine.quiet

-- What the step with the command c on the floor f says, where it said the outcome,
module _ (f : Floor) (c : Command) where
  abbrev pub says_of : Outcome → Label Suit Suit
  says_of (said.Begun a) = of_begin (λ s round v. machine.began s round v a) c
  says_of (said.Served a) = of_serve (λ p i b. machine.served p i b (answers_to f p i b)) c
  says_of (said.Received a) = of_delivery (λ p i b. machine.heard p i b) c
  says_of (said.Aborted a) = of_delivery (λ p i b. machine.aborted p i b) c
  says_of (said.WriteIssued v) = of_delivery (λ p i b. machine.issued i b v) c
  says_of (said.Decided v) = of_delivery (λ p i b. machine.decided i b v) c
  says_of (said.Stopped b) = machine.quiet
  says_of (said.Gone s) = machine.left s
  says_of (said.Back b) = machine.quiet
  says_of (said.Refused k) = machine.quiet

-- and what of it in the department d
abbrev pub label_of : (d : Department) (f : Floor) (c : Command) → Outcome → Label Suit Suit
label_of d f c o = within d (department_of f c) (says_of f c o)

-- What is claimed (the field's term is a forward simulation): every step of the floor is, in each department, a step of the machine, and says
-- what it said.
abbrev pub Simulates : Type 0
Simulates = (d : Department) (f : Floor) (r : List ℕ) → Owned f → Lengths f
    → Step f.n figure1.Makes (panel d f) (panel d (step_of f r).floor) (label_of d f (command_of r) (step_of f r).outcome)
