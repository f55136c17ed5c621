-- The run of a list in a department, as a run of the machine: its steps are the simulation's, and it says what the list's steps said.
use Prim.Native.Nat.{ℕ, suc}
use mathlib.Core.Path.{◌≡◌, refl, ap, subst, ◌∙◌}
use mathlib.Core.List.{List, []}
use lib.ListN.{get_or}
use Rattle.suits.specs.Suits.{suit0}
use Rattle.suits.specs.declared.Suit.{Suit}
use Rattle.base.proofs.Choices.{by_test}
use Rattle.register.specs.Register.{is_of, register_of, box0}
use Rattle.register.specs.declared.Department.{Department}
use Rattle.register.specs.declared.Department.TheVariants.{Sails, Canvas}
use Rattle.register.specs.declared.StorageBox.{StorageBox}
use Rattle.commands.specs.declared.Command.{Command}
use Rattle.commands.specs.declared.Command.TheVariants.{Begin, Serve}
use Rattle.commands.specs.declared.Outcome.{Outcome}
use Rattle.commands.specs.declared.Outcome.TheVariants as said
use Rattle.attempts.specs.Rows.{row_department}
use Rattle.runs.specs.Runs.{state_at}
use Rattle.floor.specs.Floors.{department_at, new_station}
use Rattle.floor.specs.Departments.{only, department_of}
use Rattle.floor.specs.Runs.{floor_at, said_at}
use Rattle.floor.specs.Step.{step_of}
use Rattle.floor.specs.declared.Floor.{Floor}
use Rattle.floor.specs.declared.Stepped.{Stepped}
use Rattle.floor.proofs.FreeLaws.{next_own}
use Rattle.floor.proofs.StepCases.{StepCase, turned, began, served, heard, decided, aborted, stopped, left, returned, step_case}
use Rattle.floor.proofs.StepCases as cases
use Rattle.machine.specs.Machine.{Label, none, Step}
use Rattle.machine.specs.Machine as machine
use Rattle.machine.specs.Runs.{Run}
use Rattle.machine.specs.Runs as runs
use Rattle.panel.specs.Panel.{figure1, station_for, panel, within, label_of}
use Rattle.panel.proofs.Simulation.{quiet_within, simulates}
use Rattle.commands.specs.Commands.{command_of}
use Rattle.floor.proofs.Reached.{New, size_at, lengths_at, owned_at}
use Rattle.floor.specs.Runs.{command_at}

-- What the machine says in the department d, in the words of the list: c and o are the step's command and outcome.
abbrev pub Says : Department → Command → Outcome → Label Suit Suit → Type 0
Says d c o (machine.began s round v a) = (c ≡ Begin s round v) × (o ≡ said.Begun a) × (row_department a ≡ d)
Says d c o (machine.served p a b ok) = (c ≡ Serve p a b) × (o ≡ said.Served a) × (row_department a ≡ d)
Says d c o (machine.heard p a b) = Unit {0}
Says d c o (machine.issued a b v) = Unit {0}
Says d c o (machine.decided a b v) = Unit {0}
Says d c o (machine.aborted p a b) = Unit {0}
Says d c o (machine.left s) = Unit {0}
Says d c o machine.quiet = Unit {0}

says_within : (d e : Department) (c : Command) (o : Outcome) (t : Label Suit Suit) → (e ≡ d → Says d c o t) → Says d c o (within d (only e) t)
says_within Sails Sails c o t k = k refl
says_within Sails Canvas c o t k = tt
says_within Canvas Sails c o t k = tt
says_within Canvas Canvas c o t k = k refl

case_says : {f : Floor} {c : Command} {s : Stepped} (d : Department) (x : StepCase f c s) → Says d c s.outcome (label_of d f c s.outcome)
case_says {f} {c} d (turned k t) = subst (Says d c (said.Refused k)) (quiet_within d (department_of f c)) tt
case_says {f} d (began {s = s} z y) = says_within d (department_at f s) _ _ _ (λ q. (refl, refl, next_own f (department_at f s) y.row ∙ q))
case_says d (served {p = p} {a = a} {b = b} z y) = says_within d (row_department a) _ _ _ (λ q. (refl, refl, q))
case_says d (heard {a = a} z y q) = says_within d (row_department a) _ _ _ (λ _. tt)
case_says d (cases.issued {a = a} z y r q t) = says_within d (row_department a) _ _ _ (λ _. tt)
case_says d (decided {a = a} z y r q t) = says_within d (row_department a) _ _ _ (λ _. tt)
case_says d (aborted {a = a} z y r q t) = says_within d (row_department a) _ _ _ (λ _. tt)
case_says d (stopped z y) = tt
case_says {f} d (left {s = s} z y) = says_within d (department_at f s) _ _ _ (λ _. tt)
case_says d (returned z y) = tt

says : (d : Department) (f : Floor) (r : List ℕ) → Says d (command_of r) (step_of f r).outcome (label_of d f (command_of r) (step_of f r).outcome)
says d f r = case_says d (step_case f r)

-- a step of the department says what it says
pub within_own : (d e : Department) (t : Label Suit Suit) → e ≡ d → within d (only e) t ≡ t
within_own d e t q = ap (λ (x : Department). within d (only x) t) q ∙ own d
  where
    own : (d : Department) → within d (only d) t ≡ t
    own Sails = refl
    own Canvas = refl

module _ (f : Floor) (l : List (List ℕ)) where
  -- what the step at i says in the department d
  abbrev pub label_at : Department → ℕ → Label Suit Suit
  label_at d i = label_of d (floor_at f l i) (command_at l i) (said_at f l i)

  -- read back
  pub says_at : (d : Department) (i : ℕ) {t : Label Suit Suit} → label_at d i ≡ t → Says d (command_at l i) (said_at f l i) t
  says_at d i e = subst (Says d (command_at l i) (said_at f l i)) e (says d (floor_at f l i) (get_or l i []))

  module _ (new : New f) where
    new_seat : (d e : Department) → (station_for d (new_station e)).seat ≡ none
    unfolding station_for
    new_seat d e = by_test (λ (x : machine.Station). x.seat ≡ none) (is_of d e) _ _ (λ _. refl) (λ _. refl)

    new_box : (d : Department) → ((register_of d box0).read ≡ 0) × ((register_of d box0).write ≡ 0) × ((register_of d box0).value ≡ suit0)
    new_box Sails = (refl, refl, refl)
    new_box Canvas = (refl, refl, refl)

    -- the run in the department d
    pub new_in : (d : Department) → runs.New suit0 (panel d (floor_at f l 0))
    unfolding state_at
    new_in d = record {
      reads = λ b. ap (λ (x : StorageBox). (register_of d x).read) (new.boxes b) ∙ (new_box d).0;
      writes = λ b. ap (λ (x : StorageBox). (register_of d x).write) (new.boxes b) ∙ (new_box d).1;
      value = λ b. ap (λ (x : StorageBox). (register_of d x).value) (new.boxes b) ∙ (new_box d).2;
      unused = λ a h. new.unused a h.1;
      seats = λ j. rw (new.stations j) (new_seat d (department_at f j));
    }

    pub step_in : (d : Department) (i : ℕ) → Step f.n figure1.Makes (panel d (floor_at f l i)) (panel d (floor_at f l (suc i))) (label_at d i)
    unfolding state_at
    step_in d i =
        subst (λ (n : ℕ). Step n figure1.Makes (panel d (floor_at f l i)) (panel d (floor_at f l (suc i))) (label_at d i)) (size_at f l i)
        (simulates d (floor_at f l i) (get_or l i []) (owned_at f l new i) (lengths_at f l new i))

    abbrev pub run_in : (d : Department) → Run f.n figure1
    run_in d = record { at = λ i. panel d (floor_at f l i); said = label_at d; new = new_in d; step = step_in d }
