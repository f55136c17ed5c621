-- Every step keeps the lengths of the arrays.
use Prim.Native.Nat.{ℕ, ◌<◌}
use mathlib.Core.Path.{◌≡◌, refl, ap, ◌∙◌}
use mathlib.Core.List.{List}
use lib.ListN.{length, set, length-set}
use Rattle.suits.specs.declared.Suit.{Suit}
use Rattle.attempts.specs.Rows.{row0, requests_of, new_row, row_served, row_heard}
use Rattle.floor.specs.Floors.{row_at}
use Rattle.floor.specs.Soundness.{Lengths}
use Rattle.attempts.specs.Rows as rows
use Rattle.commands.specs.Commands.{command_of}
use Rattle.floor.specs.Step.{apply_of, step_of}
use Rattle.attempts.specs.declared.Row.{Row}
use Rattle.floor.specs.declared.Floor.{Floor}
use Rattle.floor.specs.declared.Stepped.{Stepped}
use Rattle.commands.specs.declared.Command.{Command}
use Rattle.requests.specs.declared.Phase.{Phase}
use Rattle.requests.specs.declared.Phase.TheVariants.{Read, Write}
use Rattle.requests.proofs.RequestLaws.{waiting_length, served_length}
use Rattle.base.proofs.Stores.{set_all}
use Rattle.register.specs.declared.Register.{Register}
use Rattle.floor.specs.Effects.{row_taken}
use Rattle.floor.proofs.StepCases.{StepCase, turned, began, served, heard, issued, decided, aborted, stopped, left, returned, apply_case}

-- a phase of a row has nine slots
abbrev Nine : Row → Phase → Type 0
Nine w p = length (requests_of p w).slots ≡ 9

-- a row's own arrays have their lengths
pub record RowLengths (w : Row) : Type 0 where
  pub slots : (p : Phase) → length (requests_of p w).slots ≡ 9
  pub answers : length w.answers ≡ 9

pub row_lengths : (f : Floor) → Lengths f → (a : ℕ) → a < 128 → RowLengths (row_at f a)
row_lengths f y a h = record { slots = λ p. y.slots p a h; answers = y.answers a h }

served_lengths : (p : Phase) (w : Row) (g : Register) (b : ℕ) → RowLengths w → RowLengths (row_served p w g b)
served_lengths Read w g b y = record {
  slots = λ q. elim q as (Nine (row_served Read w g b)) [ Read ↦ served_length w.read b _ ∙ y.slots Read | Write ↦ y.slots Write ];
  answers = length-set w.answers b _ ∙ y.answers;
}
served_lengths Write w g b y = record {
  slots = λ q. elim q as (Nine (row_served Write w g b)) [ Read ↦ y.slots Read | Write ↦ served_length w.write b _ ∙ y.slots Write ];
  answers = y.answers;
}

heard_lengths : (p : Phase) (w : Row) (b : ℕ) → RowLengths w → RowLengths (row_heard p w b)
heard_lengths Read w b y = record { slots = λ q. elim q as (Nine (row_heard Read w b)) [ Read ↦ y.slots Read | Write ↦ y.slots Write ]; answers = y.answers }
heard_lengths Write w b y = record { slots = λ q. elim q as (Nine (row_heard Write w b)) [ Read ↦ y.slots Read | Write ↦ y.slots Write ]; answers = y.answers }

issued_lengths : (w : Row) (v : Suit) (n : ℕ) → RowLengths w → RowLengths (rows.issued w v n)
unfolding rows.issued
issued_lengths w v n y = record { slots = λ q. elim q as (Nine (rows.issued w v n)) [ Read ↦ y.slots Read | Write ↦ waiting_length n ]; answers = y.answers }

new_lengths_row : (n s round : ℕ) (v : Suit) → RowLengths (new_row n s round v)
unfolding new_row
new_lengths_row n s round v = record { slots = λ q. elim q as (Nine (new_row n s round v)) [ Read ↦ waiting_length n | Write ↦ refl ]; answers = refl }

-- a row stored whose own arrays have their lengths; boxes and stations of the same lengths
lengths_on : (f g : Floor) (a : ℕ) (w : Row) → Lengths f → length g.boxes ≡ length f.boxes → length g.stations ≡ length f.stations → g.rows ≡ set f.rows a w
    → (a < 128 → RowLengths w) → Lengths g
lengths_on f g a w y lb ls e r = record {
  boxes = lb ∙ y.boxes;
  stations = ls ∙ y.stations;
  rows = ap length e ∙ length-set f.rows a w ∙ y.rows;
  slots = λ p j h. (all j h).slots p;
  answers = λ j h. (all j h).answers;
}
  where
    all : (j : ℕ) → j < 128 → RowLengths (row_at g j)
    all j h = rw e (set_all row0 (λ (i : ℕ) (x : Row). i < 128 → RowLengths x) f.rows a w (row_lengths f y) r j h)

lengths : {f : Floor} {c : Command} {s : Stepped} → StepCase f c s → Lengths f → Lengths s.floor
lengths (turned k t) y = y
lengths {f} (began {s = s} {round = r} {v = v} z d) y = lengths_on f _ (row_taken f s) _ y refl (length-set f.stations s _) refl (λ _. new_lengths_row f.n s r v)
lengths {f} (served {p = p} {a = a} {b = b} z d) y =
    lengths_on f _ a _ y (length-set f.boxes b _) refl refl (λ h. served_lengths p (row_at f a) _ b (row_lengths f y a h))
lengths {f} (heard {p = p} {a = a} {b = b} z d q) y = lengths_on f _ a _ y refl refl refl (λ h. heard_lengths p (row_at f a) b (row_lengths f y a h))
lengths {f} (issued {a = a} {b = b} z d r q t) y =
    lengths_on f _ a _ y refl (length-set f.stations (row_at f a).station _) refl (λ h. issued_lengths _ _ f.n (heard_lengths Read (row_at f a) b (row_lengths f y a h)))
lengths {f} (decided {a = a} {b = b} z d r q t) y = lengths_on f _ a _ y refl (length-set f.stations (row_at f a).station _) refl (λ h. heard_lengths Write (row_at f a) b (row_lengths f y a h))
lengths {f} (aborted {p = p} {a = a} {b = b} z d r q t) y = lengths_on f _ a _ y refl (length-set f.stations (row_at f a).station _) refl (λ h. heard_lengths p (row_at f a) b (row_lengths f y a h))
lengths {f} (stopped {b = b} z d) y =
    record { boxes = length-set f.boxes b _ ∙ y.boxes; stations = y.stations; rows = y.rows; slots = y.slots; answers = y.answers }
lengths {f} (left {s = s} z d) y =
    record { boxes = y.boxes; stations = length-set f.stations s _ ∙ y.stations; rows = y.rows; slots = y.slots; answers = y.answers }
lengths {f} (returned {b = b} z d) y =
    record { boxes = length-set f.boxes b _ ∙ y.boxes; stations = y.stations; rows = y.rows; slots = y.slots; answers = y.answers }

pub apply_lengths : (f : Floor) (c : Command) → Lengths f → Lengths (apply_of f c).floor
apply_lengths f c = lengths (apply_case f c)

pub step_lengths : (f : Floor) (r : List ℕ) → Lengths f → Lengths (step_of f r).floor
unfolding step_of
step_lengths f r = apply_lengths f (command_of r)
