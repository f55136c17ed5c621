-- What each thing said means: of which command it came, which tests that passed, and to which floor it led; and what is read back there. The
-- arrays have their lengths, so that what is stored can be read back.
use Prim.Native.Nat.{ℕ}
use mathlib.Core.Path.{◌≡◌, refl, ap, subst, ◌∙◌}
use mathlib.Core.Bool.{true, false}
use mathlib.Core.List.{List}
use Rattle.suits.specs.declared.Suit.{Suit}
use Rattle.register.specs.Register.{box_with}
use Rattle.commands.specs.Commands.{command_of}
use Rattle.commands.specs.declared.Command.{Command}
use Rattle.commands.specs.declared.Outcome.{Outcome}
use Rattle.attempts.specs.Stations.{with_state}
use Rattle.attempts.specs.Rows.{row_department, new_row, row_served, register_served}
use Rattle.attempts.specs.Rows as rows
use Rattle.attempts.specs.declared.State.TheVariants as state
use Rattle.requests.specs.declared.Phase.TheVariants.{Read, Write}
use Rattle.floor.specs.Floors.{box_at, station_at, row_at, owner_at, department_at, share_of}
use Rattle.floor.specs.Effects.{row_taken, beginner, share_after, served_by, heard_row, decider, with_away}
use Rattle.floor.specs.Step.{apply_of, step_of}
use Rattle.floor.specs.Soundness.{Lengths}
use Rattle.floor.specs.Meanings.{BegunBy, ServedBy, IssuedBy, DecidedBy, AbortedBy, StoppedBy, GoneBy, BackBy, Meaning}
use Rattle.floor.specs.declared.Floor.{Floor}
use Rattle.floor.specs.declared.Stepped.{Stepped}
use Rattle.floor.proofs.UseLaws.{share_own}
use Rattle.floor.proofs.StepCases.{StepCase, turned, began, served, heard, issued, decided, aborted, stopped, left, returned, apply_case}
use Rattle.floor.proofs.StoredLaws.{row_stored, station_stored, owner_stored, box_stored, used_stored}

meaning : {f : Floor} {c : Command} {s : Stepped} → StepCase f c s → Meaning f c s.floor s.outcome
meaning (turned k t) = record { cause = t; floor = refl }
meaning (began {s = s} {round = r} {v = v} z d) = record { station = s; round = r; offer = v; command = refl; sound = z; may = d; next = refl; floor = refl }
meaning (served {p = p} {b = b} z d) = record { phase = p; box = b; command = refl; sound = z; may = d; floor = refl }
meaning (heard {p = p} {b = b} z d q) = record { phase = p; box = b; command = refl; sound = z; may = d; floor = refl }
meaning (issued {a = a} {b = b} z d r q t) =
    record { attempt = a; box = b; command = refl; sound = z; may = d; reading = r; quorum = q; answered = t; revision = refl; floor = refl }
meaning (decided {a = a} {b = b} z d r q t) =
    record { attempt = a; box = b; answer = record { command = refl; sound = z; may = d; writing = r; quorum = q }; taken = t; written = refl; floor = refl }
meaning (aborted {p = p} {b = b} z d r q t) = record { phase = p; box = b; command = refl; sound = z; may = d; current = r; no = q; quorum = t; floor = refl }
meaning (stopped z d) = record { command = refl; sound = z; may = d; floor = refl }
meaning (left z d) = record { command = refl; sound = z; may = d; floor = refl }
meaning (returned z d) = record { command = refl; sound = z; may = d; floor = refl }

pub apply_means : (f : Floor) (c : Command) (o : Outcome) → (apply_of f c).outcome ≡ o → Meaning f c (apply_of f c).floor o
apply_means f c o e = subst (Meaning f c (apply_of f c).floor) e (meaning (apply_case f c))

pub step_means : (f : Floor) (r : List ℕ) → Meaning f (command_of r) (step_of f r).floor (step_of f r).outcome
unfolding step_of
step_means f r = apply_means f (command_of r) _ refl

pub begun_share : {f : Floor} {c : Command} {g : Floor} {a : ℕ} (m : BegunBy f c g a) → share_of (department_at f m.station) g ≡ share_after f m.station m.round
begun_share {f} m = ap (share_of (department_at f m.station)) m.floor ∙ share_own (department_at f m.station) f _

module _ {f : Floor} {c : Command} {g : Floor} (y : Lengths f) where
  pub begun_row : {a : ℕ} (m : BegunBy f c g a) → row_at g (row_taken f m.station) ≡ new_row f.n m.station m.round m.offer
  begun_row m = rw m.floor (row_stored f y m.sound _ _ m.may.row)

  pub begun_station : {a : ℕ} (m : BegunBy f c g a) → station_at g m.station ≡ beginner f m.station m.round
  begun_station m = rw m.floor (station_stored f y m.sound _ _ m.may.station)

  pub served_row : {a : ℕ} (m : ServedBy f c g a) → row_at g a ≡ row_served m.phase (row_at f a) (served_by f a m.box) m.box
  served_row m = rw m.floor (used_stored f y m.sound _ _ m.may.used)

  pub served_box : {a : ℕ} (m : ServedBy f c g a)
      → box_at g m.box ≡ box_with (row_department a) (box_at f m.box) (register_served m.phase (row_at f a) (served_by f a m.box)) (box_at f m.box).away
  served_box m = rw m.floor (box_stored f y m.sound _ _ m.may.box)

  pub issued_row_lem : {v : Suit} (m : IssuedBy f c g v) → row_at g m.attempt ≡ rows.issued (heard_row f Read m.attempt m.box) v f.n
  issued_row_lem m = rw m.floor (used_stored f y m.sound _ _ m.may.used)

  pub decided_owner : {v : Suit} (m : DecidedBy f c g v) → station_at g (row_at f m.attempt).station ≡ decider f m.attempt (heard_row f Write m.attempt m.box)
  decided_owner m = rw m.floor (owner_stored f y m.answer.sound _ _ m.answer.may.used)

  pub aborted_owner : {a : ℕ} → AbortedBy f c g a → station_at g (row_at f a).station ≡ with_state (owner_at f a) state.Idle
  aborted_owner m = rw m.floor (owner_stored f y m.sound _ _ m.may.used)

  pub stopped_box_lem : {b : ℕ} → StoppedBy f c g b → box_at g b ≡ with_away true (box_at f b)
  stopped_box_lem m = rw m.floor (box_stored f y m.sound _ _ m.may.box)

  pub back_box : {b : ℕ} → BackBy f c g b → box_at g b ≡ with_away false (box_at f b)
  back_box m = rw m.floor (box_stored f y m.sound _ _ m.may.box)

  pub gone_station_lem : {s : ℕ} → GoneBy f c g s → station_at g s ≡ with_state (station_at f s) state.Gone
  gone_station_lem m = rw m.floor (station_stored f y m.sound _ _ m.may.station)
