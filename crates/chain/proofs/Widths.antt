-- On the floors that a list of records of bytes reaches, all numbers fit 32 bits.
use Prim.Native.Nat.{ℕ, zero, suc, ◌<◌, ◌^◌}
use native.Mathlib.Omega.{arith}
use mathlib.Core.Path.{sym, subst}
use mathlib.Core.Logic.{inl, inr}
use mathlib.Core.Bool.{true, false}
use mathlib.Core.List.{List, [], ◌∷◌}
use lib.ListN.{get_or, replicate}
use Rattle.suits.specs.Suits.{FourBytes}
use Rattle.std.proofs.Common.{Option}
use Rattle.suits.specs.declared.Suit.{Suit}
use Rattle.base.specs.Bytes.{Bytes}
use Rattle.base.specs.Records.{AllRecords}
use Rattle.base.proofs.Choices.{by_test}
use Rattle.base.proofs.Stores.{set_all, get_d_same}
use Rattle.register.specs.Register.{box0, register_of, value_in}
use Rattle.register.specs.declared.Department.{Department}
use Rattle.register.specs.declared.Department.TheVariants.{Sails, Canvas}
use Rattle.register.proofs.DepartmentLaws.{register_moved, same_or_not, box_own, box_other}
use Rattle.register.specs.declared.Register.{Register}
use Rattle.register.specs.declared.ReadDone.{ReadDone}
use Rattle.register.specs.declared.StorageBox.{StorageBox}
use Rattle.register.proofs.RegisterLaws.{ReadCase, outranked, answered, read_case}
use Rattle.firmware.specs.Claims.{Fits32}
use Rattle.firmware.proofs.CallLaws.{read_fits, write_fits}
use Rattle.requests.specs.declared.Phase.{Phase}
use Rattle.requests.specs.declared.Phase.TheVariants.{Read, Write}
use Rattle.requests.specs.declared.Requests.{Requests}
use Rattle.commands.specs.Commands.{command_of}
use Rattle.commands.specs.Claims.{Fielded}
use Rattle.commands.specs.declared.Command.{Command}
use Rattle.commands.specs.declared.Outcome.{Outcome}
use Rattle.commands.proofs.Encodings.{decode_fielded}
use Rattle.attempts.specs.Rows.{row_department, answer0, answer_of, row0, unused_row, new_row, row_served, row_heard, register_served, revision_from, revision_of, issued}
use Rattle.attempts.specs.Claims.{Found, nothing, highest}
use Rattle.register.specs.declared.Answer.{Answer}
use Rattle.attempts.specs.declared.Row.{Row}
use Rattle.attempts.proofs.AnswerLaws.{best_found}
use Rattle.runs.specs.Runs.{state_at}
use Rattle.floor.specs.Floors.{box_at, row_at, register_at, empty_floor, new_floor_of}
use Rattle.floor.specs.Effects.{heard_row, served_by}
use Rattle.floor.proofs.EmptyFloors.{new_floor_by}
use Rattle.floor.specs.Step.{step_of}
use Rattle.floor.specs.Runs.{floor_at}
use Rattle.floor.specs.Moves.{BoxMove, box_kept, box_serves, box_stops, box_returns}
use Rattle.floor.specs.declared.Floor.{Floor}
use Rattle.floor.proofs.Moves.{apply_box, RowMove, row_kept, row_begins, row_served_lem, row_heard_lem, row_issues, apply_row}

pub record RowFits (w : Row) : Type 0 where
  pub rank : w.rank < 2 ^ 32
  pub offer : FourBytes w.offer
  pub written : FourBytes w.written
  pub answers : (j : ℕ) → ((get_or w.answers j answer0).rank < 2 ^ 32) × ((get_or w.answers j answer0).value.r0 < 2 ^ 32)

pub record FloorFits (f : Floor) : Type 0 where
  pub rows : (a : ℕ) → RowFits (row_at f a)
  pub boxes : (d : Department) (b : ℕ) → Fits32 (register_at f d b)

AnswerFits : Answer → Type 0
AnswerFits x = (x.rank < 2 ^ 32) × (x.value.r0 < 2 ^ 32)

answer_fits : {x : Register} {r : ℕ} {d : ReadDone} → Fits32 x → ReadCase x r d → AnswerFits (answer_of d)
unfolding AnswerFits
answer_fits g (outranked h) = (omega arith, omega arith)
answer_fits g (answered h k) = (g.write, g.value)

served_fits : (p : Phase) {w : Row} {x : Register} (b : ℕ) → RowFits w → Fits32 x → RowFits (row_served p w x b)
unfolding AnswerFits
served_fits Read {w} {x} b h g = record {
  rank = h.rank;
  offer = h.offer;
  written = h.written;
  answers = set_all answer0 (λ _ (x : Answer). AnswerFits x) w.answers b _ h.answers (answer_fits g (read_case x w.rank));
}
served_fits Write b h g = record { rank = h.rank; offer = h.offer; written = h.written; answers = h.answers }

heard_fits : (p : Phase) {w : Row} (b : ℕ) → RowFits w → RowFits (row_heard p w b)
heard_fits Read b h = record { rank = h.rank; offer = h.offer; written = h.written; answers = h.answers }
heard_fits Write b h = record { rank = h.rank; offer = h.offer; written = h.written; answers = h.answers }

found_fits : {l : List Answer} {m : Requests} {k : ℕ} {x : Option Answer} → ((j : ℕ) → (get_or l j answer0).value.r0 < 2 ^ 32) → Found l m k x → (value_in x).r0 < 2 ^ 32
found_fits h (nothing z) = omega arith
found_fits h (highest {b} p q r t) = h b

revision_fits : (w : Row) (n : ℕ) → RowFits w → FourBytes (revision_of w n)
unfolding revision_of revision_from
revision_fits w n h =
    by_test (λ (v : Suit). v.r0 < 2 ^ 32) _ _ _ (λ _. h.offer) (λ _. found_fits (λ j. (h.answers j).1) (best_found w.answers w.read n))

served_register : (p : Phase) {w : Row} {x : Register} → RowFits w → Fits32 x → Fits32 (register_served p w x)
served_register Read {w} {x} h g = read_fits x w.rank g h.rank
served_register Write {w} {x} h g = write_fits x w.rank g h.rank w.written.r0 h.written

module _ {f : Floor} (h : FloorFits f) {c : Command} (k : Fielded c) (j : ℕ) where
  row_fits : {o : Outcome} {w : Row} → RowMove f c j o w → RowFits w
  unfolding new_row issued
  row_fits row_kept = h.rows j
  row_fits (row_begins e s _) =
      let q = subst Fielded e k in
      record { rank = omega (arith, q.0, q.1); offer = q.2; written = omega arith; answers = λ i. rw (get_d_same 9 i answer0) (omega arith, omega arith) }
  row_fits (row_served_lem {p} {b} e d) = served_fits p b (h.rows j) (h.boxes (row_department j) b)
  row_fits (row_heard_lem {p} {b} e d _) = heard_fits p b (h.rows j)
  row_fits (row_issues {b} {v} e d r q u t) =
      let w = heard_fits Read b (h.rows j) in
      record { rank = w.rank; offer = w.offer; written = subst (λ (u : Suit). u.r0 < 2 ^ 32) (sym t) (revision_fits (heard_row f Read j b) f.n w); answers = w.answers }

  box_fits : {o : Outcome} {x : StorageBox} (d : Department) → BoxMove f c j o x → Fits32 (register_of d x)
  box_fits d box_kept = h.boxes d j
  box_fits d (box_serves {p} {a} e u s) = elim (same_or_not d (row_department a)) [
    | inl q ↦ rw (q, box_own (row_department a) (box_at f j) _ (box_at f j).away) (served_register p (h.rows a) (h.boxes (row_department a) j))
    | inr n ↦ rw (box_other (row_department a) d (box_at f j) (register_served p (row_at f a) (served_by f a j)) (box_at f j).away n) (h.boxes d j)
  ]
  box_fits d (box_stops e s) = rw (register_moved d (box_at f j) true) (h.boxes d j)
  box_fits d (box_returns e s) = rw (register_moved d (box_at f j) false) (h.boxes d j)

step_fits : (f : Floor) (r : List ℕ) → Bytes r → FloorFits f → FloorFits (step_of f r).floor
unfolding step_of
step_fits f r b h =
    let k = decode_fielded r b in
    record { rows = λ j. row_fits h k j (apply_row f (command_of r) j); boxes = λ d j. box_fits h k j d (apply_box f (command_of r) j) }

record_bytes : (l : List (List ℕ)) → AllRecords l → (i : ℕ) → Bytes (get_or l i [])
record_bytes [] h i = tt
record_bytes (r ∷ l) h zero = h.0.bytes
record_bytes (r ∷ l) h (suc i) = record_bytes l h.1 i

pub fits_at : (f : Floor) (l : List (List ℕ)) → FloorFits f → AllRecords l → (i : ℕ) → FloorFits (floor_at f l i)
unfolding state_at
fits_at f l h y zero = h
fits_at f l h y (suc i) = step_fits (floor_at f l i) (get_or l i []) (record_bytes l y i) (fits_at f l h y i)

-- a new floor: all is 0
replicated : {A : Type 0} (P : A → Type 0) (k : ℕ) (x d : A) → P x → P d → (j : ℕ) → P (get_or (replicate k x) j d)
replicated P zero x d p q j = q
replicated P (suc k) x d p q zero = p
replicated P (suc k) x d p q (suc j) = replicated P k x d p q j

none_fits : (d : Department) → Fits32 (register_of d box0)
none_fits Sails = record { read = omega arith; write = omega arith; value = omega arith }
none_fits Canvas = record { read = omega arith; write = omega arith; value = omega arith }

empty_fits : (n m : ℕ) (l : List ℕ) → FloorFits (empty_floor n m l)
empty_fits n m l = record {
  rows = replicated RowFits 128 unused_row row0
      (record { rank = omega arith; offer = omega arith; written = omega arith; answers = λ j. rw (get_d_same 9 j answer0) (omega arith, omega arith) })
      (record { rank = omega arith; offer = omega arith; written = omega arith; answers = λ j. (omega arith, omega arith) });
  boxes = λ d b. rw (get_d_same 9 b box0) (none_fits d);
}

pub new_fits : (n m : ℕ) (l : List ℕ) → FloorFits (new_floor_of n m l).floor
new_fits n m l = new_floor_by FloorFits n m l (λ _ _. empty_fits n m l) (empty_fits 1 1 [])
