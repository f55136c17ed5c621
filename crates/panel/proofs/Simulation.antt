-- Every step of the floor is, in each department, a step of the machine.
use Prim.Native.Nat.{ℕ, ◌+◌, ◌<◌}
use native.Mathlib.Nat.{max-eq_right}
use native.Mathlib.Omega.{arith}
use mathlib.Core.Path.{◌≡◌, refl, sym, ap, subst, ◌∙◌}
use mathlib.Core.Bool.{Bool, true, false}
use mathlib.Core.List.{List}
use lib.ListN.{get_or, set}
use lib.Seq.{get_or-set_other}
use Rattle.suits.specs.declared.Suit.{Suit}
use Rattle.std.proofs.Common.{Option, Some, None}
use borrow.Author.Tests.{eq-eqb}
use Rattle.base.proofs.Cases.{clash, by_cases}
use Rattle.base.proofs.Choices.{on_true, on_false, by_test}
use Rattle.base.proofs.QuorumLaws.{majority_meet}
use Rattle.register.specs.Register.{is_of, is_held, register_of, takes, rmw_write, box0}
use Rattle.register.specs.declared.Department.{Department}
use Rattle.register.specs.declared.Department.TheVariants.{Sails, Canvas}
use Rattle.register.specs.declared.Register.{Register}
use Rattle.register.specs.declared.StorageBox.{StorageBox}
use Rattle.register.specs.declared.ReadDone.{ReadDone}
use Rattle.register.specs.declared.WriteDone.{WriteDone}
use Rattle.register.proofs.RegisterLaws.{ReadCase, outranked, answered, read_case, takes_means, takes_not}
use Rattle.register.proofs.DepartmentLaws.{box_own, same_is, is_same}
use Rattle.requests.specs.Requests.{slot_at, served_at, at_quorum, all_yes}
use Rattle.requests.specs.declared.Phase.{Phase}
use Rattle.requests.specs.declared.Phase.TheVariants.{Read, Write}
use Rattle.requests.specs.declared.Stage.TheVariants.{Waiting, Answered}
use Rattle.requests.proofs.Standings.{waits_means, arrives_means}
use Rattle.commands.specs.declared.Command.{Command}
use Rattle.attempts.specs.Stations.{station0, is_active, is_reading, is_writing, is_in, with_state}
use Rattle.attempts.specs.Rows.{row0, answer0, row_department, first_row, requests_of, new_row, answer_of, row_heard, requests_heard, revision_from, revision_of}
use Rattle.attempts.specs.Rows as rows
use Rattle.attempts.specs.Claims.{nothing, highest}
use Rattle.attempts.specs.Claims as attempts
use Rattle.register.specs.declared.Answer.{Answer}
use Rattle.attempts.specs.declared.Row as concrete
use Rattle.attempts.specs.declared.State.{State}
use Rattle.attempts.specs.declared.State.TheVariants as state
use Rattle.attempts.specs.declared.Station as seated
use Rattle.attempts.proofs.AnswerLaws.{best_found, revision_offer, revision_value}
use Rattle.attempts.proofs.StationTests.{is_reading_lem, is_writing_lem, is_idle}
use Rattle.floor.specs.Floors.{box_at, station_at, row_at, owner_at, register_at, department_at, InUse, with_register, with_row}
use Rattle.floor.specs.Departments.{Belonging, only, shared, department_of, is_only, SameFor, Owned}
use Rattle.floor.specs.Soundness.{Sound, Lengths}
use Rattle.floor.specs.Tests.{CanBegin, CanServe, CanDeliver, CanLeave}
use Rattle.floor.specs.Effects.{row_taken, beginner, after_begin, served_by, after_serve, heard_row, after_issue, after_decision, decider, after_abort, after_leave}
use Rattle.floor.specs.declared.Floor.{Floor}
use Rattle.floor.specs.declared.Share.{Share}
use Rattle.floor.specs.declared.Stepped.{Stepped}
use Rattle.floor.proofs.UseLaws.{in_use_most, use_of, of_use}
use Rattle.floor.proofs.FreeLaws.{next_own, next_over}
use Rattle.floor.proofs.StoredLaws.{row_stored, used_stored}
use Rattle.floor.proofs.BegunUse.{begun_use, use_begun, taken_use}
use Rattle.floor.proofs.DepartmentLaws.{case_untouched}
use Rattle.floor.proofs.StepCases.{StepCase, turned, began, served, heard, decided, aborted, stopped, left, returned, step_case}
use Rattle.floor.proofs.StepCases as cases
use Rattle.protocol.specs.Trace.{Box, read_box, write_box, Edit, there, other}
use Rattle.machine.specs.Machine.{Row, Found, Seat, none, reading, writing, Station, Label, RowMoved, HeardIn, Highest, Step}
use Rattle.machine.specs.Machine as machine
use Rattle.machine.proofs.Asks.{edit_set, edit_map, served_asks, heard_asks, fresh_asks, none_asks, agreed_asks, denied_asks}
use Rattle.panel.specs.Panel.{Simulates, within, answers_to, label_of, figure1, box_of, found_in, row_of, seat_in, station_for, panel}

-- a floor's step in a department, from f to g
abbrev pub StepIn : Department → Floor → Floor → Label Suit Suit → Type 0
StepIn d f g t = Step f.n figure1.Makes (panel d f) (panel d g) t

-- a station of the department as the machine sees it
pub seen_own : (d : Department) (x : seated.Station) → x.department ≡ d → station_for d x ≡ record { seat = seat_in x.state; last = x.last }
unfolding station_for
seen_own d x e = sym (on_true _ (same_is d x.department (sym e)) refl)

module _ (d : Department) (f : Floor) (y : Lengths f) where
  -- a row in use is stored
  row_moved : Sound f → (a : ℕ) → row_department a ≡ d → InUse f a → (w : concrete.Row) (C : Row Suit Suit → Row Suit Suit → Type 0) → C (row_of (row_at f a)) (row_of w)
      → (bs : List StorageBox) (ss : List seated.Station)
      → RowMoved (panel d f) (panel d (record { n = f.n; m = f.m; shares = f.shares; boxes = bs; stations = ss; rows = set f.rows a w })) a C
  row_moved z a e h w C k bs ss = record {
    mine = (e, h);
    used = λ j u. u;
    still = λ j u. u;
    moved = rw (used_stored f y z a w h) k;
    same = λ j n. ap row_of (get_or-set_other f.rows a j w row0 n);
  }

  -- a box is stored, as the machine sees it
  box_edit : (b : ℕ) (x : StorageBox) → b < 9 → (g : Box Suit → Box Suit) → box_of (register_of d x) ≡ g (box_of (register_at f d b)) → (j : ℕ)
      → Edit (λ k. box_of (register_at f d k)) (λ k. box_of (register_of d (get_or (set f.boxes b x) k box0))) b g j
  box_edit b x h g e j = elim (edit_set box0 f.boxes b x (omega (arith, y.boxes)) j) [
    | there p q ↦ there p (ap (λ (c : StorageBox). box_of (register_of d c)) q ∙ e ∙ ap (λ (k : ℕ). g (box_of (register_at f d k))) (sym p))
    | other p q ↦ other p (ap (λ (c : StorageBox). box_of (register_of d c)) q)
  ]

  box_kept : (b : ℕ) (x : StorageBox) → b < 9 → register_of d x ≡ register_at f d b → (j : ℕ) → box_of (register_of d (get_or (set f.boxes b x) j box0)) ≡ box_of (register_at f d j)
  box_kept b x h e j = elim (edit_set box0 f.boxes b x (omega (arith, y.boxes)) j) [
    | there p q ↦ ap (λ (c : StorageBox). box_of (register_of d c)) q ∙ ap box_of e ∙ ap (λ (k : ℕ). box_of (register_at f d k)) (sym p)
    | other p q ↦ ap (λ (c : StorageBox). box_of (register_of d c)) q
  ]

  -- a station of the department is stored
  station_edit : (s : ℕ) (x : seated.Station) → s < 16 → x.department ≡ d → (t : Station → Station)
      → record { seat = seat_in x.state; last = x.last } ≡ t (station_for d (station_at f s)) → (j : ℕ)
      → Edit (λ k. station_for d (station_at f k)) (λ k. station_for d (get_or (set f.stations s x) k station0)) s t j
  station_edit s x h e t q j = elim (edit_set station0 f.stations s x (omega (arith, y.stations)) j) [
    | there p o ↦ there p (ap (station_for d) o ∙ seen_own d x e ∙ q ∙ ap (λ (k : ℕ). t (station_for d (station_at f k))) (sym p))
    | other p o ↦ other p (ap (station_for d) o)
  ]

-- A serve.
module _ {f : Floor} (a b : ℕ) (y : Lengths f) (z : Sound f) where
  abbrev own : Department
  own = row_department a

  abbrev held : Register
  held = served_by f a b

  abbrev rank : ℕ
  rank = (row_at f a).rank

  module _ (d : CanServe f Read a b) where
    box_below : b < 9
    box_below = omega (arith, d.box, z.box_most)

    abbrev row_asked : ReadDone → concrete.Row
    row_asked x =
        record {
          station = (row_at f a).station;
          rank = rank;
          offer = (row_at f a).offer;
          written = (row_at f a).written;
          read = served_at (row_at f a).read b (is_held x.answer);
          answers = set (row_at f a).answers b (answer_of x);
          write = (row_at f a).write;
        }

    row_asked_lem : (x : ReadDone) → (is_held x.answer ≡ true → ((answer_of x).rank ≡ held.write) × ((answer_of x).value ≡ held.value))
        → machine.ReadServed b (is_held x.answer) (box_of held) (row_of (row_at f a)) (row_of (row_asked x))
    row_asked_lem x k = let stored = edit_set answer0 (row_at f a).answers b (answer_of x) (omega (arith, y.answers a (in_use_most f z a d.used), box_below)) in record {
      same = record { station = refl; rank = refl; offer = refl };
      written = refl;
      read = served_asks (row_at f a).read b (is_held x.answer) (omega (arith, y.slots Read a (in_use_most f z a d.used), box_below));
      found = λ j. elim (edit_map found_in stored j) [ there p q ↦ there p (ap (λ (i : ℕ). found_in (get_or (set (row_at f a).answers b (answer_of x)) i answer0)) p) | other p q ↦ other p q ];
      answer = λ t. elim (stored b) [ there p q ↦ (let o = k t in (ap (λ (i : Answer). i.rank) q ∙ o.0, ap (λ (i : Answer). i.value) q ∙ o.1)) | other p q ↦ absurd (p refl) ];
      write = refl;
    }

    abbrev floor_asked : ReadDone → Floor
    floor_asked x = with_row (with_register own f b x.register) a (row_asked x)

    asked_moved : (x : ReadDone) → (is_held x.answer ≡ true → ((answer_of x).rank ≡ held.write) × ((answer_of x).value ≡ held.value))
        → RowMoved (panel own f) (panel own (floor_asked x)) a (machine.ReadServed b (is_held x.answer) (box_of held))
    asked_moved x k =
        row_moved own f y z a refl d.used (row_asked x) (machine.ReadServed b (is_held x.answer) (box_of held)) (row_asked_lem x k) (with_register own f b x.register).boxes f.stations

    read_done : {x : ReadDone} → ReadCase held rank x → StepIn own f (floor_asked x) (machine.served Read a b (is_held x.answer))
    read_done (outranked h) =
        machine.tell h (box_kept own f y b _ box_below (box_own own (box_at f b) held (box_at f b).away))
        (asked_moved (record { register = held; answer = None }) (λ t. clash t refl)) (λ j. refl)
    read_done (answered h k) =
        let got : Register = record { read = rank; write = held.write; value = held.value } in
        machine.answer (box_edit own f y b _ box_below (read_box rank)
        (ap box_of (box_own own (box_at f b) got (box_at f b).away) ∙ ap (λ (i : ℕ). record { read_rank = i; write_rank = held.write; value = held.value }) (sym (max-eq_right h))))
        (asked_moved (record { register = got; answer = Some (record { rank = held.write; value = held.value }) }) (λ _. (refl, refl))) (λ j. refl)

  module _ (d : CanServe f Write a b) where
    waits : (slot_at (row_at f a).write b).stage ≡ Waiting
    waits = (waits_means (slot_at (row_at f a).write b).stage (row_at f a).write.heard b d.waits).0

    abbrev row_wrote : Bool → concrete.Row
    row_wrote t = rows.with_requests Write (row_at f a) (served_at (row_at f a).write b t)

    abbrev floor_wrote : WriteDone → Floor
    floor_wrote x = with_row (with_register own f b x.register) a (row_wrote x.taken)

    wrote_moved : (x : WriteDone) → RowMoved (panel own f) (panel own (floor_wrote x)) a (machine.WriteServed b x.taken)
    wrote_moved x = row_moved own f y z a refl d.used (row_wrote x.taken) (machine.WriteServed b x.taken) (record {
      same = record { station = refl; rank = refl; offer = refl };
      written = refl;
      read = refl;
      found = λ j. refl;
      write = served_asks (row_at f a).write b x.taken (omega (arith, y.slots Write a (in_use_most f z a d.used), d.box, z.box_most));
    }) (with_register own f b x.register).boxes f.stations

    wrote_done : StepIn own f (floor_wrote (rmw_write held rank (row_at f a).written)) (machine.served Write a b (rmw_write held rank (row_at f a).written).taken)
    unfolding rmw_write
    wrote_done =
        by_test (λ (x : WriteDone). StepIn own f (floor_wrote x) (machine.served Write a b x.taken)) (takes held rank) _ _
        (λ e.
        let p = takes_means held rank e in
        let got : Register = record { read = held.read; write = rank; value = (row_at f a).written } in
        machine.take waits p.0 p.1
        (box_edit own f y b _ (omega (arith, d.box, z.box_most)) (write_box rank (row_at f a).written) (ap box_of (box_own own (box_at f b) got (box_at f b).away)))
        (wrote_moved (record { register = got; taken = true })) (λ j. refl))
        (λ e.
        machine.refuse waits (takes_not held rank e) (box_kept own f y b _ (omega (arith, d.box, z.box_most)) (box_own own (box_at f b) held (box_at f b).away))
        (wrote_moved (record { register = held; taken = false })) (λ j. refl))

serve_step : {f : Floor} (p : Phase) (a b : ℕ) → Lengths f → Sound f → CanServe f p a b → StepIn (row_department a) f (after_serve f p a b) (machine.served p a b (answers_to f p a b))
serve_step {f} Read a b y z d = read_done a b y z d (read_case (served_by f a b) (row_at f a).rank)
serve_step Write a b y z d = wrote_done a b y z d

-- A delivery.
module _ {f : Floor} (p : Phase) (a b : ℕ) (d : CanDeliver f p a b) where
  arrived : (slot_at (requests_of p (row_at f a)) b).stage ≡ Answered
  arrived = (arrives_means (slot_at (requests_of p (row_at f a)) b).stage (requests_of p (row_at f a)).heard b d.arrives).0

heard_in_lem : (p : Phase) (b : ℕ) (w : concrete.Row) → HeardIn p b (row_of w) (row_of (row_heard p w b))
heard_in_lem Read b w = record { same = record { station = refl; rank = refl; offer = refl }; written = refl; read = heard_asks w.read b; found = λ j. refl; write = refl }
heard_in_lem Write b w = record { same = record { station = refl; rank = refl; offer = refl }; written = refl; read = refl; found = λ j. refl; write = heard_asks w.write b }

asked_of_lem : (p : Phase) (w : concrete.Row) (b : ℕ) → (slot_at (requests_of p w) b).stage ≡ Answered → ((machine.asked_of p (row_of w)).slot b).stage ≡ Answered
asked_of_lem Read w b h = h
asked_of_lem Write w b h = h

denied_in : (p : Phase) (w : concrete.Row) (n b : ℕ) → all_yes (requests_heard p w b) n ≡ false → machine.Denied n (machine.asked_of p (row_of (row_heard p w b)))
denied_in Read w n b t = denied_asks (requests_heard Read w b) n t
denied_in Write w n b t = denied_asks (requests_heard Write w b) n t

module _ {f : Floor} (a b : ℕ) (o : Owned f) (y : Lengths f) (z : Sound f) where
  abbrev of : Department
  of = row_department a

  -- the station of the row
  module _ (h : InUse f a) where
    owner_below : (row_at f a).station < 16
    owner_below = omega (arith, z.stations a h, z.station_most)

    owner_seen : station_for of (owner_at f a) ≡ record { seat = seat_in (owner_at f a).state; last = (owner_at f a).last }
    owner_seen = seen_own of (owner_at f a) (o a h)

    -- it gets another seat, with the same last round and department
    seat_edit : (x : seated.Station) → x.department ≡ (owner_at f a).department → x.last ≡ (owner_at f a).last → (j : ℕ)
        → Edit (λ k. station_for of (station_at f k)) (λ k. station_for of (get_or (set f.stations (row_at f a).station x) k station0)) (row_at f a).station (λ t. record { seat = seat_in x.state; last = t.last }) j
    seat_edit x e q = station_edit of f y (row_at f a).station x owner_below (e ∙ o a h) (λ t. record { seat = seat_in x.state; last = t.last })
        (ap (λ (i : ℕ). record { seat = seat_in x.state; last = i }) (q ∙ ap (λ (t : Station). t.last) (sym owner_seen)))

  heard_moved : (p : Phase) → InUse f a → (ss : List seated.Station)
      → RowMoved (panel of f) (panel of (record { n = f.n; m = f.m; shares = f.shares; boxes = f.boxes; stations = ss; rows = set f.rows a (heard_row f p a b) })) a (HeardIn p b)
  heard_moved p h ss = row_moved of f y z a refl h (heard_row f p a b) (HeardIn p b) (heard_in_lem p b (row_at f a)) f.boxes ss

  heard_step : (p : Phase) → CanDeliver f p a b → StepIn of f (with_row f a (heard_row f p a b)) (machine.heard p a b)
  heard_step p d = machine.hear (asked_of_lem p (row_at f a) b (arrived p a b d)) (λ j. refl) (heard_moved p d.used f.stations) (λ j. refl)

  abbrev seat_for : Phase → ℕ → Seat
  seat_for Read i = reading i
  seat_for Write i = writing i

  seat_is : (p : Phase) → InUse f a → is_in p (owner_at f a).state a ≡ true → (station_for of (owner_at f a)).seat ≡ seat_for p a
  seat_is Read h r = ap (λ (t : Station). t.seat) (owner_seen h) ∙ ap seat_in (is_reading_lem (owner_at f a).state a r)
  seat_is Write h r = ap (λ (t : Station). t.seat) (owner_seen h) ∙ ap seat_in (is_writing_lem (owner_at f a).state a r)

  abort_step : (p : Phase) → CanDeliver f p a b → all_yes (requests_heard p (row_at f a) b) f.n ≡ false → StepIn of f (after_abort f a (heard_row f p a b)) (machine.aborted p a b)
  abort_step p d t =
      let m = heard_moved p d.used (set f.stations (row_at f a).station (with_state (owner_at f a) state.Idle)) in
      machine.abort (asked_of_lem p (row_at f a) b (arrived p a b d)) (λ j. refl) m
      (subst (λ (w : concrete.Row). machine.Denied f.n (machine.asked_of p (row_of w))) (sym (used_stored f y z a (heard_row f p a b) d.used)) (denied_in p (row_at f a) f.n b t))
      (seat_edit d.used (with_state (owner_at f a) state.Idle) refl refl)

  decision_step : CanDeliver f Write a b → is_writing (owner_at f a).state a ≡ true → at_quorum (heard_row f Write a b).write f.n ≡ true → all_yes (heard_row f Write a b).write f.n ≡ true
      → StepIn of f (after_decision f a (heard_row f Write a b)) (machine.decided a b (row_at f a).written)
  decision_step d r q t =
      let m = heard_moved Write d.used (set f.stations (row_at f a).station (decider f a (heard_row f Write a b))) in
      machine.decide (arrived Write a b d) (λ j. refl) (seat_is Write d.used r) m
      (subst (λ (w : concrete.Row). machine.Agreed f.n (row_of w).write) (sym (used_stored f y z a (heard_row f Write a b) d.used)) (agreed_asks (heard_row f Write a b).write f.n q t))
      (seat_edit d.used (decider f a (heard_row f Write a b)) refl refl)

  -- the q-th answer of its reads
  module _ (d : CanDeliver f Read a b) (r : is_reading (owner_at f a).state a ≡ true) (q : at_quorum (heard_row f Read a b).read f.n ≡ true) (t : all_yes (heard_row f Read a b).read f.n ≡ true) where
    abbrev w : concrete.Row
    w = heard_row f Read a b

    abbrev value : Suit
    value = revision_of w f.n

    abbrev issued_row : concrete.Row
    issued_row = rows.issued w value f.n

    record Chooses : Type 0 where
      found : Found Suit
      highest : Highest f.n (row_of issued_row) found
      makes : figure1.Makes w.offer found.rank found.value value

    chooses : {x : Option Answer} → attempts.Found w.answers w.read f.n x → value ≡ revision_from x w.offer → Chooses
    unfolding rows.issued
    chooses (nothing h) e = let m = majority_meet (agreed_asks w.read f.n q t).majority (agreed_asks w.read f.n q t).majority in clash m.2.1 (h m.0 m.1)
    chooses (highest {b = c} h m top _) e = let u = get_or w.answers c answer0 in record {
      found = found_in u;
      highest = record { box = c; below = h; heard = m; is = refl; top = top };
      makes = (λ k. e ∙ revision_offer (Some u) w.offer k, λ k. e ∙ revision_value (Some u) w.offer k);
    }

    issue_step : StepIn of f (after_issue f a w value) (machine.issued a b value)
    unfolding rows.issued revision_of
    issue_step =
        let c = chooses (best_found w.answers w.read f.n) refl in
        let stored = used_stored f y z a issued_row d.used in
        let went = with_state (owner_at f a) (state.Writing a) in
        machine.issue (arrived Read a b d) (λ j. refl) (seat_is Read d.used r)
        (row_moved of f y z a refl d.used issued_row (machine.Issued b value)
        (record { same = record { station = refl; rank = refl; offer = refl }; written = refl; read = heard_asks (row_at f a).read b; found = λ j. refl; write = fresh_asks f.n })
        f.boxes (set f.stations (row_at f a).station went))
        (subst (λ (w : concrete.Row). machine.Agreed f.n (row_of w).read) (sym stored) (agreed_asks w.read f.n q t))
        (subst (λ (w : concrete.Row). Highest f.n (row_of w) c.found) (sym stored) c.highest) c.makes
        (seat_edit d.used went refl refl)

-- A begin.
inactive : (st : State) (a : ℕ) → is_active st a ≡ false → (¬ (seat_in st ≡ reading a)) × (¬ (seat_in st ≡ writing a))
inactive state.Idle a e = (λ q. let k : ◌≡◌ {A = ℕ} 0 1 = cc in omega arith, λ q. let k : ◌≡◌ {A = ℕ} 0 1 = cc in omega arith)
inactive (state.Reading x) a e = (λ q. clash (eq-eqb x a (cc)) e, λ q. let k : ◌≡◌ {A = ℕ} 0 1 = cc in omega arith)
inactive (state.Writing x) a e = (λ q. let k : ◌≡◌ {A = ℕ} 0 1 = cc in omega arith, λ q. clash (eq-eqb x a (cc)) e)
inactive (state.Decided x) a e = (λ q. let k : ◌≡◌ {A = ℕ} 0 1 = cc in omega arith, λ q. let k : ◌≡◌ {A = ℕ} 0 1 = cc in omega arith)
inactive state.Gone a e = (λ q. let k : ◌≡◌ {A = ℕ} 0 1 = cc in omega arith, λ q. let k : ◌≡◌ {A = ℕ} 0 1 = cc in omega arith)

begin_step : {f : Floor} (s round : ℕ) (v : Suit) → Owned f → Lengths f → Sound f → CanBegin f s round → StepIn (department_at f s) f (after_begin f s round v) (machine.began s round v (row_taken f s))
unfolding new_row
begin_step {f} s round v o y z d =
    let e = department_at f s in
    let next = row_taken f s in
    let me = seen_own e (station_at f s) refl in
    let stored = row_stored f y z next (new_row f.n s round v) d.row in
    let below : s < 16 = omega (arith, d.station, z.station_most) in
    let later : (station_for e (station_at f s)).last < round = omega (arith, ap (λ (t : Station). t.last) me, d.later) in
    machine.begin (λ j. refl) below
    (ap (λ (t : Station). t.seat) me ∙ ap seat_in (is_idle (station_at f s).state d.here d.not_busy))
    later
    (record {
      over = λ h.
          let seen = seen_own e (owner_at f next) (o next h.1 ∙ h.0) in
          let n = inactive (owner_at f next).state next (next_over f e (use_of f e next h.0 h.1) d.row) in
          (λ q. n.0 (sym (ap (λ (t : Station). t.seat) seen) ∙ q), λ q. n.1 (sym (ap (λ (t : Station). t.seat) seen) ∙ q));
      used = λ j h n. (h.0, begun_use f s round v j h.1 n);
      still = λ j h. (h.0, use_begun f s round v j h.1);
      mine = (next_own f e d.row, taken_use f s round v d.row);
      taken = subst (λ (w : concrete.Row). machine.Opened s round v (row_of w)) (sym stored)
          (record { station = refl; rank = refl; offer = refl; read = fresh_asks f.n; write = none_asks });
      same = λ j n. ap row_of (get_or-set_other f.rows next j _ row0 n);
    })
    (station_edit e f y s (beginner f s round) (omega (arith, d.station, z.station_most)) refl (λ _. record { seat = reading next; last = round }) refl)

-- A step of the other department, and one that moves a box.
module _ (d : Department) {f g : Floor} (k : SameFor d f g) where
  same_station : (j : ℕ) → station_for d (station_at g j) ≡ station_for d (station_at f j)
  unfolding station_for
  same_station j =
      by_cases (is_of d (department_at f j))
      (λ e. ap (station_for d) (k.stations j (sym (is_same d (department_at f j) e))))
      (λ e. sym (on_false _ (ap (is_of d) (k.departments j) ∙ e) refl) ∙ on_false _ e refl)

  other_step : StepIn d f g machine.quiet
  other_step = machine.rest (λ j. ap box_of (k.registers j)) (record {
    used = λ a h. (h.0, of_use f d a h.0 (subst (λ (x : Share). a < first_row d + x.used) k.share (use_of g d a h.0 h.1)));
    still = λ a h. (h.0, of_use g d a h.0 (subst (λ (x : Share). a < first_row d + x.used) (sym k.share) (use_of f d a h.0 h.1)));
    same = λ a h. ap row_of (k.rows a h.0);
  }) same_station

leave_step : {f : Floor} (s : ℕ) → Lengths f → Sound f → CanLeave f s → StepIn (department_at f s) f (after_leave f s) (machine.left s)
leave_step {f} s y z d =
    let e = department_at f s in
    let t = with_state (station_at f s) state.Gone in
    machine.leave (λ j. refl) (record { used = λ j h. h; still = λ j h. h; same = λ j h. refl })
    (station_edit e f y s t (omega (arith, d.station, z.station_most)) refl (λ x. record { seat = none; last = x.last })
    (ap (λ (i : ℕ). record { seat = none; last = i }) (ap (λ (x : Station). x.last) (sym (seen_own e (station_at f s) refl)))))

-- a step that says nothing
pub quiet_within : (d : Department) (x : Belonging) → machine.quiet ≡ within d x machine.quiet
quiet_within Sails (only Sails) = refl
quiet_within Sails (only Canvas) = refl
quiet_within Canvas (only Sails) = refl
quiet_within Canvas (only Canvas) = refl
quiet_within Sails shared = refl
quiet_within Canvas shared = refl

-- a step of the department e, seen in d
module _ {f : Floor} {c : Command} {s : Stepped} (x : StepCase f c s) (o : Owned f) where
  step_within : (d e : Department) (t : Label Suit Suit) → department_of f c ≡ only e → StepIn e f s.floor t → StepIn d f s.floor (within d (only e) t)
  step_within Sails Sails t q k = k
  step_within Canvas Canvas t q k = k
  step_within Sails Canvas t q k = other_step Sails (case_untouched x Sails o (ap (is_only Sails) q))
  step_within Canvas Sails t q k = other_step Canvas (case_untouched x Canvas o (ap (is_only Canvas) q))

-- the simulation
simulation : {f : Floor} {c : Command} {s : Stepped} (e : Department) → Owned f → Lengths f → (x : StepCase f c s) → StepIn e f s.floor (label_of e f c s.outcome)
simulation {f} {c} e o y (turned k t) =
    subst (StepIn e f f) (quiet_within e (department_of f c)) (machine.rest (λ j. refl) (record { used = λ j h. h; still = λ j h. h; same = λ j h. refl }) (λ j. refl))
simulation {f} e o y (began {s = s} {round = r} {v = v} z d) = step_within (began z d) o e (department_at f s) _ refl (begin_step s r v o y z d)
simulation e o y (served {p = p} {a = a} {b = b} z d) = step_within (served z d) o e (row_department a) _ refl (serve_step p a b y z d)
simulation e o y (heard {p = p} {a = a} {b = b} z d q) = step_within (heard z d q) o e (row_department a) _ refl (heard_step a b o y z p d)
simulation e o y (cases.issued {a = a} {b = b} z d r q t) = step_within (cases.issued z d r q t) o e (row_department a) _ refl (issue_step a b o y z d r q t)
simulation e o y (decided {a = a} {b = b} z d r q t) = step_within (decided z d r q t) o e (row_department a) _ refl (decision_step a b o y z d r q t)
simulation e o y (aborted {p = p} {a = a} {b = b} z d r t q) = step_within (aborted z d r t q) o e (row_department a) _ refl (abort_step a b o y z p d t)
simulation e o y (stopped {b = b} z d) = other_step e (case_untouched (stopped z d) e o refl)
simulation {f} e o y (left {s = s} z d) = step_within (left z d) o e (department_at f s) _ refl (leave_step s y z d)
simulation e o y (returned {b = b} z d) = other_step e (case_untouched (returned z d) e o refl)

pub simulates : Simulates
simulates d f r o y = simulation d o y (step_case f r)
