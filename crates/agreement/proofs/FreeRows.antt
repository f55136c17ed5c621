-- Where the requests of an attempt stand and whether it is over, read off the list: a row is free exactly where the list says so.
use Prim.Native.Nat.{ℕ, zero, suc, ◌<◌}
use native.Mathlib.Omega.{arith}
use mathlib.Core.Path.{◌≡◌, refl, sym, ap, subst, ◌∙◌}
use mathlib.Core.Logic.{◌⊎◌, inl, inr}
use mathlib.Core.Bool.{Bool, true, false}
use mathlib.Core.List.{List}
use lib.ListN.{length}
use lib.Seq.{get_or-set_same}
use borrow.Author.Tests.{eqb-true, eq-eqb}
use Rattle.base.proofs.Cases.{clash, not_true_false, up_to}
use Rattle.base.proofs.Choices.{by_test}
use Rattle.base.proofs.MaskLaws.{bit_zero}
use Rattle.base.specs.Positions.{Before}
use Rattle.base.proofs.Positions.{later, now}
use Rattle.base.proofs.Stores.{get_d_same}
use Rattle.requests.specs.Requests.{Standing, not_issued, waiting, on_the_way, received, slot0, none_issued, standing, not_received, standing_of, is_waiting, issued_to, served_at, heard_from}
use Rattle.requests.specs.declared.Phase.{Phase}
use Rattle.requests.specs.declared.Phase.TheVariants.{Read, Write}
use Rattle.requests.specs.declared.Requests.{Requests}
use Rattle.requests.specs.declared.Slot.{Slot}
use Rattle.requests.specs.declared.Stage.{Stage}
use Rattle.requests.specs.declared.Stage.TheVariants.{Answered}
use Rattle.requests.proofs.Claims.{request_claims}
use Rattle.register.specs.declared.Register.{Register}
use Rattle.commands.specs.Outcomes.{is_refused}
use Rattle.commands.specs.declared.Command.TheVariants.{Begin, Deliver}
use Rattle.commands.specs.declared.Outcome.{Outcome}
use Rattle.commands.specs.declared.Outcome.TheVariants as said
use Rattle.attempts.specs.Stations.{is_active, is_reading, is_in}
use Rattle.register.specs.declared.Department.{Department}
use Rattle.attempts.specs.Rows.{requests_of, new_row, row_served, issued}
use Rattle.attempts.proofs.RowDepartments.{first_most}
use Rattle.attempts.specs.declared.State.{State}
use Rattle.attempts.specs.declared.State.TheVariants.{Idle, Reading, Writing, Decided, Gone}
use Rattle.attempts.specs.declared.Station.{Station}
use Rattle.attempts.specs.declared.Row.{Row}
use Rattle.attempts.proofs.StationTests.{is_reading_lem, is_writing_lem, is_idle}
use Rattle.runs.specs.Runs.{state_at}
use Rattle.floor.specs.Floors.{station_at, row_at, owner_at, InUse}
use Rattle.floor.specs.Effects.{row_taken, served_by}
use Rattle.floor.proofs.UseLaws.{in_use_most, use_of}
use Rattle.floor.specs.Free.{is_free, next_row}
use Rattle.floor.specs.Step.{step_of}
use Rattle.floor.specs.Runs.{floor_at, said_at}
use Rattle.floor.specs.Soundness.{Sound}
use Rattle.floor.specs.Claims.{Free}
use Rattle.floor.specs.Moves.{StationMove, station_kept, station_begins, station_issues, station_decides, station_aborts, station_leaves}
use Rattle.floor.specs.declared.Floor.{Floor}
use Rattle.floor.proofs.FreeLaws.{free_means, free_holds, next_unused, next_some}
use Rattle.floor.proofs.Moves.{apply_station, StandingMove, stands_kept, stands_new, stands_served, stands_received, stands_issued}
use Rattle.floor.proofs.Outcomes.{begun_row, begun_station, served_row, issued_row_lem}
use Rattle.floor.proofs.RowLaws.{apply_begun_use, used_stays}
use Rattle.floor.proofs.StandingLaws.{is_waiting_lem, apply_standing}
use Rattle.floor.proofs.ListLaws.{sound_at}
use Rattle.agreement.specs.Words.{Attempt, Named, OverAt, decided, aborted, gone, ServesAt, DeliversAt, IssuesAt, FreedAt, FreeAt, RowLeft, unused, free}
use Rattle.floor.specs.Runs.{command_at}
use Rattle.agreement.specs.ComeBack.{IssuedBefore}
use Rattle.agreement.specs.GivenBack.{OwnAnswer}
use Rattle.agreement.proofs.Positions.{means_at, row_at_lem, reading_unissued}
use Rattle.agreement.proofs.Safety.{one_attempt}
use Rattle.agreement.proofs.Shares.{used_at}
use Rattle.agreement.proofs.Stations.{not_aborted}
use Rattle.agreement.specs.Demand.{trace_of}
use Rattle.floor.proofs.Reached.{New, size_at, lengths_at}
use Rattle.suits.specs.declared.Suit.{Suit}
use Rattle.agreement.proofs.Over.{is_over, over_since, gone_since}

-- an answer was given; a request was issued
abbrev is_served : Standing → Bool
is_served not_issued = false
is_served waiting = false
is_served on_the_way = true
is_served received = true

abbrev pub was_issued : Standing → Bool
was_issued not_issued = false
was_issued waiting = true
was_issued on_the_way = true
was_issued received = true

pub served_rests : (s : Standing) → is_served s ≡ true → is_waiting s ≡ false
served_rests not_issued e = clash e refl
served_rests waiting e = clash e refl
served_rests on_the_way e = refl
served_rests received e = refl

over_inactive : (st : State) (a : ℕ) → is_over st ≡ true → is_active st a ≡ false
over_inactive Idle a e = clash e refl
over_inactive (Reading x) a e = clash e refl
over_inactive (Writing x) a e = clash e refl
over_inactive (Decided x) a e = refl
over_inactive Gone a e = refl

none_stands : (b : ℕ) → standing_of none_issued b ≡ not_issued
none_stands b = request_claims.unheard _ 0 b (bit_zero b) ∙ ap (λ (x : Slot). not_received x.stage) (get_d_same 9 b slot0)

served_stands : (q : Requests) (b : ℕ) (ok : Bool) → b < length q.slots → is_served (standing_of (served_at q b ok) b) ≡ true
unfolding standing
served_stands q b ok h =
    let e = ap (λ (x : Slot). x.stage) (get_or-set_same q.slots b (record { stage = Answered; ok = ok }) slot0 h) in
    by_test (λ (s : Standing). is_served s ≡ true) _ _ _ (λ _. refl) (λ _. ap (λ (g : Stage). is_served (not_received g)) e)

module _ (f : Floor) (l : List (List ℕ)) (new : New f) (z : Sound f) where
  abbrev at_floor : ℕ → Floor
  at_floor i = floor_at f l i

  -- the attempt x was begun by the step before, or its number meant it before that step, which began no other in its row
  named_step : (x : Attempt (trace_of f l)) (i : ℕ) → Named (trace_of f l) x (suc i) → (x.at ≡ i) ⊎ (Named (trace_of f l) x i × (¬ (said_at f l i ≡ said.Begun x.number)))
  named_step x i n = elim (up_to n.earlier) [
    | inl q ↦ inl q
    | inr q ↦ inr (record { earlier = q; last = λ k h u. n.last k h (omega arith) }, n.last i q (omega arith))
  ]

  -- the begin of x
  pub record Begins (x : Attempt (trace_of f l)) : Type 0 where
    pub taken : x.number ≡ row_taken (at_floor x.at) x.station
    pub place : row_taken (at_floor x.at) x.station < 128
    pub row : row_at (at_floor (suc x.at)) x.number ≡ new_row f.n x.station x.round x.offer
    pub state : (station_at (at_floor (suc x.at)) x.station).state ≡ Reading x.number
    pub last : (station_at (at_floor (suc x.at)) x.station).last ≡ x.round
    pub later : (station_at (at_floor x.at) x.station).last < x.round
    pub station : x.station < (at_floor x.at).m

  pub begins : (x : Attempt (trace_of f l)) → Begins x
  begins x =
      let i = x.at in
      let b = means_at f l new i (said.Begun x.number) x.begun in
      let c : Begin b.station b.round b.offer ≡ Begin x.station x.round x.offer = sym b.command ∙ x.asked in
      let s : b.station ≡ x.station = cc in
      let r : b.round ≡ x.round = cc in
      let o : b.offer ≡ x.offer = cc in
      record {
        taken = b.next ∙ ap (row_taken (at_floor i)) s;
        place = subst (λ (j : ℕ). row_taken (at_floor i) j < 128) s b.may.row;
        row = ap (row_at (at_floor (suc i))) b.next ∙ begun_row (lengths_at f l new i) b ∙ rw (size_at f l i, s, r, o) refl;
        state = ap (λ (j : ℕ). (station_at (at_floor (suc i)) j).state) (sym s) ∙ ap (λ (t : Station). t.state) (begun_station (lengths_at f l new i) b) ∙ ap Reading (sym b.next);
        last = ap (λ (j : ℕ). (station_at (at_floor (suc i)) j).last) (sym s) ∙ ap (λ (t : Station). t.last) (begun_station (lengths_at f l new i) b) ∙ r;
        later = subst (λ (j : ℕ). (station_at (at_floor i) j).last < x.round) s (omega (arith, b.may.later, r));
        station = omega (arith, b.may.station, s);
      }

  -- its row is in use, and its own
  pub in_use : (x : Attempt (trace_of f l)) (i : ℕ) → Named (trace_of f l) x i → InUse (at_floor i) x.number
  unfolding state_at step_of
  in_use x zero n = absurd (omega (arith, n.earlier))
  in_use x (suc i) n = elim (named_step x i n) [
    | inl q ↦ apply_begun_use (at_floor i) (command_at l i) x.number (ap (said_at f l) (sym q) ∙ x.begun)
    | inr o ↦ used_stays (at_floor i) (command_at l i) x.number (in_use x i o.0)
  ]

  own_station : (x : Attempt (trace_of f l)) (i : ℕ) → Named (trace_of f l) x i → (row_at (at_floor i) x.number).station ≡ x.station
  own_station x i n =
      let o = row_at_lem f l new i x.number (in_use x i n) in
      sym o.station ∙ one_attempt f l o.attempt x o.named n o.number

  -- Whether the attempt is over. Its station is in it, or it decided, aborted or its station went.
  over_later : {x : Attempt (trace_of f l)} {i : ℕ} → OverAt (trace_of f l) x i → OverAt (trace_of f l) x (suc i)
  over_later (decided b) = decided (later b)
  over_later (aborted b) = aborted (later b)
  over_later (gone b) = gone (later b)

  module _ (x : Attempt (trace_of f l)) (i : ℕ) (n : Named (trace_of f l) x i) where
    abbrev state : State
    state = (station_at (at_floor i) x.station).state

    same_number : (st : State) (a : ℕ) → is_active st x.number ≡ true → (st ≡ Reading a) ⊎ (st ≡ Writing a) → a ≡ x.number
    same_number st a e (inl q) = eqb-true a x.number (ap (λ (st : State). is_active st x.number) (sym q) ∙ e)
    same_number st a e (inr q) = eqb-true a x.number (ap (λ (st : State). is_active st x.number) (sym q) ∙ e)

    in_phase : (p : Phase) (s : State) (a : ℕ) → is_in p s a ≡ true → (s ≡ Reading a) ⊎ (s ≡ Writing a)
    in_phase Read s a e = inl (is_reading_lem s a e)
    in_phase Write s a e = inr (is_writing_lem s a e)

    active_moves : {o : Outcome} {t : Station} → StationMove (at_floor i) (command_at l i) x.station o t → said_at f l i ≡ o → is_active state x.number ≡ true
        → (is_active t.state x.number ≡ true) ⊎ OverAt (trace_of f l) x (suc i)
    active_moves station_kept e a = inl a
    active_moves (station_begins c g b h) e a = clash a (ap (λ (st : State). is_active st x.number) (is_idle state g b))
    active_moves (station_issues {a = k} c u w r) e a = inl (ap (λ (st : State). is_active st x.number) (sym (is_reading_lem state k r)) ∙ a)
    active_moves (station_decides {a = k} {b = b} {v = v} c u w r q) e a =
        let m = same_number state k a (inr (is_writing_lem state k r)) in
        inr (decided (now i (record { named = n; says = record { phase = Write; box = b; asked = c ∙ ap (λ (j : ℕ). Deliver Write j b) m; said = e } })))
    active_moves (station_aborts {p = p} {a = k} {b = b} c u w r) e a =
        let m = same_number state k a (in_phase p state k r) in
        inr (aborted (now i (record { named = n; says = record { phase = p; box = b; asked = c ∙ ap (λ (j : ℕ). Deliver p j b) m; said = e ∙ ap said.Aborted m } })))
    active_moves (station_leaves c h) e a = inr (gone (now i e))

  pub active_or_over : (x : Attempt (trace_of f l)) (i : ℕ) → Named (trace_of f l) x i → (is_active (station_at (at_floor i) x.station).state x.number ≡ true) ⊎ OverAt (trace_of f l) x i
  unfolding state_at step_of
  active_or_over x zero n = absurd (omega (arith, n.earlier))
  active_or_over x (suc i) n = elim (named_step x i n) [
    | inl q ↦ inl (subst (λ (k : ℕ). is_active (station_at (at_floor (suc k)) x.station).state x.number ≡ true) q
        (ap (λ (st : State). is_active st x.number) (begins x).state ∙ eq-eqb x.number x.number refl))
    | inr o ↦ elim (active_or_over x i o.0) [
      | inl a ↦ active_moves x i o.0 (apply_station (at_floor i) (command_at l i) x.station) refl a
      | inr v ↦ inr (over_later v)
    ]
  ]

  over_means : (x : Attempt (trace_of f l)) (i : ℕ) → Named (trace_of f l) x i → OverAt (trace_of f l) x i → is_active (station_at (at_floor i) x.station).state x.number ≡ false
  over_means x i n (decided {v = v} b) =
      over_inactive (station_at (at_floor i) x.station).state x.number
      (over_since f l new x.station v b.at i (record { attempt = x; station = refl; by = b.holds }) b.earlier)
  over_means x i n (aborted b) = not_true_false _ (λ e. not_aborted f l new x.station i b.at x e n b.earlier b.holds)
  over_means x i n (gone b) = over_inactive (station_at (at_floor i) x.station).state x.number (gone_since f l new x.station b.at i b.holds b.earlier)

  -- Where its requests stand.
  module _ (x : Attempt (trace_of f l)) (p : Phase) (b : ℕ) where
    abbrev Issued : Phase → ℕ → Type 0
    Issued q i = IssuedBefore (trace_of f l) x q i

    issued_later : (q : Phase) (i : ℕ) → Issued q i → Issued q (suc i)
    issued_later Read i h = tt
    issued_later Write i h = (h.0, later h.1)

    abbrev pub stands_at : ℕ → Standing
    stands_at i = standing_of (requests_of p (row_at (at_floor i) x.number)) b

    pub data Stands (i : ℕ) : Standing → Type 0 where
      none : p ≡ Write → Stands i not_issued
      waits : Issued p i → Stands i waiting
      answered : Issued p i → Before (ServesAt (trace_of f l) x p b) i → Stands i on_the_way
      heard : Issued p i → Before (ServesAt (trace_of f l) x p b) i → Before (DeliversAt (trace_of f l) x p b) i → Stands i received

    stands_later : {i : ℕ} {s : Standing} → Stands i s → Stands (suc i) s
    stands_later (none e) = none e
    stands_later {i} (waits h) = waits (issued_later p i h)
    stands_later {i} (answered h s) = answered (issued_later p i h) (later s)
    stands_later {i} (heard h s d) = heard (issued_later p i h) (later s) (later d)

    -- a step leads from where it stood to where it stands then
    module _ (i : ℕ) (n : Named (trace_of f l) x i) (other : ¬ (said_at f l i ≡ said.Begun x.number)) where
      stands_moves : {o : Outcome} {s t : Standing} → StandingMove (at_floor i) (command_at l i) x.number p b o s t → said_at f l i ≡ o → Stands i s → Stands (suc i) t
      stands_moves stands_kept e h = stands_later h
      stands_moves (stands_new q) e h = absurd (other (e ∙ ap said.Begun q))
      stands_moves (stands_served c) e (waits h) = answered (issued_later p i h) (now i (record { named = n; asked = c; accepted = e }))
      stands_moves (stands_received c k) e (answered h s) = heard (issued_later p i h) (later s) (now i (record { named = n; asked = c; accepted = ap is_refused e ∙ k }))
      stands_moves (stands_issued {j = j} {v = v} q c r) e h =
          waits (subst (λ (r : Phase). Issued r (suc i)) (sym q) (v, now i (record { named = n; says = record { phase = Read; box = j; asked = c; said = e } })))

  first_stands : (x : Attempt (trace_of f l)) (p : Phase) (b : ℕ) → b < f.n → Stands x p b (suc x.at) (stands_at x p b (suc x.at))
  unfolding new_row
  first_stands x Read b h =
      subst (λ (w : Row). Stands x Read b (suc x.at) (standing_of w.read b)) (sym (begins x).row)
      (subst (Stands x Read b (suc x.at)) (sym (is_waiting_lem _ (request_claims.waits f.n b z.box_most h))) (waits tt))
  first_stands x Write b h =
      subst (λ (w : Row). Stands x Write b (suc x.at) (standing_of w.write b)) (sym (begins x).row)
      (subst (Stands x Write b (suc x.at)) (sym (none_stands b)) (none refl))

  standing_moves : (x : Attempt (trace_of f l)) (p : Phase) (b i : ℕ) → b < f.n → Named (trace_of f l) x i
      → StandingMove (at_floor i) (command_at l i) x.number p b (said_at f l i) (stands_at x p b i) (stands_at x p b (suc i))
  unfolding state_at step_of
  standing_moves x p b i h n =
      apply_standing (at_floor i) (sound_at f l z i) (lengths_at f l new i) x.number
      (in_use_most (at_floor i) (sound_at f l z i) x.number (in_use x i n)) p b (omega (arith, size_at f l i)) (command_at l i)

  pub stands : (x : Attempt (trace_of f l)) (p : Phase) (b : ℕ) → b < f.n → (i : ℕ) → Named (trace_of f l) x i → Stands x p b i (stands_at x p b i)
  stands x p b h zero n = absurd (omega (arith, n.earlier))
  stands x p b h (suc i) n = elim (named_step x i n) [
    | inl q ↦ subst (λ (k : ℕ). Stands x p b (suc k) (stands_at x p b (suc k))) q (first_stands x p b h)
    | inr o ↦ stands_moves x p b i o.0 o.1 (standing_moves x p b i h o.0) refl (stands x p b h i o.0)
  ]

  -- a request that was served is answered from then on
  module _ (x : Attempt (trace_of f l)) (p : Phase) (b i : ℕ) (n : Named (trace_of f l) x i) (other : ¬ (said_at f l i ≡ said.Begun x.number)) where
    not_yet : p ≡ Write → is_reading (owner_at (at_floor i) x.number).state x.number ≡ true → is_served (stands_at x p b i) ≡ false
    not_yet q r =
        let j = (row_at (at_floor i) x.number).station in
        rw q (ap is_served (reading_unissued f l new i j x.number (is_reading_lem (station_at (at_floor i) j).state x.number r) b))

    served_still : {o : Outcome} {s t : Standing} → StandingMove (at_floor i) (command_at l i) x.number p b o s t → said_at f l i ≡ o → stands_at x p b i ≡ s
        → is_served s ≡ true → is_served t ≡ true
    served_still stands_kept e h k = k
    served_still (stands_new q) e h k = absurd (other (e ∙ ap said.Begun q))
    served_still (stands_served c) e h k = refl
    served_still (stands_received c j) e h k = refl
    served_still (stands_issued q c r) e h k = clash k (ap is_served (sym h) ∙ not_yet q r)

    issued_still : {o : Outcome} {s t : Standing} → StandingMove (at_floor i) (command_at l i) x.number p b o s t → said_at f l i ≡ o → was_issued s ≡ true → was_issued t ≡ true
    issued_still stands_kept e k = k
    issued_still (stands_new q) e k = absurd (other (e ∙ ap said.Begun q))
    issued_still (stands_served c) e k = refl
    issued_still (stands_received c j) e k = refl
    issued_still (stands_issued q c r) e k = refl

  row_served_stands : (p : Phase) (w : Row) (g : Register) (b : ℕ) → b < length (requests_of p w).slots → is_served (standing_of (requests_of p (row_served p w g b)) b) ≡ true
  row_served_stands Read w g b h = served_stands w.read b _ h
  row_served_stands Write w g b h = served_stands w.write b _ h

  served_now : (x : Attempt (trace_of f l)) (p : Phase) (b i : ℕ) → b < f.n → Named (trace_of f l) x i → ServesAt (trace_of f l) x p b i → is_served (stands_at x p b (suc i)) ≡ true
  served_now x p b i h n d =
      let m = means_at f l new i (said.Served x.number) d.accepted in
      let q : m.phase ≡ p = cc (m.command, d.asked) in
      let c : m.box ≡ b = cc (m.command, d.asked) in
      let slots = (lengths_at f l new i).slots p x.number (in_use_most (at_floor i) (sound_at f l z i) x.number (in_use x i n)) in
      let r : row_at (at_floor (suc i)) x.number ≡ row_served p (row_at (at_floor i) x.number) (served_by (at_floor i) x.number b) b =
      served_row (lengths_at f l new i) m ∙ rw (q, c) refl in
      rw r (row_served_stands p (row_at (at_floor i) x.number) (served_by (at_floor i) x.number b) b (omega (arith, slots, z.box_most)))

  pub served_since : (x : Attempt (trace_of f l)) (p : Phase) (b : ℕ) → b < f.n → (i : ℕ) → Named (trace_of f l) x i → Before (ServesAt (trace_of f l) x p b) i → is_served (stands_at x p b i) ≡ true
  served_since x p b h zero n d = absurd (omega (arith, n.earlier))
  served_since x p b h (suc i) n d = elim (named_step x i n) [
    | inl r ↦ absurd (omega (arith, d.holds.named.earlier, d.earlier))
    | inr o ↦ elim (up_to d.earlier) [
      | inl q ↦ served_now x p b i h o.0 (subst (ServesAt (trace_of f l) x p b) q d.holds)
      | inr q ↦ served_still x p b i o.0 o.1 (standing_moves x p b i h o.0) refl refl
          (served_since x p b h i o.0 (record { at = d.at; earlier = q; holds = d.holds }))
    ]
  ]

  issue_stands : (x : Attempt (trace_of f l)) (v : Suit) (b i : ℕ) → b < f.n → IssuesAt (trace_of f l) x v i → was_issued (stands_at x Write b (suc i)) ≡ true
  unfolding issued
  issue_stands x v b i h d =
      let m = means_at f l new i (said.WriteIssued v) d.says.said in
      let a : m.attempt ≡ x.number = cc (m.command, d.says.asked) in
      let s = is_waiting_lem (standing_of (issued_to (at_floor i).n) b) (request_claims.waits (at_floor i).n b (omega (arith, size_at f l i, z.box_most)) (omega (arith, size_at f l i))) in
      subst (λ (k : ℕ). was_issued (standing_of (row_at (at_floor (suc i)) k).write b) ≡ true) a
      (ap (λ (w : Row). was_issued (standing_of w.write b)) (issued_row_lem (lengths_at f l new i) m) ∙ ap was_issued s)

  pub issued_since : (x : Attempt (trace_of f l)) (v : Suit) (b : ℕ) → b < f.n → (i : ℕ) → Named (trace_of f l) x i → Before (IssuesAt (trace_of f l) x v) i → was_issued (stands_at x Write b i) ≡ true
  issued_since x v b h zero n d = absurd (omega (arith, n.earlier))
  issued_since x v b h (suc i) n d = elim (named_step x i n) [
    | inl r ↦ absurd (omega (arith, d.holds.named.earlier, d.earlier))
    | inr o ↦ elim (up_to d.earlier) [
      | inl q ↦ issue_stands x v b i h (subst (IssuesAt (trace_of f l) x v) q d.holds)
      | inr q ↦ issued_still x Write b i o.0 o.1 (standing_moves x Write b i h o.0) refl
          (issued_since x v b h i o.0 (record { at = d.at; earlier = q; holds = d.holds }))
    ]
  ]

  -- what does not wait and was issued was served
  rests_served : (x : Attempt (trace_of f l)) (p : Phase) (b i : ℕ) {s : Standing} → Stands x p b i s → is_waiting s ≡ false → was_issued s ≡ true → Before (ServesAt (trace_of f l) x p b) i
  rests_served x p b i (none e) w k = clash k refl
  rests_served x p b i (waits h) w k = clash refl w
  rests_served x p b i (answered h s) w k = s
  rests_served x p b i (heard h s d) w k = s

  pub reads_issued : (x : Attempt (trace_of f l)) (b i : ℕ) {s : Standing} → Stands x Read b i s → was_issued s ≡ true
  reads_issued x b i (none e) = absurd (read_write e)
    where
      read_write : ¬ (Read ≡ Write)
      read_write e = let q : ◌≡◌ {A = ℕ} 0 1 = cc in omega arith
  reads_issued x b i (waits h) = refl
  reads_issued x b i (answered h s) = refl
  reads_issued x b i (heard h s d) = refl

  writes_issued : (x : Attempt (trace_of f l)) (b i : ℕ) {s : Standing} → Stands x Write b i s → is_waiting s ≡ true → (v : Suit) × Before (IssuesAt (trace_of f l) x v) i
  writes_issued x b i (none e) w = clash w refl
  writes_issued x b i (waits h) w = h
  writes_issued x b i (answered h s) w = clash w refl
  writes_issued x b i (heard h s d) w = clash w refl

  -- a row that is free in the words of the list is so on the floor
  pub free_of : (x : Attempt (trace_of f l)) (i : ℕ) → Named (trace_of f l) x i → FreedAt (trace_of f l) x i → is_free (at_floor i) x.number ≡ true
  free_of x i n y =
      free_holds (at_floor i) x.number (record {
        over = ap (λ (j : ℕ). is_active (station_at (at_floor i) j).state x.number) (own_station x i n) ∙ over_means x i n y.over;
        served = λ b h p. let k : b < f.n = omega (arith, size_at f l i) in rests b k p;
      })
    where
      rests : (b : ℕ) → b < f.n → (p : Phase) → is_waiting (stands_at x p b i) ≡ false
      rests b h Read = served_rests (stands_at x Read b i) (served_since x Read b h i n (y.reads b h))
      rests b h Write =
          not_true_false (is_waiting (stands_at x Write b i)) (λ e.
          let k = writes_issued x b i (stands x Write b h i n) e in
          clash e (served_rests (stands_at x Write b i) (served_since x Write b h i n (y.writes k.0 k.1 b h))))

  -- and the other way round
  pub freed_of : (x : Attempt (trace_of f l)) (i : ℕ) → Named (trace_of f l) x i → is_free (at_floor i) x.number ≡ true → FreedAt (trace_of f l) x i
  freed_of x i n e =
      let y = free_means (at_floor i) x.number e in
      record {
        over = elim (active_or_over x i n) [
          | inl a ↦ clash a (ap (λ (j : ℕ). is_active (station_at (at_floor i) j).state x.number) (sym (own_station x i n)) ∙ y.over)
          | inr v ↦ v
        ];
        reads = λ b h. let s = stands x Read b h i n in rests_served x Read b i s (rests y b h Read) (reads_issued x b i s);
        writes = λ v d b h. rests_served x Write b i (stands x Write b h i n) (rests y b h Write) (issued_since x v b h i n d);
      }
    where
      rests : Free (at_floor i) x.number → (b : ℕ) → b < f.n → (p : Phase) → is_waiting (stands_at x p b i) ≡ false
      rests y b h = y.served b (omega (arith, size_at f l i))

  pub free_at : (a i : ℕ) → InUse (at_floor i) a → is_free (at_floor i) a ≡ true → FreeAt (trace_of f l) a i
  free_at a i h e =
      let o = row_at_lem f l new i a h in
      record { attempt = o.attempt; number = o.number; named = o.named; freed = freed_of o.attempt i o.named (subst (λ (k : ℕ). is_free (at_floor i) k ≡ true) (sym o.number) e) }

  pub free_there : (a i : ℕ) → FreeAt (trace_of f l) a i → InUse (at_floor i) a × (is_free (at_floor i) a ≡ true)
  free_there a i y =
      let x = y.attempt in
      subst (λ (k : ℕ). InUse (at_floor i) k × (is_free (at_floor i) k ≡ true)) y.number (in_use x i y.named, free_of x i y.named y.freed)

  -- a row left in the words of the list is one that a begin takes
  pub row_left : (d : Department) (i : ℕ) → RowLeft (trace_of f l) d i → next_row (at_floor i) d < 128
  row_left d i (unused h) = elim (used_at f l new d i) [
    | inl o ↦ rw (next_unused (at_floor i) d (omega (arith, o.1))) (omega (arith, o.1, first_most d))
    | inr o ↦ absurd (omega (arith, o.0))
  ]
  row_left d i (free a e y) =
      let o = free_there a i y in
      next_some (at_floor i) d ((sound_at f l z i).rows_most d) a e (use_of (at_floor i) d a e o.0) o.1

  -- an answer that was received was served and delivered for the attempt that the number means
  received_own : (x : Attempt (trace_of f l)) (p : Phase) (b i : ℕ) {s : Standing} → Stands x p b i s → s ≡ received → OwnAnswer (trace_of f l) x p b i
  received_own x p b i (none e) q = absurd (let k : ◌≡◌ {A = ℕ} 0 1 = cc in omega arith)
  received_own x p b i (waits h) q = absurd (let k : ◌≡◌ {A = ℕ} 0 1 = cc in omega arith)
  received_own x p b i (answered h s) q = absurd (let k : ◌≡◌ {A = ℕ} 0 1 = cc in omega arith)
  received_own x p b i (heard h s d) q = record { served = s; delivered = d }

  pub own_answer : (x : Attempt (trace_of f l)) (i : ℕ) → Named (trace_of f l) x i → (p : Phase) (b : ℕ) → b < f.n
      → heard_from (requests_of p (row_at (at_floor i) x.number)) b ≡ true → OwnAnswer (trace_of f l) x p b i
  own_answer x i n p b h e = received_own x p b i (stands x p b h i n) (request_claims.heard _ _ b e)
