-- Each step of the machine is a step of the theory, and the machine after it shows the history with it.
use Prim.Native.Nat.{ℕ, suc, ◌/◌, ◌%◌, ◌≤◌, ◌<◌}
use native.Mathlib.Nat.{le_refl, le_trans}
use native.Mathlib.Omega.{arith}
use native.Mathlib.Decide.{ℕ_discrete}
use mathlib.Core.Path.{◌≡◌, refl, sym, ap, subst, ◌∙◌}
use mathlib.Core.Logic.{◌⊎◌, inl, inr}
use mathlib.Core.Bool.{Bool, true, false}
use mathlib.Core.List.Memᴰ
use mathlib.Core.List.{◌∷◌, Memᴰ}
use Rattle.base.specs.Numbers.{rank_of}
use Rattle.base.proofs.Cases.{clash}
use Rattle.base.proofs.QuorumLaws.{majority_map}
use Rattle.requests.specs.declared.Phase.{Phase}
use Rattle.requests.specs.declared.Phase.TheVariants.{Read, Write}
use Rattle.requests.specs.declared.Slot.{Slot}
use Rattle.requests.specs.declared.Stage.TheVariants.{Waiting, Answered}
use Rattle.protocol.specs.View.{MayIssue, Chosen}
use Rattle.protocol.specs.Trace.{Box, Event, read, nack, issued, took, refused, note, Edit, there, other, view, serve_read, serve_nack, other_event}
use Rattle.protocol.specs.Trace as theory
use Rattle.machine.specs.Machine.{Found, Row, Seat, none, reading, writing, Station, Machine, Label, asked_of, SameBoxes, SameStations, RowMoved, Heard, Same, ReadServed, WriteServed, Agreed, Highest, begin, answer, tell, hear, decide, abort, leave, rest}
use Rattle.machine.specs.Machine as machine
use Rattle.machine.specs.Rules.{Rule, Made, Fits}
use Rattle.machine.proofs.Shows.{Note, begun, nothing, History, Begun, OfferedIn, writer_of, Unwritten, unwritten_more, ReadsShow, RowShows, SeatShows, Shows, Moves, reads_more, writes_more, row_more, seats_same, seats_moved, shows_moved, shows_rest}

-- an edit at its place, and elsewhere
module _ {T : Type 0} {x y : ℕ → T} {b : ℕ} {f : T → T} (e : (j : ℕ) → Edit x y b f j) where
  pub edit_at : y b ≡ f (x b)
  edit_at = elim (e b) [ there p q ↦ q | other p q ↦ absurd (p refl) ]

  pub edit_off : (j : ℕ) → ¬ (j ≡ b) → y j ≡ x j
  edit_off j n = elim (e j) [ there p q ↦ absurd (n p) | other p q ↦ q ]

-- what holds at each place
edit_all : {T : Type 0} {x y : ℕ → T} {b : ℕ} {f : T → T} (P : ℕ → T → Type 0) → ((j : ℕ) → Edit x y b f j) → ((j : ℕ) → ¬ (j ≡ b) → P j (x j)) → P b (f (x b)) → (j : ℕ) → P j (y j)
edit_all {b = b} P e h p j = elim (ℕ_discrete j b) [ yes q ↦ rw (q, edit_at e) p | no q ↦ rw (edit_off e j q) (h j q) ]

-- What happens at a step.
abbrev pub event_of : {A O : Type 0} → Machine A O → Label A O → Event A (Note O)
event_of x (machine.began s round o a) = note (begun o)
event_of x (machine.served Read a b true) = read (x.row a).rank b (x.box b).write_rank (x.box b).value
event_of x (machine.served Read a b false) = nack (x.row a).rank b
event_of x (machine.served Write a b true) = took (x.row a).rank b
event_of x (machine.served Write a b false) = refused (x.row a).rank b
event_of x (machine.heard p a b) = note nothing
event_of x (machine.issued a b v) = issued (x.row a).rank v
event_of x (machine.decided a b v) = note nothing
event_of x (machine.aborted p a b) = note nothing
event_of x (machine.left s) = note nothing
event_of x machine.quiet = note nothing

abbrev answered : Bool → Slot
answered ok = record { stage = Answered; ok = ok }

module _ {A O : Type 0} (R : Rule A O) {x y : Machine A O} {l : History A O} (s : Shows R x l) (e : Event A (Note O)) where
  -- A row is moved by a step that keeps the last rounds.
  moves : {a : ℕ} {C : Row A O → Row A O → Type 0} → RowMoved x y a C → Same (x.row a) (y.row a) → ((j : ℕ) → (y.station j).last ≡ (x.station j).last)
      → ((r : ℕ) → writer_of e ≡ suc r → r ≡ (x.row a).rank) → Moves x y e a
  moves m k last own = record { mine = m.mine; used = m.used; still = m.still; same = m.same; rank = k.rank; station = k.station; last = last; own = own }

  -- a read is served: it is answered, or told that it is outranked
  module _ (silent : writer_of e ≡ 0) {a b : ℕ} {ok : Bool} (m : RowMoved x y a (ReadServed b ok (x.box b))) where
    abbrev w : Row A O
    w = x.row a

    abbrev z : Row A O
    z = y.row a

    went : ReadServed b ok (x.box b) w z
    went = m.moved

    module _ (given : ok ≡ true → Memᴰ (read w.rank b (z.found b).rank (z.found b).value) (e ∷ l)) (told : ok ≡ false → Memᴰ (nack w.rank b) (e ∷ l)) where
      asked_row : RowShows R z (e ∷ l)
      asked_row = let r = s.rows a m.mine in record {
        positive = rw went.same.rank r.positive;
        place = rw (went.same.rank, went.same.station) r.place;
        offer = rw went.same.offer (Memᴰ.tail r.offer);
        reads = rw went.same.rank (record {
          received = λ j h. edit_all (λ (i : ℕ) (t : Slot). w.read.heard i ≡ true → t.stage ≡ Answered) went.read.slot (λ i _. r.reads.received i) (λ _. refl) j (sym (went.read.heard j) ∙ h);
          answered = edit_all (λ (i : ℕ) (t : Slot). t.stage ≡ Answered → t.ok ≡ true → Memᴰ (read w.rank i (z.found i).rank (z.found i).value) (e ∷ l)) went.read.slot
              (λ i n h t. rw (edit_off went.found i n) (Memᴰ.tail (r.reads.answered i h t))) (λ _ t. given t);
          empty = edit_all (λ (i : ℕ) (t : Slot). t.stage ≡ Answered → t.ok ≡ true → (z.found i).rank ≡ 0 → (z.found i).value ≡ R.start) went.read.slot
              (λ i n h t. rw (edit_off went.found i n) (r.reads.empty i h t)) (λ _ t q. let o = went.answer t in o.1 ∙ s.boxes b (sym o.0 ∙ q));
          told = edit_all (λ (i : ℕ) (t : Slot). t.stage ≡ Answered → t.ok ≡ false → Memᴰ (nack w.rank i) (e ∷ l)) went.read.slot
              (λ i _ h t. Memᴰ.tail (r.reads.told i h t)) (λ _ t. told t);
        });
        writes = rw (went.same.rank, went.written, went.write) (writes_more R e (λ q. omega (arith, silent)) r.writes);
        made = rw (went.same.offer, went.written, went.write) r.made;
      }

      pub asked_shows : ((j : ℕ) → (y.box j).write_rank ≡ 0 → (y.box j).value ≡ R.start) → SameStations x y → Shows R y (e ∷ l)
      asked_shows boxes same =
          let v = moves m went.same (λ j. ap (λ (t : Station). t.last) (same j)) (λ r q. absurd (omega (arith, silent))) in
          shows_moved R s e v boxes asked_row (seats_same R s e v same (λ _ q. omega (arith, silent)) went.written)

  -- a write is served: it is taken or refused
  module _ {a b : ℕ} {ok : Bool} (waits : ((x.row a).write.slot b).stage ≡ Waiting) (m : RowMoved x y a (WriteServed b ok)) where
    abbrev w' : Row A O
    w' = x.row a

    abbrev z' : Row A O
    z' = y.row a

    went' : WriteServed b ok w' z'
    went' = m.moved

    -- it was issued
    pub issued_then : Memᴰ (issued w'.rank w'.written) l
    issued_then = (s.rows a m.mine).writes.issue b (λ q. let n : ◌≡◌ {A = ℕ} 0 1 = cc (waits, q) in omega arith)

    module _ (own : (r : ℕ) → writer_of e ≡ suc r → r ≡ w'.rank) (given : ok ≡ true → Memᴰ (took w'.rank b) (e ∷ l))
        (told : ok ≡ false → Memᴰ (refused w'.rank b) (e ∷ l)) (head : (j : ℕ) → took w'.rank j ≡ e → (j ≡ b) × (ok ≡ true)) where
      wrote_row : RowShows R z' (e ∷ l)
      wrote_row = let r = s.rows a m.mine in record {
        positive = rw went'.same.rank r.positive;
        place = rw (went'.same.rank, went'.same.station) r.place;
        offer = rw went'.same.offer (Memᴰ.tail r.offer);
        reads = rw (went'.same.rank, went'.read) (record {
          received = r.reads.received;
          answered = λ j h t. rw (went'.found j) (Memᴰ.tail (r.reads.answered j h t));
          empty = λ j h t. rw (went'.found j) (r.reads.empty j h t);
          told = λ j h t. Memᴰ.tail (r.reads.told j h t);
        });
        writes = rw (went'.same.rank, went'.written) (record {
          received = λ j h. edit_all (λ (i : ℕ) (t : Slot). w'.write.heard i ≡ true → t.stage ≡ Answered) went'.write.slot (λ i _. r.writes.received i) (λ _. refl) j (sym (went'.write.heard j) ∙ h);
          issue = λ _ _. Memᴰ.tail issued_then;
          taken = edit_all (λ (i : ℕ) (t : Slot). t.stage ≡ Answered → t.ok ≡ true → Memᴰ (took w'.rank i) (e ∷ l)) went'.write.slot
              (λ i _ h t. Memᴰ.tail (r.writes.taken i h t)) (λ _ t. given t);
          refusal = edit_all (λ (i : ℕ) (t : Slot). t.stage ≡ Answered → t.ok ≡ false → Memᴰ (refused w'.rank i) (e ∷ l)) went'.write.slot
              (λ i _ h t. Memᴰ.tail (r.writes.refusal i h t)) (λ _ t. told t);
          only = edit_all (λ (i : ℕ) (t : Slot). Memᴰ (took w'.rank i) (e ∷ l) → (t.stage ≡ Answered) × (t.ok ≡ true)) went'.write.slot
              (λ i n o. elim (Memᴰ.cases_cons o) [ inl q ↦ absurd (n (head i q).0) | inr o ↦ r.writes.only i o ])
              (λ o. elim (Memᴰ.cases_cons o) [ inl q ↦ (refl, (head b q).1) | inr o ↦ absurd (let n : ◌≡◌ {A = ℕ} 0 1 = cc (waits, (r.writes.only b o).0) in omega arith) ]);
        });
        made = λ _ _. rw (went'.same.offer, went'.written) (r.made b (λ q. let n : ◌≡◌ {A = ℕ} 0 1 = cc (waits, q) in omega arith));
      }

      pub wrote_shows : ((j : ℕ) → (y.box j).write_rank ≡ 0 → (y.box j).value ≡ R.start) → SameStations x y → Shows R y (e ∷ l)
      wrote_shows boxes same =
          let v = moves m went'.same (λ j. ap (λ (t : Station). t.last) (same j)) own in
          shows_moved R s e v boxes wrote_row (seats_same R s e v same (λ u _. u _ issued_then refl) went'.written)

-- an answer is received
module _ {A O : Type 0} (R : Rule A O) {w : Row A O} (z : Row A O) {l : History A O} (r : RowShows R w l) where
  heard_reads : (b : ℕ) → (w.read.slot b).stage ≡ Answered → Heard b w.read z.read → ((j : ℕ) → z.found j ≡ w.found j) → ReadsShow R w.rank z.read z.found l
  heard_reads b h k f = record {
    received = λ j o. elim (k.heard j o) [ inl q ↦ rw (k.slot j, q) h | inr q ↦ rw (k.slot j) (r.reads.received j q) ];
    answered = λ j. rw (k.slot j, f j) (r.reads.answered j);
    empty = λ j. rw (k.slot j, f j) (r.reads.empty j);
    told = λ j. rw (k.slot j) (r.reads.told j);
  }

  pub heard_row_lem : (p : Phase) (b : ℕ) → ((asked_of p w).slot b).stage ≡ Answered → machine.HeardIn p b w z → RowShows R z l
  heard_row_lem Read b h k = record {
    positive = rw k.same.rank r.positive;
    place = rw (k.same.rank, k.same.station) r.place;
    offer = rw k.same.offer r.offer;
    reads = rw k.same.rank (heard_reads b h k.read k.found);
    writes = rw (k.same.rank, k.written, k.write) r.writes;
    made = rw (k.same.offer, k.written, k.write) r.made;
  }
  heard_row_lem Write b h k = record {
    positive = rw k.same.rank r.positive;
    place = rw (k.same.rank, k.same.station) r.place;
    offer = rw k.same.offer r.offer;
    reads = rw (k.same.rank, k.read) (record {
      received = r.reads.received;
      answered = λ j. rw (k.found j) (r.reads.answered j);
      empty = λ j. rw (k.found j) (r.reads.empty j);
      told = r.reads.told;
    });
    writes = rw (k.same.rank, k.written) (record {
      received = λ j o. elim (k.write.heard j o) [ inl q ↦ rw (k.write.slot j, q) h | inr q ↦ rw (k.write.slot j) (r.writes.received j q) ];
      issue = λ j. rw (k.write.slot j) (r.writes.issue j);
      taken = λ j. rw (k.write.slot j) (r.writes.taken j);
      refusal = λ j. rw (k.write.slot j) (r.writes.refusal j);
      only = λ j. rw (k.write.slot j) (r.writes.only j);
    });
    made = λ j. rw (k.write.slot j, k.same.offer, k.written) (r.made j);
  }

pub heard_same : {A O : Type 0} (p : Phase) (b : ℕ) (w z : Row A O) → machine.HeardIn p b w z → Same w z × (z.written ≡ w.written)
heard_same Read b w z k = (k.same, k.written)
heard_same Write b w z k = (k.same, k.written)

-- the boxes are as they were
boxes_kept : {A O : Type 0} (R : Rule A O) {x : Machine A O} (y : Machine A O) {l : History A O} → Shows R x l → SameBoxes x y → (j : ℕ) → (y.box j).write_rank ≡ 0 → (y.box j).value ≡ R.start
boxes_kept R y s boxes j = rw (boxes j) (s.boxes j)

module _ {A O : Type 0} (R : Rule A O) {x y : Machine A O} {l : History A O} (s : Shows R x l) (boxes : SameBoxes x y) (p : Phase) (a b : ℕ)
    (h : ((asked_of p (x.row a)).slot b).stage ≡ Answered) (m : RowMoved x y a (machine.HeardIn p b)) where
  then_row : RowShows R (y.row a) (note nothing ∷ l)
  then_row = row_more R (note nothing) (λ q. omega arith) (heard_row_lem R (y.row a) (s.rows a m.mine) p b h m.moved)

  kept : Same (x.row a) (y.row a) × ((y.row a).written ≡ (x.row a).written)
  kept = heard_same p b (x.row a) (y.row a) m.moved

  heard_shows : SameStations x y → Shows R y (note nothing ∷ l)
  heard_shows same =
      let v = moves R s (note nothing) m kept.0 (λ j. ap (λ (t : Station). t.last) (same j)) (λ r q. absurd (omega arith)) in
      shows_moved R s (note nothing) v (boxes_kept R y s boxes) then_row (seats_same R s (note nothing) v same (λ _ q. omega arith) kept.1)

  -- its station leaves the attempt
  ended_shows : machine.Sits x y (x.row a).station none → Shows R y (note nothing ∷ l)
  ended_shows edit =
      let v = moves R s (note nothing) m kept.0 (edit_all (λ (j : ℕ) (t : Station). t.last ≡ (x.station j).last) edit (λ j _. refl) refl) (λ r q. absurd (omega arith)) in
      shows_moved R s (note nothing) v (boxes_kept R y s boxes) then_row (seats_moved R s (note nothing) v none edit tt)

-- The q-th answer to its reads is received, none of them outranked: a write is issued that the theory allows.
module _ {A O : Type 0} (n : ℕ) (R : Rule A O) (F : Fits R) {x y : Machine A O} {l : History A O} (s : Shows R x l) (a b : ℕ) (v : A) (h : ((x.row a).read.slot b).stage ≡ Answered)
    (seat : (x.station (x.row a).station).seat ≡ reading a) (m : RowMoved x y a (machine.Issued b v)) where
  abbrev from : Row A O
  from = x.row a

  abbrev to : Row A O
  to = y.row a

  went_on : machine.Issued b v from to
  went_on = m.moved

  unwritten : Unwritten l from.rank
  unwritten = (subst (SeatShows R x l from.station) seat (s.seats from.station)).2

  reads : ReadsShow R from.rank to.read to.found l
  reads = heard_reads R to (s.rows a m.mine) b h went_on.read went_on.found

  module _ (g : Agreed n to.read) (u : Found A) (top : Highest n to u) (makes : R.Makes from.offer u.rank u.value v) where
    read_of : (j : ℕ) → j < n → to.read.heard j ≡ true → Memᴰ (read from.rank j (to.found j).rank (to.found j).value) l
    read_of j k o = reads.answered j (reads.received j o) (g.yes j k o)

    may_issue : MayIssue n R.Follows (view (OfferedIn R) x.box l) from.rank v
    may_issue = record {
      rank = u.rank;
      value = u.value;
      read = record {
        majority = majority_map (λ j o. record { rank = (to.found j).rank; value = (to.found j).value; read = read_of j o.0 o.1; at_most = top.top j o.0 o.1 }) g.majority;
        highest = λ _. (top.box, subst (λ (f : Found A). Memᴰ (read from.rank top.box f.rank f.value) l) top.is (read_of top.box top.below top.heard));
      };
      follows = F.follows from.offer u.rank u.value v makes;
      offered = F.offered (Begun l) from.offer u.rank u.value v makes (s.rows a m.mine).offer
          (subst (λ (f : Found A). f.rank ≡ 0 → f.value ≡ R.start) top.is (reads.empty top.box (reads.received top.box top.heard) (g.yes top.box top.below top.heard)));
    }

    issue_step : SameBoxes x y → theory.Step n R.Follows (OfferedIn R) x.box l y.box (issued from.rank v)
    issue_step boxes = theory.issue boxes may_issue (λ w o. absurd (unwritten (issued from.rank w) o refl))

  issued_row_lem : Made R from.offer v → RowShows R to (issued from.rank v ∷ l)
  issued_row_lem k = let r = s.rows a m.mine in record {
    positive = rw went_on.same.rank r.positive;
    place = rw (went_on.same.rank, went_on.same.station) r.place;
    offer = rw went_on.same.offer (Memᴰ.tail r.offer);
    reads = rw went_on.same.rank (reads_more R (issued from.rank v) reads);
    writes = rw (went_on.same.rank, went_on.written) (record {
      received = λ j o. clash o (went_on.write.heard j);
      issue = λ _ _. Memᴰ.head refl;
      taken = λ j o. absurd (went_on.write.slot j o);
      refusal = λ j o. absurd (went_on.write.slot j o);
      only = λ j o. elim (Memᴰ.cases_cons o) [
        | inl q ↦ absurd (let k : ◌≡◌ {A = ℕ} 0 1 = cc in omega arith)
        | inr o ↦ absurd (unwritten (took from.rank j) o refl)
      ];
    });
    made = λ _ _. rw (went_on.same.offer, went_on.written) k;
  }

  issued_shows : Made R from.offer v → SameBoxes x y → machine.Sits x y from.station (writing a) → Shows R y (issued from.rank v ∷ l)
  issued_shows made boxes edit =
      let e = issued from.rank v in
      let k = moves R s e m went_on.same (edit_all (λ (j : ℕ) (t : Station). t.last ≡ (x.station j).last) edit (λ j _. refl) refl) (λ r q. omega arith) in
      shows_moved R s e k (boxes_kept R y s boxes) (issued_row_lem made)
      (seats_moved R s e k (writing a) edit (m.still a m.mine, went_on.same.station, rw (went_on.same.rank, went_on.written) (Memᴰ.head refl)))

-- A begin: the machine after it shows the history with the offer.
module _ {A O : Type 0} (R : Rule A O) {x y : Machine A O} {l : History A O} (s : Shows R x l) (boxes : SameBoxes x y) (t round : ℕ) (o : O) (a : ℕ) (below : t < 16) (later : (x.station t).last < round)
    (m : machine.RowTaken x y a (machine.Opened t round o)) (edit : (j : ℕ) → Edit x.station y.station t (λ _. record { seat = reading a; last = round }) j) where
  abbrev rank : ℕ
  rank = rank_of round t

  abbrev event : Event A (Note O)
  event = note (begun o)

  here : rank % 16 ≡ t
  here = omega (arith, below)

  -- the rank is not begun yet, so nothing was written at it, and no row has it
  unbegun : (x.station (rank % 16)).last < rank / 16
  unbegun = omega (arith, ap (λ (j : ℕ). (x.station j).last) here, later)

  none_written : Unwritten (event ∷ l) rank
  none_written = unwritten_more l rank event (λ q. omega arith) (s.unbegun rank unbegun)

  unused : (k : ℕ) → x.Used k → ¬ ((x.row k).rank ≡ rank)
  unused k h q = omega (arith, s.begun k h, subst (λ (r : ℕ). (x.station (r % 16)).last < r / 16) (sym q) unbegun)

  new : machine.Opened t round o (y.row a)
  new = m.taken

  new_row : RowShows R (y.row a) (event ∷ l)
  new_row = record {
    positive = rw new.rank (omega (arith, later));
    place = rw (new.rank, new.station) here;
    offer = rw new.offer (Memᴰ.head refl);
    reads = record {
      received = λ j h. clash h (new.read.heard j);
      answered = λ j h. absurd (new.read.slot j h);
      empty = λ j h. absurd (new.read.slot j h);
      told = λ j h. absurd (new.read.slot j h);
    };
    writes = rw new.rank (record {
      received = λ j h. clash h (new.write.heard j);
      issue = λ j h. absurd (h (new.write.slot j));
      taken = λ j h. absurd (let k : ◌≡◌ {A = ℕ} 0 1 = cc (new.write.slot j, h) in omega arith);
      refusal = λ j h. absurd (let k : ◌≡◌ {A = ℕ} 0 1 = cc (new.write.slot j, h) in omega arith);
      only = λ j h. absurd (none_written (took rank j) h refl);
    });
    made = λ j h. absurd (h (new.write.slot j));
  }

  rank_at : (k : ℕ) → ¬ (k ≡ a) → (y.row k).rank ≡ (x.row k).rank
  rank_at k q = ap (λ (w : Row A O). w.rank) (m.same k q)

  distinct : (i j : ℕ) → y.Used i → y.Used j → (y.row i).rank ≡ (y.row j).rank → i ≡ j
  distinct i j hi hj q = elim (ℕ_discrete i a) [
    | yes p ↦ elim (ℕ_discrete j a) [
      | yes c ↦ p ∙ sym c
      | no c ↦ absurd (unused j (m.used j hj c) (sym (rank_at j c) ∙ sym q ∙ ap (λ (k : ℕ). (y.row k).rank) p ∙ new.rank))
    ]
    | no p ↦ elim (ℕ_discrete j a) [
      | yes c ↦ absurd (unused i (m.used i hi p) (sym (rank_at i p) ∙ q ∙ ap (λ (k : ℕ). (y.row k).rank) c ∙ new.rank))
      | no c ↦ s.distinct i j (m.used i hi p) (m.used j hj c) (sym (rank_at i p) ∙ q ∙ rank_at j c)
    ]
  ]

  -- no last round falls
  last_up : (j : ℕ) → (x.station j).last ≤ (y.station j).last
  last_up = edit_all (λ (j : ℕ) (z : Station). (x.station j).last ≤ z.last) edit (λ j _. le_refl (x.station j).last) (omega (arith, later))

  -- the row taken is over: no station is in it
  seat_then : (j : ℕ) (q : Seat) → (x.station j).seat ≡ q → SeatShows R x l j q → SeatShows R y (event ∷ l) j q
  seat_then j none e v = tt
  seat_then j (reading i) e v = elim (ℕ_discrete i a) [
    | yes q ↦ absurd ((m.over (subst x.Used q v.0)).0 (rw (sym q, v.1, e) refl))
    | no q ↦ (m.still i v.0, ap (λ (w : Row A O). w.station) (m.same i q) ∙ v.1, rw (m.same i q) (unwritten_more l _ event (λ q. omega arith) v.2))
  ]
  seat_then j (writing i) e v = elim (ℕ_discrete i a) [
    | yes q ↦ absurd ((m.over (subst x.Used q v.0)).1 (rw (sym q, v.1, e) refl))
    | no q ↦ (m.still i v.0, ap (λ (w : Row A O). w.station) (m.same i q) ∙ v.1, rw (m.same i q) (Memᴰ.tail v.2))
  ]

  begun_shows : Shows R y (event ∷ l)
  begun_shows = record {
    boxes = boxes_kept R y s boxes;
    rows = λ k h. elim (ℕ_discrete k a) [
      | yes q ↦ rw q new_row
      | no q ↦ rw (m.same k q) (row_more R event (λ q. omega arith) (s.rows k (m.used k h q)))
    ];
    distinct = distinct;
    begun = λ k h. elim (ℕ_discrete k a) [
      | yes q ↦ rw (q, new.rank, here, edit_at edit) (omega arith)
      | no q ↦ rw (m.same k q) (le_trans (s.begun k (m.used k h q)) (last_up ((x.row k).rank % 16)))
    ];
    unbegun = λ r h. unwritten_more l r event (λ q. omega arith) (s.unbegun r (omega (arith, last_up (r % 16))));
    seats = λ j. elim (edit j) [
      | there p q ↦ rw (q, p) (m.mine, new.station, rw new.rank none_written)
      | other p q ↦ rw q (seat_then j (x.station j).seat refl (s.seats j))
    ];
  }

-- From the machine x with the history l to y with the event e.
pub record StepTo {A O : Type 0} (n : ℕ) (R : Rule A O) (x : Machine A O) (l : History A O) (y : Machine A O) (e : Event A (Note O)) : Type 0 where
  pub step : theory.Step n R.Follows (OfferedIn R) x.box l y.box e
  pub shows : Shows R y (e ∷ l)

-- an attempt that aborts: a box told that its read is outranked, or refused its write and did not take it
abbrev pub Beaten : {A O : Type 0} → History A O → ℕ → Phase → ℕ → Type 0
Beaten l r Read c = Memᴰ (nack r c) l
Beaten l r Write c = Memᴰ (refused r c) l × (¬ Memᴰ (took r c) l)

module _ {A O : Type 0} (n : ℕ) (R : Rule A O) (F : Fits R) {x y : Machine A O} {l : History A O} (s : Shows R x l) where
  pub step_to : {t : Label A O} → machine.Step n R.Makes x y t → StepTo n R x l y (event_of x t)
  step_to (begin {s = t} {round = round} {a = a} {o = o} boxes h _ u m edit) =
      record { step = other_event boxes; shows = begun_shows R s boxes t round o a h u m edit }
  step_to (answer {a = a} {b = b} edit m same) = record {
    step = serve_read edit refl refl;
    shows = let k = m.moved in asked_shows R s _ refl m
        (λ _. Memᴰ.head (let o = k.answer refl in rw (o.0, o.1) refl)) (λ t. clash refl t)
        (edit_all (λ (j : ℕ) (c : Box A). c.write_rank ≡ 0 → c.value ≡ R.start) edit (λ j _. s.boxes j) (s.boxes b)) same;
  }
  step_to (tell high boxes m same) = record {
    step = serve_nack boxes high;
    shows = asked_shows R s _ refl m (λ t. clash t refl) (λ _. Memᴰ.head refl) (boxes_kept R y s boxes) same;
  }
  step_to (machine.take {a = a} {b = b} waits p q edit m same) = record {
    step = theory.take (issued_then R s (took (x.row a).rank b) waits m) p q edit;
    shows = wrote_shows R s _ waits m (λ r e. omega arith) (λ _. Memᴰ.head refl) (λ t. clash refl t) (λ j e. ((cc), refl))
        (edit_all (λ (j : ℕ) (c : Box A). c.write_rank ≡ 0 → c.value ≡ R.start) edit (λ j _. s.boxes j) (λ e. absurd (omega (arith, (s.rows a m.mine).positive)))) same;
  }
  step_to (machine.refuse waits high boxes m same) = record {
    step = theory.refuse boxes high;
    shows = wrote_shows R s _ waits m (λ r e. absurd (omega arith)) (λ t. clash t refl) (λ _. Memᴰ.head refl) (λ j e. absurd (omega (arith, ap writer_of e)))
        (boxes_kept R y s boxes) same;
  }
  step_to (hear {p = p} {a = a} {b = b} h boxes m same) = record { step = other_event boxes; shows = heard_shows R s boxes p a b h m same }
  step_to (machine.issue {a = a} {b = b} {v = v} {u = u} h boxes seat m g top makes edit) = record {
    step = issue_step n R F s a b v h seat m g u top makes boxes;
    shows = issued_shows n R F s a b v h seat m (record { rank = u.rank; value = u.value; makes = makes }) boxes edit;
  }
  step_to (decide {a = a} {b = b} h boxes seat m g edit) = record { step = other_event boxes; shows = ended_shows R s boxes Write a b h m edit }
  step_to (abort {p = p} {a = a} {b = b} h boxes m d edit) = record { step = other_event boxes; shows = ended_shows R s boxes p a b h m edit }
  step_to (leave boxes rows edit) = record {
    step = other_event boxes;
    shows = shows_rest R s boxes rows (edit_all (λ (j : ℕ) (t : Station). t.last ≡ (x.station j).last) edit (λ j _. refl) refl)
        (edit_all (λ (j : ℕ) (t : Station). (t.seat ≡ none) ⊎ (t.seat ≡ (x.station j).seat)) edit (λ j _. inr refl) (inl refl));
  }
  step_to (rest boxes rows same) = record {
    step = other_event boxes;
    shows = shows_rest R s boxes rows (λ j. ap (λ (t : Station). t.last) (same j)) (λ j. inr (ap (λ (t : Station). t.seat) (same j)));
  }

  -- a value that is decided was chosen
  pub decided_chosen : (a b : ℕ) (v : A) → machine.Step n R.Makes x y (machine.decided a b v) → Chosen n (view (OfferedIn R) x.box l) (x.row a).rank v
  decided_chosen a b v (decide h boxes seat m g edit) =
      let r = (heard_row_lem R (y.row a) (s.rows a m.mine) Write b h m.moved).writes in
      let k = m.moved.same.rank in
      record {
        issued = (subst (SeatShows R x l (x.row a).station) seat (s.seats (x.row a).station)).2;
        taken = majority_map (λ j o. subst (λ (i : ℕ). Memᴰ (took i j) l) k (r.taken j (r.received j o.1) (g.yes j o.0 o.1))) g.majority;
      }

  pub aborted_beaten : (p : Phase) (a b : ℕ) → machine.Step n R.Makes x y (machine.aborted p a b) → (c : ℕ) × Beaten l (x.row a).rank p c
  aborted_beaten Read a b (abort h boxes m d edit) =
      let r = (heard_row_lem R (y.row a) (s.rows a m.mine) Read b h m.moved).reads in
      (d.box, subst (λ (i : ℕ). Memᴰ (nack i d.box) l) m.moved.same.rank (r.told d.box (r.received d.box d.heard) d.no))
  aborted_beaten Write a b (abort h boxes m d edit) =
      let r = (heard_row_lem R (y.row a) (s.rows a m.mine) Write b h m.moved).writes in
      let k = m.moved.same.rank in (
        d.box,
        (
          subst (λ (i : ℕ). Memᴰ (refused i d.box) l) k (r.refusal d.box (r.received d.box d.heard) d.no),
          λ o. clash (r.only d.box (subst (λ (i : ℕ). Memᴰ (took i d.box) l) (sym k) o)).1 d.no,
        ),
      )
