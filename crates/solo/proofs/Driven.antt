-- The floor while a station is driven alone: what holds of its boxes, of its station and of its attempt's row from one exchange to
-- the next.
use Prim.Native.Nat.{ℕ, ◌+◌, ◌≤◌, ◌<◌}
use native.Mathlib.Omega.{arith}
use native.Mathlib.Nat.{le_refl}
use mathlib.Core.Path.{◌≡◌, refl, sym, ap, subst, ◌∙◌}
use mathlib.Core.Logic.{inl, inr}
use mathlib.Core.Bool.{Bool, true, false}
use mathlib.Core.List.{List}
use lib.ListN.{length, get_or, set}
use lib.Seq.{get_or-set_other}
use Rattle.suits.specs.declared.Suit.{Suit}
use Rattle.base.specs.Numbers.{quorum}
use Rattle.base.specs.Mask.{count_below}
use Rattle.register.specs.Register.{register_of, box_with, is_held, rmw_read, rmw_write, box0}
use Rattle.register.specs.declared.Department.{Department}
use Rattle.register.proofs.DepartmentLaws.{box_own}
use Rattle.register.proofs.RegisterLaws.{ReadCase, outranked, answered, read_case, takes_both, write_answers, write_keeps_read}
use Rattle.register.specs.declared.Register.{Register}
use Rattle.register.specs.declared.ReadDone.{ReadDone}
use Rattle.register.specs.declared.StorageBox.{StorageBox}
use Rattle.requests.specs.Requests.{of_phase, slot0, slot_at, served_at, at_quorum, all_yes}
use Rattle.requests.proofs.RequestLaws.{served_slot, wait_below, quorum_holds, quorum_not, yes_holds, verdict_open}
use Rattle.base.proofs.Stores.{set_all}
use Rattle.requests.specs.declared.Phase.{Phase}
use Rattle.requests.specs.declared.Phase.TheVariants.{Read, Write}
use Rattle.requests.specs.declared.Slot.{Slot}
use Rattle.requests.specs.declared.Requests.{Requests}
use Rattle.requests.specs.declared.Verdict.TheVariants.{No}
use Rattle.attempts.specs.Rows.{row0, row_department, requests_of, issued, revision_of, row_served, register_served, requests_heard}
use Rattle.floor.specs.Floors.{box_at, station_at, row_at, owner_at, InUse, with_row}
use Rattle.floor.proofs.UseLaws.{in_use_most}
use Rattle.attempts.specs.Stations.{is_in}
use Rattle.floor.specs.Soundness.{Sound, Lengths}
use Rattle.floor.specs.Tests.{CanDeliver}
use Rattle.floor.specs.Effects.{heard_row, stepped, after_serve, after_issue, after_decision, after_abort, verdict_on}
use Rattle.floor.specs.Step.{apply_of}
use Rattle.attempts.proofs.StationTests.{reading_holds, writing_holds, here_in}
use Rattle.floor.proofs.Accepts.{serve_accepted, received, aborted, write_issued_lem, write_decided}
use Rattle.floor.proofs.Keeps.{apply_keeps, apply_sizes}
use Rattle.floor.proofs.LengthLaws.{apply_lengths}
use Rattle.floor.proofs.StoredLaws.{used_stored, owner_stored}
use Rattle.floor.proofs.RowLaws.{used_stays, row_same, requests_put}
use Rattle.attempts.specs.declared.State.{State}
use Rattle.attempts.specs.declared.State.TheVariants.{Reading, Writing}
use Rattle.attempts.specs.declared.Station.{Station}
use Rattle.attempts.specs.declared.Row.{Row}
use Rattle.floor.specs.declared.Floor.{Floor}
use Rattle.floor.specs.declared.Stepped.{Stepped}
use Rattle.base.proofs.Cases.{clash}
use Rattle.commands.specs.Outcomes.{is_begun}
use Rattle.commands.specs.declared.Outcome.TheVariants.{Served, Received, WriteIssued, Decided, Aborted}
use Rattle.commands.specs.declared.Command.{Command}
use Rattle.commands.specs.declared.Command.TheVariants.{Serve, Deliver}
use Rattle.solo.proofs.PhaseRequests.{Waits, Sent, all_wait, one_sent, one_heard}

-- The attempt that is driven, with the n boxes as they were handed in. `highest` says that its rank is above every rank that a box
-- had served for its department: so it is on a lawful floor, and on one built by hand it need not be.
pub record Attempt : Type 0 where
  pub n : ℕ
  pub number : ℕ
  pub station : ℕ
  pub rank : ℕ
  pub boxes : List StorageBox
  pub highest : Bool

-- the attempt's department, and the record of a box for it
abbrev pub own_of : (t : Attempt) → Department
own_of t = row_department t.number

abbrev pub held_by : (t : Attempt) (x : StorageBox) → Register
held_by t x = register_of (own_of t) x

-- a box is away where it was; where the attempt's rank is the highest, the box has served no higher one, and from box lo on it
-- has not served the attempt's write
pub record BoxOk (t : Attempt) (lo j : ℕ) (x : StorageBox) : Type 0 where
  pub away : x.away ≡ (get_or t.boxes j box0).away
  pub read : t.highest ≡ true → (held_by t x).read ≤ t.rank
  pub write : t.highest ≡ true → lo ≤ j → (held_by t x).write < t.rank

-- what a station in a phase is, and the boxes from where on none was asked for the write
abbrev pub state_in : Phase → ℕ → State
state_in p a = of_phase p (Reading a) (Writing a)

abbrev pub asked_below : Phase → ℕ → ℕ
asked_below p lo = of_phase p 0 lo

-- the floor within one phase of the attempt: its row, its station's state and the boxes are as the attempt has left them, the boxes
-- from lo on not yet asked
pub record Driven (t : Attempt) (p : Phase) (lo : ℕ) (g : Floor) : Type 0 where
  pub sound : Sound g
  pub lengths : Lengths g
  pub size : g.n ≡ t.n
  pub begun : InUse g t.number
  pub owner : (row_at g t.number).station ≡ t.station
  pub rank : (row_at g t.number).rank ≡ t.rank
  pub boxes : (j : ℕ) → BoxOk t (asked_below p lo) j (box_at g j)
  pub state : (station_at g t.station).state ≡ state_in p t.number

-- the requests of a phase; where the attempt's rank is the highest, each answer is a yes
abbrev pub RequestsAt : Attempt → ℕ → ℕ → Requests → Type 0
RequestsAt t lo k h = Waits t.n (λ j. (slot_at h j).stage) h.heard (λ j. t.highest ≡ true → (slot_at h j).ok ≡ true) lo k

abbrev pub RequestsSent : Attempt → ℕ → ℕ → Requests → Type 0
RequestsSent t b k h = Sent t.n (λ j. (slot_at h j).stage) h.heard (λ j. t.highest ≡ true → (slot_at h j).ok ≡ true) b k

-- the floor after an accepted step
driven_on : {t : Attempt} {p next : Phase} {lo q : ℕ} {g : Floor} (c : Command) (x : Stepped) → Driven t p lo g → apply_of g c ≡ x → is_begun x.outcome ≡ false
    → ((j : ℕ) → BoxOk t (asked_below next q) j (box_at x.floor j)) → (station_at x.floor t.station).state ≡ state_in next t.number → Driven t next q x.floor
driven_on {t} {g = g} c x d e o b s =
    let r = row_same g c t.number (λ q. clash (ap is_begun q) (ap (λ (y : Stepped). is_begun y.outcome) e ∙ o)) in
    record {
      sound = subst (λ (y : Stepped). Sound y.floor) e (apply_keeps g c d.sound);
      lengths = subst (λ (y : Stepped). Lengths y.floor) e (apply_lengths g c d.lengths);
      size = ap (λ (y : Stepped). y.floor.n) (sym e) ∙ (apply_sizes g c).boxes ∙ d.size;
      begun = subst (λ (y : Stepped). InUse y.floor t.number) e (used_stays g c t.number d.begun);
      owner = ap (λ (y : Stepped). (row_at y.floor t.number).station) (sym e) ∙ r.station ∙ d.owner;
      rank = ap (λ (y : Stepped). (row_at y.floor t.number).rank) (sym e) ∙ r.rank ∙ d.rank;
      boxes = b;
      state = s;
    }

module _ {t : Attempt} {p : Phase} {lo : ℕ} {g : Floor} (d : Driven t p lo g) where
  -- what holds of the row stored holds of the row there
  row_stored : (Q : Row → Type 0) (w : Row) → Q w → Q (get_or (set g.rows t.number w) t.number row0)
  row_stored Q w q = rw (used_stored g d.lengths d.sound t.number w d.begun) q

  owner_state : (owner_at g t.number).state ≡ state_in p t.number
  owner_state = ap (λ (i : ℕ). (station_at g i).state) d.owner ∙ d.state

  in_row : t.number < 128
  in_row = in_use_most g d.sound t.number d.begun

-- an answer before the q-th
before_quorum : (h : Requests) (n : ℕ) → count_below h.heard n < quorum n → at_quorum h n ≡ false
before_quorum h n l = quorum_not h n (λ (e : count_below h.heard n ≡ quorum n). omega arith)

-- a station in a phase is in that phase of its attempt
in_holds : (p : Phase) (a : ℕ) → is_in p (state_in p a) a ≡ true
in_holds Read a = reading_holds a
in_holds Write a = writing_holds a

-- A box that serves a read has served no higher rank than before, or the attempt's own. One that has served no higher rank answers it, and
-- takes the write where it has not served that.

-- the box with the record that the routine left for the attempt's department
abbrev with_held : (t : Attempt) (x : StorageBox) (r : Register) → StorageBox
with_held t x r = box_with (own_of t) x r x.away

held_ok : (t : Attempt) {lo b : ℕ} (x : StorageBox) (r : Register) → x.away ≡ (get_or t.boxes b box0).away → (t.highest ≡ true → r.read ≤ t.rank)
    → (t.highest ≡ true → lo ≤ b → r.write < t.rank) → BoxOk t lo b (with_held t x r)
held_ok t x r s h k =
    let e = box_own (own_of t) x r x.away in
    record { away = s; read = λ i. rw e (h i); write = λ i u. rw e (k i u) }

box_read : {t : Attempt} {lo b r : ℕ} {x : StorageBox} {d : ReadDone} → r ≡ t.rank → BoxOk t lo b x → ReadCase (held_by t x) r d → BoxOk t lo b (with_held t x d.register)
box_read {t} {x = x} e o (outranked h) = held_ok t x (held_by t x) o.away o.read o.write
box_read {t} {x = x} e o (answered h k) = held_ok t x _ o.away (λ i. rw e (le_refl t.rank)) o.write

read_answers : {r : ℕ} {x : Register} {d : ReadDone} → x.read ≤ r → x.write ≤ r → ReadCase x r d → is_held d.answer ≡ true
read_answers h k (outranked (inl e)) = absurd (omega arith)
read_answers h k (outranked (inr e)) = absurd (omega arith)
read_answers h k (answered _ _) = refl

box_answers : {t : Attempt} {b : ℕ} {x : StorageBox} (r : ℕ) → r ≡ t.rank → BoxOk t 0 b x → t.highest ≡ true → is_held (rmw_read (held_by t x) r).answer ≡ true
box_answers {t} {x = x} r e o i = read_answers (rw e (o.read i)) (omega (arith, e, o.write i (omega arith))) (read_case (held_by t x) r)

box_written : {t : Attempt} {lo b : ℕ} {x : StorageBox} (r : ℕ) (v : Suit) → BoxOk t lo b x → BoxOk t (b + 1) b (with_held t x (rmw_write (held_by t x) r v).register)
box_written {t} {x = x} r v o = held_ok t x _ o.away (λ i. rw (write_keeps_read (held_by t x) r v) (o.read i)) (λ i u. absurd (omega arith))

box_served : {t : Attempt} {b : ℕ} {x : StorageBox} (lo : ℕ) (p : Phase) (w : Row) → w.rank ≡ t.rank → BoxOk t (asked_below p lo) b x
    → BoxOk t (asked_below p (b + 1)) b (with_held t x (register_served p w (held_by t x)))
box_served {t} {x = x} lo Read w e o = box_read e o (read_case (held_by t x) w.rank)
box_served lo Write w e o = box_written w.rank w.written o

box_later : {t : Attempt} {lo b j : ℕ} {x : StorageBox} (p : Phase) → lo ≤ b → BoxOk t (asked_below p lo) j x → BoxOk t (asked_below p (b + 1)) j x
box_later Read l o = o
box_later Write l o = record { away = o.away; read = o.read; write = λ i u. o.write i (omega arith) }

box_takes : {t : Attempt} {lo b : ℕ} {x : StorageBox} (r : ℕ) (v : Suit) → r ≡ t.rank → lo ≤ b → BoxOk t lo b x → t.highest ≡ true → (rmw_write (held_by t x) r v).taken ≡ true
box_takes {t} {x = x} r v e l o i = write_answers (held_by t x) r v ∙ takes_both (held_by t x) r (rw e (o.read i)) (rw e (o.write i l))

-- requests of a phase of which box b has served, with a yes where the attempt's rank is the highest
one_served : (t : Attempt) (x : Requests) (ok : Bool) {lo b k : ℕ} → RequestsAt t lo k x → lo ≤ b → b < t.n → b < length x.slots
    → (t.highest ≡ true → ok ≡ true) → RequestsSent t b k (served_at x b ok)
one_served t x ok {b = b} r l h i y =
    one_sent r b l h _ _ (ap (λ (s : Slot). s.stage) (served_slot x b i ok))
    (λ j n. ap (λ (s : Slot). s.stage) (get_or-set_other x.slots b j _ slot0 n))
    (λ j n e u. ap (λ (s : Slot). s.ok) (get_or-set_other x.slots b j _ slot0 n) ∙ e u)
    (λ u. ap (λ (s : Slot). s.ok) (served_slot x b i ok) ∙ y u)

-- what the box answers, where the attempt's rank is the highest: yes
module _ {t : Attempt} {lo b : ℕ} {x : StorageBox} (w : Row) (e : w.rank ≡ t.rank) (l : lo ≤ b) where
  requests_sent : (p : Phase) {k : ℕ} → BoxOk t (asked_below p lo) b x → b < t.n → b < length (requests_of p w).slots → RequestsAt t lo k (requests_of p w)
      → RequestsSent t b k (requests_of p (row_served p w (held_by t x) b))
  requests_sent Read o h i r = one_served t w.read _ r l h i (λ u. box_answers w.rank e o u)
  requests_sent Write o h i r = one_served t w.write _ r l h i (λ u. box_takes w.rank w.written e l o u)

-- box b, which answers and was not asked yet, serves the request
module _ {t : Attempt} {g : Floor} {lo k : ℕ} (p : Phase) (d : Driven t p lo g) (r : RequestsAt t lo k (requests_of p (row_at g t.number))) (b : ℕ) (l : lo ≤ b) (h : b < t.n)
    (o : (get_or t.boxes b box0).away ≡ false) where
  pub served : apply_of g (Serve p t.number b) ≡ stepped (after_serve g p t.number b) (Served t.number)
  served =
      serve_accepted g d.sound t.number b p
      (record { used = d.begun; box = rw d.size h; not_away = (d.boxes b).away ∙ o; waits = r.waiting b l h })

  pub served_driven : Driven t p (b + 1) (after_serve g p t.number b)
  served_driven =
      driven_on (Serve p t.number b) _ d served refl
      (set_all box0 (BoxOk t (asked_below p (b + 1))) g.boxes b _ (λ j. box_later p l (d.boxes j)) (box_served lo p (row_at g t.number) d.rank (d.boxes b))) d.state

  pub served_sent : RequestsSent t b k (requests_of p (row_at (after_serve g p t.number b) t.number))
  served_sent =
      row_stored d (λ w. RequestsSent t b k (requests_of p w)) _
      (requests_sent (row_at g t.number) d.rank l p (d.boxes b) h (omega (arith, d.lengths.slots p t.number (in_row d), d.size, d.sound.box_most)) r)

-- its answer is delivered
module _ {t : Attempt} {g : Floor} {b k : ℕ} (p : Phase) (d : Driven t p (b + 1) g) (h : b < t.n) (r : RequestsSent t b k (requests_of p (row_at g t.number))) where
  in_phase : is_in p (owner_at g t.number).state t.number ≡ true
  in_phase = ap (λ (x : State). is_in p x t.number) (owner_state d) ∙ in_holds p t.number

  can : CanDeliver g p t.number b
  can = record { used = d.begun; box = rw d.size h; here = here_in p (owner_at g t.number).state t.number in_phase; arrives = r.coming }

  heard : RequestsAt t (b + 1) (k + 1) (requests_heard p (row_at g t.number) b)
  heard = one_heard r h

  -- whether all said yes, as they did where the attempt's rank is the highest
  abbrev pub all_said : Bool
  all_said = all_yes (requests_heard p (row_at g t.number) b) g.n

  pub all_said_lem : t.highest ≡ true → all_said ≡ true
  all_said_lem i = yes_holds (requests_heard p (row_at g t.number) b) g.n (λ j _ e. heard.good j e i)

  -- before the q-th
  module _ (q : k + 1 < quorum t.n) where
    unfilled : at_quorum (requests_heard p (row_at g t.number) b) g.n ≡ false
    unfilled = rw d.size (before_quorum _ t.n (rw heard.count q))

    module _ (y : p ≡ Read → all_said ≡ true) where
      pub more : apply_of g (Deliver p t.number b) ≡ stepped (with_row g t.number (heard_row g p t.number b)) (Received t.number)
      more = received g d.sound t.number b p can (inr (verdict_open _ g.n p unfilled y))

      pub more_driven : Driven t p (b + 1) (with_row g t.number (heard_row g p t.number b))
      more_driven = driven_on (Deliver p t.number b) _ d more refl d.boxes d.state

    pub more_requests : RequestsAt t (b + 1) (k + 1) (requests_of p (row_at (with_row g t.number (heard_row g p t.number b)) t.number))
    more_requests =
        row_stored d (λ w. RequestsAt t (b + 1) (k + 1) (requests_of p w)) (heard_row g p t.number b)
        (rw (requests_put p (row_at g t.number) (requests_heard p (row_at g t.number) b)) heard)

  -- the q-th
  pub full : k + 1 ≡ quorum t.n → at_quorum (requests_heard p (row_at g t.number) b) g.n ≡ true
  full q = rw d.size (quorum_holds _ t.n (heard.count ∙ q))

  -- one that ends the phase with a no
  pub aborts : verdict_on g p t.number b ≡ No
      → apply_of g (Deliver p t.number b) ≡ stepped (after_abort g t.number (heard_row g p t.number b)) (Aborted t.number)
  aborts = aborted g d.sound t.number b p can in_phase

-- the q-th answer to the read, none of them outranked: the write is issued
module _ {t : Attempt} {g : Floor} {b k : ℕ} (d : Driven t Read (b + 1) g) (h : b < t.n) (r : RequestsSent t b k (row_at g t.number).read) (q : k + 1 ≡ quorum t.n)
    (y : all_said Read d h r ≡ true) where
  abbrev pub chosen : Suit
  chosen = revision_of (heard_row g Read t.number b) g.n

  abbrev pub issued_floor : Floor
  issued_floor = after_issue g t.number (heard_row g Read t.number b) chosen

  pub read_last : apply_of g (Deliver Read t.number b) ≡ stepped issued_floor (WriteIssued chosen)
  read_last = write_issued_lem g d.sound t.number b (can Read d h r) (in_phase Read d h r) (full Read d h r q) y

  pub read_last_driven : Driven t Write 0 issued_floor
  read_last_driven =
      driven_on (Deliver Read t.number b) _ d read_last refl d.boxes
      (subst (λ (i : ℕ). (station_at issued_floor i).state ≡ Writing t.number) d.owner
      (ap (λ (x : Station). x.state) (owner_stored g d.lengths d.sound t.number _ d.begun)))

  pub read_last_writes : RequestsAt t 0 0 (row_at issued_floor t.number).write
  unfolding issued
  read_last_writes =
      row_stored d (λ w. RequestsAt t 0 0 w.write) (issued (heard_row g Read t.number b) chosen g.n)
      (all_wait t.n _ _ (λ j i. ap (λ (x : Slot). x.stage) (wait_below g.n d.sound.box_most j (rw d.size i))))

-- the q-th answer to the write, all taken: the station decides
module _ {t : Attempt} {g : Floor} {b k : ℕ} (d : Driven t Write (b + 1) g) (h : b < t.n) (r : RequestsSent t b k (row_at g t.number).write) (q : k + 1 ≡ quorum t.n) where
  pub write_decides : all_said Write d h r ≡ true
      → apply_of g (Deliver Write t.number b) ≡ stepped (after_decision g t.number (heard_row g Write t.number b)) (Decided (row_at g t.number).written)
  write_decides = write_decided g d.sound t.number b (can Write d h r) (in_phase Write d h r) (full Write d h r q)
