-- A floor without its arrays: boxes, rows and stations as functions of their numbers, over any type A of values and any type O of offers, and
-- what one step does to it, and says. These are Figures 1 to 4 of the paper (document 003), one event of a process or of a box at a time. A floor
-- of document 01 or 02 shows that each of its steps is one of these.
use Rattle.std.specs.Prelude.{ℕ, ◌≤◌, ◌<◌, ◌≡◌, ◌⊎◌, Bool, true, false}
use Rattle.base.specs.Numbers.{rank_of}
use Rattle.base.specs.Quorum.{Majority}
use Rattle.requests.specs.declared.Phase.{Phase}
use Rattle.requests.specs.declared.Phase.TheVariants.{Read, Write}
use Rattle.requests.specs.declared.Slot.{Slot}
use Rattle.requests.specs.declared.Stage.TheVariants.{Unissued, Waiting, Answered}
use Rattle.requests.specs.Requests.{of_phase}
use Rattle.protocol.specs.Trace.{Box, read_box, write_box, Edit}

-- One phase of an attempt at every box, rr-read or rr-write of Figure 4: where its request stands, with its answer, and whether that was
-- received, which makes it one of S1 or S2.
pub record Asked : Type 0 where
  pub slot : ℕ → Slot
  pub heard : ℕ → Bool

-- what a box answered to a read: "return ⟨x.wR, x.val⟩" of Figure 3
pub record Found (A : Type 0) : Type 0 where
  pub rank : ℕ
  pub value : A

-- The row of an attempt (a ballot of Paxos), with what its process holds in Figures 1 and 4: inp.rank, inp.value, the value of its rr-write,
-- and S1 with its answers and S2.
pub record Row (A O : Type 0) : Type 0 where
  pub station : ℕ
  pub rank : ℕ
  pub offer : O
  pub written : A
  pub read : Asked
  pub found : ℕ → Found A
  pub write : Asked

-- where a station, the paper's process, is: in no attempt, or in rr-read or rr-write of that of a row
pub data Seat : Type 0 where
  none : Seat
  reading : ℕ → Seat
  writing : ℕ → Seat

-- with the round of its last attempt
pub record Station : Type 0 where
  pub seat : Seat
  pub last : ℕ

pub record Machine (A O : Type 0) : Type 1 where
  pub box : ℕ → Box A
  -- the row is in use
  pub Used : ℕ → Type 0
  pub row : ℕ → Row A O
  pub station : ℕ → Station

-- What a step says. A floor with two departments is two machines; a step of the one is quiet in the other.
pub data Label (A O : Type 0) : Type 0 where
  began : (s round : ℕ) (o : O) (a : ℕ) → Label A O
  -- the read or the write of the row a is served at the box b; a read is answered or told that it is outranked, a write is taken or not
  served : (p : Phase) (a b : ℕ) (ok : Bool) → Label A O
  -- the answer of the box b is received
  heard : (p : Phase) (a b : ℕ) → Label A O
  issued : (a b : ℕ) (v : A) → Label A O
  decided : (a b : ℕ) (v : A) → Label A O
  aborted : (p : Phase) (a b : ℕ) → Label A O
  left : (s : ℕ) → Label A O
  quiet : Label A O

-- the requests of a phase: none issued, all waiting, one served, one received
pub record Served (b : ℕ) (ok : Bool) (q h : Asked) : Type 0 where
  pub slot : (j : ℕ) → Edit q.slot h.slot b (λ _. record { stage = Answered; ok = ok }) j
  pub heard : (j : ℕ) → h.heard j ≡ q.heard j

pub record Heard (b : ℕ) (q h : Asked) : Type 0 where
  pub slot : (j : ℕ) → h.slot j ≡ q.slot j
  pub heard : (j : ℕ) → h.heard j ≡ true → (j ≡ b) ⊎ (q.heard j ≡ true)

pub record Unasked (q : Asked) : Type 0 where
  pub slot : (j : ℕ) → (q.slot j).stage ≡ Unissued
  pub heard : (j : ℕ) → q.heard j ≡ false

-- none of it is answered yet
pub record Fresh (q : Asked) : Type 0 where
  pub slot : (j : ℕ) → ¬ ((q.slot j).stage ≡ Answered)
  pub heard : (j : ℕ) → q.heard j ≡ false

-- Figure 4: ⌈(n + 1) / 2⌉ answers at least are received, and none of them says no: no read is outranked (wish 2), no write is refused
pub record Agreed (n : ℕ) (q : Asked) : Type 0 where
  pub majority : Majority n (λ b. (b < n) × (q.heard b ≡ true))
  pub yes : (b : ℕ) → b < n → q.heard b ≡ true → (q.slot b).ok ≡ true

-- one of the answers received says no: of writes Figure 4's "abort ∈ S2", of reads one that is outranked (wish 2)
pub record Denied (n : ℕ) (q : Asked) : Type 0 where
  pub box : ℕ
  pub below : box < n
  pub heard : q.heard box ≡ true
  pub no : (q.slot box).ok ≡ false

module _ {A O : Type 0} where
  abbrev pub asked_of : Phase → Row A O → Asked
  asked_of p w = of_phase p w.read w.write

  -- the same attempt
  pub record Same (w z : Row A O) : Type 0 where
    pub station : z.station ≡ w.station
    pub rank : z.rank ≡ w.rank
    pub offer : z.offer ≡ w.offer

  -- What a step makes of a row.
  pub record Opened (s round : ℕ) (o : O) (z : Row A O) : Type 0 where
    pub station : z.station ≡ s
    pub rank : z.rank ≡ rank_of round s
    pub offer : z.offer ≡ o
    pub read : Fresh z.read
    pub write : Unasked z.write

  pub record ReadServed (b : ℕ) (ok : Bool) (x : Box A) (w z : Row A O) : Type 0 where
    pub same : Same w z
    pub written : z.written ≡ w.written
    pub read : Served b ok w.read z.read
    pub found : (j : ℕ) → Edit (λ i. w.found i) (λ i. z.found i) b (λ y. z.found b) j
    pub answer : ok ≡ true → ((z.found b).rank ≡ x.write_rank) × ((z.found b).value ≡ x.value)
    pub write : z.write ≡ w.write

  pub record WriteServed (b : ℕ) (ok : Bool) (w z : Row A O) : Type 0 where
    pub same : Same w z
    pub written : z.written ≡ w.written
    pub read : z.read ≡ w.read
    pub found : (j : ℕ) → z.found j ≡ w.found j
    pub write : Served b ok w.write z.write

  pub record ReadHeard (b : ℕ) (w z : Row A O) : Type 0 where
    pub same : Same w z
    pub written : z.written ≡ w.written
    pub read : Heard b w.read z.read
    pub found : (j : ℕ) → z.found j ≡ w.found j
    pub write : z.write ≡ w.write

  pub record WriteHeard (b : ℕ) (w z : Row A O) : Type 0 where
    pub same : Same w z
    pub written : z.written ≡ w.written
    pub read : z.read ≡ w.read
    pub found : (j : ℕ) → z.found j ≡ w.found j
    pub write : Heard b w.write z.write

  -- the last answer of its reads is received, and its write is issued
  pub record Issued (b : ℕ) (v : A) (w z : Row A O) : Type 0 where
    pub same : Same w z
    pub written : z.written ≡ v
    pub read : Heard b w.read z.read
    pub found : (j : ℕ) → z.found j ≡ w.found j
    pub write : Fresh z.write

  abbrev pub HeardIn : Phase → ℕ → Row A O → Row A O → Type 0
  HeardIn Read b w z = ReadHeard b w z
  HeardIn Write b w z = WriteHeard b w z

  -- What a step leaves alone, and where it stores.
  module _ (x y : Machine A O) where
    abbrev pub SameBoxes : Type 0
    SameBoxes = (j : ℕ) → y.box j ≡ x.box j

    abbrev pub SameStations : Type 0
    SameStations = (j : ℕ) → y.station j ≡ x.station j

    pub record SameRows : Type 0 where
      pub used : (j : ℕ) → y.Used j → x.Used j
      pub still : (j : ℕ) → x.Used j → y.Used j
      pub same : (j : ℕ) → y.Used j → y.row j ≡ x.row j

    -- the row a, which is in use, becomes another by C; the others stay
    pub record RowMoved (a : ℕ) (C : Row A O → Row A O → Type 0) : Type 0 where
      pub mine : x.Used a
      pub used : (j : ℕ) → y.Used j → x.Used j
      pub still : (j : ℕ) → x.Used j → y.Used j
      pub moved : C (x.row a) (y.row a)
      pub same : (j : ℕ) → ¬ (j ≡ a) → y.row j ≡ x.row j

    -- the row a is taken; it was not in use, or no station was in it (wish 5, "over")
    pub record RowTaken (a : ℕ) (C : Row A O → Type 0) : Type 0 where
      pub over : x.Used a → (¬ ((x.station (x.row a).station).seat ≡ reading a)) × (¬ ((x.station (x.row a).station).seat ≡ writing a))
      pub used : (j : ℕ) → y.Used j → ¬ (j ≡ a) → x.Used j
      pub still : (j : ℕ) → x.Used j → y.Used j
      pub mine : y.Used a
      pub taken : C (y.row a)
      pub same : (j : ℕ) → ¬ (j ≡ a) → y.row j ≡ x.row j

    -- the station s gets another seat
    abbrev pub Sits : ℕ → Seat → Type 0
    Sits s t = (j : ℕ) → Edit x.station y.station s (λ z. record { seat = t; last = z.last }) j

  -- the highest answer received: what rr-read of Figure 4 returns
  pub record Highest (n : ℕ) (z : Row A O) (u : Found A) : Type 0 where
    pub box : ℕ
    pub below : box < n
    pub heard : z.read.heard box ≡ true
    pub is : z.found box ≡ u
    pub top : (j : ℕ) → j < n → z.read.heard j ≡ true → (z.found j).rank ≤ u.rank

  -- One step. Makes o w u v (specs/Rules): where its reads returned (w, u), an attempt with the offer o may write v.
  module _ (n : ℕ) (Makes : O → ℕ → A → A → Type 0) where
    pub data Step (x y : Machine A O) : Label A O → Type 0 where
      -- DECIDE is called (Figure 1) with a rank of its own (Definition 1): rr-read is invoked at every box (Figure 4), Lamport's Phase1a
      begin : {s round a : ℕ} {o : O} → SameBoxes x y → s < 16 → (x.station s).seat ≡ none → (x.station s).last < round
          → RowTaken x y a (Opened s round o)
          → ((j : ℕ) → Edit x.station y.station s (λ _. record { seat = reading a; last = round }) j)
          → Step x y (began s round o a)
      -- rmw-read of Figure 3, Phase1b
      answer : {a b : ℕ} → ((j : ℕ) → Edit x.box y.box b (read_box (x.row a).rank) j)
          → RowMoved x y a (ReadServed b true (x.box b)) → SameStations x y → Step x y (served Read a b true)
      -- the early answer of wish 2: a read below a rank of the box is told so, a nack
      tell : {a b : ℕ} → ((x.row a).rank < (x.box b).read_rank) ⊎ ((x.row a).rank < (x.box b).write_rank) → SameBoxes x y
          → RowMoved x y a (ReadServed b false (x.box b)) → SameStations x y → Step x y (served Read a b false)
      -- rmw-write of Figure 3 where it returns ack, Phase2b
      take : {a b : ℕ} → ((x.row a).write.slot b).stage ≡ Waiting → (x.box b).read_rank ≤ (x.row a).rank → (x.box b).write_rank < (x.row a).rank
          → ((j : ℕ) → Edit x.box y.box b (write_box (x.row a).rank (x.row a).written) j)
          → RowMoved x y a (WriteServed b true) → SameStations x y → Step x y (served Write a b true)
      -- rmw-write of Figure 3 where it returns nak
      refuse : {a b : ℕ} → ((x.row a).write.slot b).stage ≡ Waiting → ((x.row a).rank < (x.box b).read_rank) ⊎ ((x.row a).rank ≤ (x.box b).write_rank) → SameBoxes x y
          → RowMoved x y a (WriteServed b false) → SameStations x y → Step x y (served Write a b false)
      -- an answer joins S1 or S2 of Figure 4, without an effect on its station
      hear : {p : Phase} {a b : ℕ} → ((asked_of p (x.row a)).slot b).stage ≡ Answered → SameBoxes x y
          → RowMoved x y a (HeardIn p b) → SameStations x y → Step x y (heard p a b)
      -- rr-read returns, and rr-write is invoked at every box with what the rule makes (Figure 1, or Figure 2), Phase2a
      issue : {a b : ℕ} {v : A} {u : Found A} → ((x.row a).read.slot b).stage ≡ Answered → SameBoxes x y
          → (x.station (x.row a).station).seat ≡ reading a → RowMoved x y a (Issued b v)
          → Agreed n (y.row a).read → Highest n (y.row a) u → Makes (x.row a).offer u.rank u.value v
          → Sits x y (x.row a).station (writing a) → Step x y (issued a b v)
      -- rr-write returns commit, and Figure 1 sets "decision ← V"
      decide : {a b : ℕ} → ((x.row a).write.slot b).stage ≡ Answered → SameBoxes x y
          → (x.station (x.row a).station).seat ≡ writing a → RowMoved x y a (WriteHeard b)
          → Agreed n (y.row a).write → Sits x y (x.row a).station none → Step x y (decided a b (x.row a).written)
      -- rr-write, or with wish 2 rr-read, returns abort
      abort : {p : Phase} {a b : ℕ} → ((asked_of p (x.row a)).slot b).stage ≡ Answered → SameBoxes x y → RowMoved x y a (HeardIn p b)
          → Denied n (asked_of p (y.row a)) → Sits x y (x.row a).station none → Step x y (aborted p a b)
      -- a process stops
      leave : {s : ℕ} → SameBoxes x y → SameRows x y → Sits x y s none → Step x y (left s)
      -- nothing of this: a refused step, a box put away or brought back, a step of another department
      rest : SameBoxes x y → SameRows x y → SameStations x y → Step x y quiet
