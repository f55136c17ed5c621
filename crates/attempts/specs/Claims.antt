-- What is claimed of a row: the choice among the answers to its reads, where its requests stand, and what a serve and a delivery leave of it;
-- and in which attempt a station is. The proof is `attempt_claims` in proofs/Claims.
use Rattle.std.specs.Prelude.{ℕ, ◌≤◌, ◌<◌, ◌≡◌, ◌⊎◌, true, false, List, get_or, Option, Some, None}
use Rattle.requests.specs.Requests.{heard_from, standing_of, is_waiting, at_quorum, served_at, received_from}
use Rattle.requests.specs.declared.Phase.{Phase}
use Rattle.requests.specs.declared.Phase.TheVariants.{Read, Write}
use Rattle.requests.specs.declared.Requests.{Requests}
use Rattle.register.specs.Register.{answer0, is_held, rank_in, value_in, rmw_read, takes}
use Rattle.register.specs.declared.Answer.{Answer}
use Rattle.register.specs.declared.Register.{Register}
use Rattle.suits.specs.declared.Suit.{Suit}
use Rattle.attempts.specs.Rows.{unused_row, requests_of, new_row, row_served, register_served, row_heard, best_of, revision_from, issued}
use Rattle.attempts.specs.Stations.{is_gone, is_busy, is_active}
use Rattle.attempts.specs.declared.Row.{Row}
use Rattle.attempts.specs.declared.State.{State}
use Rattle.attempts.specs.declared.State.TheVariants.{Reading, Writing, Decided, Gone}

-- The best answer among the first k boxes of a mask: there is none, or it is the slot of a box b in the mask; no box in it has a
-- higher rank, and of equal rank none has a lower number.
pub data Found (l : List Answer) (m : Requests) (k : ℕ) : Option Answer → Type 0 where
  nothing : ((c : ℕ) → c < k → heard_from m c ≡ false) → Found l m k None
  highest : {b : ℕ} → b < k → heard_from m b ≡ true
      → ((c : ℕ) → c < k → heard_from m c ≡ true → (get_or l c answer0).rank ≤ (get_or l b answer0).rank)
      → ((c : ℕ) → c < b → heard_from m c ≡ true → (get_or l c answer0).rank < (get_or l b answer0).rank)
      → Found l m k (Some (get_or l b answer0))

-- What a step in the phase p of the row w keeps: whose attempt it is, what it offers and writes, and the other phase.
pub record OtherKept (p : Phase) (w z : Row) : Type 0 where
  pub station : z.station ≡ w.station
  pub rank : z.rank ≡ w.rank
  pub offer : z.offer ≡ w.offer
  pub written : z.written ≡ w.written
  pub read : p ≡ Write → z.read ≡ w.read
  pub write : p ≡ Read → z.write ≡ w.write

-- The write of the row is issued, with all else as it was.
pub record WriteIssued (v : Suit) (w z : Row) : Type 0 where
  pub station : z.station ≡ w.station
  pub rank : z.rank ≡ w.rank
  pub offer : z.offer ≡ w.offer
  pub written : z.written ≡ v
  pub read : z.read ≡ w.read

-- "reading, writing or decided": refusal 10
pub data Busy : State → Type 0 where
  reading : {a : ℕ} → Busy (Reading a)
  writing : {a : ℕ} → Busy (Writing a)
  decided : {a : ℕ} → Busy (Decided a)

-- The station is in the attempt a.
pub data InAttempt (a : ℕ) : State → Type 0 where
  reads : InAttempt a (Reading a)
  writes : InAttempt a (Writing a)

pub record AttemptClaims : Type 0 where
  -- "the answer with the highest write rank among the q, of equals the lowest-numbered box's"; at the q-th answer there is one
  pub best : (l : List Answer) (m : Requests) (k : ℕ) → Found l m k (best_of l m k)
  pub some : (l : List Answer) (m : Requests) (n : ℕ) → at_quorum m n ≡ true → is_held (best_of l m n) ≡ true
  -- "If that answer holds nothing, it writes its own offer, otherwise that answer's value", whatever these are. Wish 7 of document 02: it
  -- "holds nothing exactly while its write rank is 0"
  pub revision : (x : Option Answer) (offer : Suit) → ((rank_in x ≡ 0) × (revision_from x offer ≡ offer)) ⊎ ((0 < rank_in x) × (revision_from x offer ≡ value_in x))
  -- "a read request waiting at every box"; "The write .. waits at every box"
  pub reads_wait : (n s round b : ℕ) (v : Suit) → n ≤ 9 → b < n → is_waiting (standing_of (new_row n s round v).read b) ≡ true
  pub writes_wait : (w : Row) (v : Suit) (n b : ℕ) → n ≤ 9 → b < n → is_waiting (standing_of (issued w v n).write b) ≡ true
  -- "the routine runs and its answer is on the way", in that phase; a write that is taken leaves the attempt's own rank and what it writes
  pub served_keeps : (p : Phase) (w : Row) (x : Register) (b : ℕ) → OtherKept p w (row_served p w x b)
  pub served_read : (w : Row) (x : Register) (b : ℕ) → (row_served Read w x b).read ≡ served_at w.read b (is_held (rmw_read x w.rank).answer)
  pub served_write : (w : Row) (x : Register) (b : ℕ) → (row_served Write w x b).write ≡ served_at w.write b (takes x w.rank)
  pub stored : (w : Row) (x : Register) → takes x w.rank ≡ true → register_served Write w x ≡ record { read = x.read; write = w.rank; value = w.written }
  -- "it becomes received"
  pub heard_keeps : (p : Phase) (w : Row) (b : ℕ) → OtherKept p w (row_heard p w b)
  pub heard : (p : Phase) (w : Row) (b : ℕ) → requests_of p (row_heard p w b) ≡ received_from (requests_of p w) b
  -- "The write carries the attempt's own rank"
  pub issues : (w : Row) (v : Suit) (n : ℕ) → WriteIssued v w (issued w v n)
  -- "places not in use are 0"
  pub unused : (unused_row.station ≡ 0) × (unused_row.rank ≡ 0)
  -- wish 5: a station is in an attempt exactly where it "reads or writes in it"
  pub active : (st : State) (a : ℕ) → is_active st a ≡ true → InAttempt a st
  pub active_holds : (st : State) (a : ℕ) → InAttempt a st → is_active st a ≡ true
  -- a station that is gone is nothing else, and one that is busy neither idle nor gone
  pub gone : (st : State) → is_gone st ≡ true → st ≡ Gone
  pub busy : (st : State) → is_busy st ≡ true → Busy st
