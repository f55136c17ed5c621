-- What each thing said means.
use Rattle.std.specs.Prelude.{ℕ, ◌≡◌, true, false}
use Rattle.suits.specs.declared.Suit.{Suit}
use Rattle.requests.specs.Requests.{at_quorum, all_yes}
use Rattle.requests.specs.declared.Phase.{Phase}
use Rattle.requests.specs.declared.Phase.TheVariants.{Read, Write}
use Rattle.commands.specs.declared.Command.{Command}
use Rattle.commands.specs.declared.Command.TheVariants.{Begin, Serve, Deliver, Stop, Leave, Return}
use Rattle.commands.specs.declared.Outcome.{Outcome}
use Rattle.commands.specs.declared.Outcome.TheVariants.{Begun, Served, Received, Aborted, WriteIssued, Decided, Stopped, Gone, Back, Refused}
use Rattle.attempts.specs.Stations.{is_reading, is_writing, is_in}
use Rattle.attempts.specs.Rows.{revision_of, requests_heard}
use Rattle.floor.specs.Floors.{row_at, owner_at}
use Rattle.floor.specs.Effects.{row_taken, after_begin, after_serve, heard_row, received_on, after_issue, after_decision, after_abort, after_stop, after_return, after_leave}
use Rattle.floor.specs.declared.Floor.{Floor}
use Rattle.floor.specs.Soundness.{Sound}
use Rattle.floor.specs.Tests.{CanBegin, CanServe, CanDeliver, CanStop, CanLeave, CanReturn, TurnedBack}

-- What each thing said means: the step with the command c led from the floor f to the floor g and said it. Of which command it came, which
-- tests that passed, and to which floor it led, by Effects.
module _ (f : Floor) (c : Command) (g : Floor) where
  pub record BegunBy (a : ℕ) : Type 0 where
    pub station : ℕ
    pub round : ℕ
    pub offer : Suit
    pub command : c ≡ Begin station round offer
    pub sound : Sound f
    pub may : CanBegin f station round
    pub next : a ≡ row_taken f station
    pub floor : g ≡ after_begin f station round offer

  pub record ServedBy (a : ℕ) : Type 0 where
    pub phase : Phase
    pub box : ℕ
    pub command : c ≡ Serve phase a box
    pub sound : Sound f
    pub may : CanServe f phase a box
    pub floor : g ≡ after_serve f phase a box

  pub record ReceivedBy (a : ℕ) : Type 0 where
    pub phase : Phase
    pub box : ℕ
    pub command : c ≡ Deliver phase a box
    pub sound : Sound f
    pub may : CanDeliver f phase a box
    pub floor : g ≡ (received_on f phase a box).floor

  pub record IssuedBy (v : Suit) : Type 0 where
    pub attempt : ℕ
    pub box : ℕ
    pub command : c ≡ Deliver Read attempt box
    pub sound : Sound f
    pub may : CanDeliver f Read attempt box
    pub reading : is_reading (owner_at f attempt).state attempt ≡ true
    pub quorum : at_quorum (heard_row f Read attempt box).read f.n ≡ true
    pub answered : all_yes (heard_row f Read attempt box).read f.n ≡ true
    pub revision : v ≡ revision_of (heard_row f Read attempt box) f.n
    pub floor : g ≡ after_issue f attempt (heard_row f Read attempt box) v

  -- the q-th write answer of the attempt a, from the box b, reaches its station, which writes
  pub record LastAnswer (a b : ℕ) : Type 0 where
    pub command : c ≡ Deliver Write a b
    pub sound : Sound f
    pub may : CanDeliver f Write a b
    pub writing : is_writing (owner_at f a).state a ≡ true
    pub quorum : at_quorum (heard_row f Write a b).write f.n ≡ true

  pub record DecidedBy (v : Suit) : Type 0 where
    pub attempt : ℕ
    pub box : ℕ
    pub answer : LastAnswer attempt box
    pub taken : all_yes (heard_row f Write attempt box).write f.n ≡ true
    pub written : v ≡ (row_at f attempt).written
    pub floor : g ≡ after_decision f attempt (heard_row f Write attempt box)

  -- an answer received says no: to a read "outranked", to a write, with the q-th answer, "not taken"
  pub record AbortedBy (a : ℕ) : Type 0 where
    pub phase : Phase
    pub box : ℕ
    pub command : c ≡ Deliver phase a box
    pub sound : Sound f
    pub may : CanDeliver f phase a box
    pub current : is_in phase (owner_at f a).state a ≡ true
    pub no : all_yes (requests_heard phase (row_at f a) box) f.n ≡ false
    pub quorum : phase ≡ Write → at_quorum (requests_heard phase (row_at f a) box) f.n ≡ true
    pub floor : g ≡ after_abort f a (heard_row f phase a box)

  pub record StoppedBy (b : ℕ) : Type 0 where
    pub command : c ≡ Stop b
    pub sound : Sound f
    pub may : CanStop f b
    pub floor : g ≡ after_stop f b

  pub record GoneBy (s : ℕ) : Type 0 where
    pub command : c ≡ Leave s
    pub sound : Sound f
    pub may : CanLeave f s
    pub floor : g ≡ after_leave f s

  pub record BackBy (b : ℕ) : Type 0 where
    pub command : c ≡ Return b
    pub sound : Sound f
    pub may : CanReturn f b
    pub floor : g ≡ after_return f b

  pub record RefusedBy (k : ℕ) : Type 0 where
    pub cause : TurnedBack f c k
    pub floor : g ≡ f

  abbrev pub Meaning : (o : Outcome) → Type 0
  Meaning (Begun a) = BegunBy a
  Meaning (Served a) = ServedBy a
  Meaning (Received a) = ReceivedBy a
  Meaning (Aborted a) = AbortedBy a
  Meaning (WriteIssued v) = IssuedBy v
  Meaning (Decided v) = DecidedBy v
  Meaning (Stopped b) = StoppedBy b
  Meaning (Gone s) = GoneBy s
  Meaning (Back b) = BackBy b
  Meaning (Refused k) = RefusedBy k
