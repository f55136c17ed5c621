-- The words of demand 3, and those of wishes 5, 6 and 8 of document 02 that its premises use. Document 01, "The list of demand 3": "Its words are
-- read off the records and off what accepted steps said". They speak of a trace and of no floor, so that each floor's claim can use them. A
-- step is named by its position in the list, from 0, and earlier is `<`.
use Rattle.std.specs.Prelude.{ℕ, ◌≤◌, ◌<◌, ◌+◌, suc, ◌≡◌, Bool, false, None, Option, Some}
use Rattle.suits.specs.declared.Suit.{Suit}
use Rattle.base.specs.Positions.{Before}
use Rattle.base.specs.Numbers.{rank_of}
use Rattle.base.specs.Quorum.{count}
use Rattle.register.specs.Register.{is_of}
use Rattle.register.specs.declared.Department.{Department}
use Rattle.attempts.specs.Rows.{row_department}
use Rattle.requests.specs.declared.Phase.{Phase}
use Rattle.requests.specs.declared.Phase.TheVariants.{Read, Write}
use Rattle.commands.specs.Outcomes.{is_refused}
use Rattle.commands.specs.declared.Outcome.{Outcome}
use Rattle.commands.specs.declared.Command.TheVariants.{Begin, Serve, Deliver}
use Rattle.commands.specs.declared.Outcome.TheVariants as said
use Rattle.commands.specs.declared.Command.{Command}

-- A run as it is read: how many boxes there are, and of the step at each position what was asked and what it said.
pub record Trace : Type 0 where
  pub boxes : ℕ
  pub asked : ℕ → Command
  pub said : ℕ → Outcome

-- the step said that an attempt of the department was begun
abbrev pub begun_in : (d : Department) (o : Outcome) → Bool
begun_in d (said.Begun a) = is_of d (row_department a)
begun_in d (said.Served a) = false
begun_in d (said.Received a) = false
begun_in d (said.Aborted a) = false
begun_in d (said.WriteIssued v) = false
begun_in d (said.Decided v) = false
begun_in d (said.Stopped b) = false
begun_in d (said.Gone s) = false
begun_in d (said.Back b) = false
begun_in d (said.Refused k) = false

module _ (t : Trace) where
  -- "An attempt is an accepted begin, with that step's station and rank; its revision is the offer." (A ballot of Paxos.) The
  -- begin says the number by which later steps name the attempt.
  pub record Attempt : Type 0 where
    pub at : ℕ
    pub station : ℕ
    pub round : ℕ
    pub offer : Suit
    pub number : ℕ
    pub asked : t.asked at ≡ Begin station round offer
    pub begun : t.said at ≡ said.Begun number

  abbrev pub attempt_rank : (x : Attempt) → ℕ
  attempt_rank x = rank_of x.round x.station

  -- Wish 6 of document 02: "Sails own rows 0 to 63 and canvas 64 to 127". The department of an attempt is that of its number.
  abbrev pub attempt_department : (x : Attempt) → Department
  attempt_department x = row_department x.number

  -- its number names the attempt x at the position i: its begin is the last before i that said this number
  pub record Named (x : Attempt) (i : ℕ) : Type 0 where
    pub earlier : x.at < i
    pub last : (k : ℕ) → x.at < k → k < i → ¬ (t.said k ≡ said.Begun x.number)

  -- a revision is offered by the attempt that begins with it, in its department
  pub record OfferedAt (d : Department) (v : Suit) (i : ℕ) : Type 0 where
    pub attempt : Attempt
    pub of : attempt_department attempt ≡ d
    pub begun : attempt.at ≡ i
    pub offer : attempt.offer ≡ v

  -- the read or the write of the attempt x is served at the box b, and its answer from there is delivered
  pub record ServesAt (x : Attempt) (phase : Phase) (b i : ℕ) : Type 0 where
    pub named : Named x i
    pub asked : t.asked i ≡ Serve phase x.number b
    pub accepted : t.said i ≡ said.Served x.number

  pub record DeliversAt (x : Attempt) (phase : Phase) (b i : ℕ) : Type 0 where
    pub named : Named x i
    pub asked : t.asked i ≡ Deliver phase x.number b
    pub accepted : is_refused (t.said i) ≡ false

  -- "A rank is served at a box by an accepted serve, read or write, of its attempt there." Wish 6: "A serve or delivery belongs to its row's
  -- department".
  pub record ServedAt (d : Department) (r b i : ℕ) : Type 0 where
    pub attempt : Attempt
    pub of : attempt_department attempt ≡ d
    pub rank : attempt_rank attempt ≡ r
    pub phase : Phase
    pub serves : ServesAt attempt phase b i

  -- the delivery at i, of an answer to a read or a write of the attempt of that number, says o
  pub record SaysAt (number : ℕ) (o : Outcome) (i : ℕ) : Type 0 where
    pub phase : Phase
    pub box : ℕ
    pub asked : t.asked i ≡ Deliver phase number box
    pub said : t.said i ≡ o

  -- what comes of the attempt x
  pub record ComesTo (x : Attempt) (o : Outcome) (i : ℕ) : Type 0 where
    pub named : Named x i
    pub says : SaysAt x.number o i

  -- its write is issued with the revision v
  abbrev pub IssuesAt : (x : Attempt) (v : Suit) (i : ℕ) → Type 0
  IssuesAt x v i = ComesTo x (said.WriteIssued v) i

  -- "An attempt's station decides, or the attempt aborts, at the delivery that says so", wish 2 of document 02: of a read answer too
  abbrev pub AbortsAt : (x : Attempt) (i : ℕ) → Type 0
  AbortsAt x i = ComesTo x (said.Aborted x.number) i

  -- a revision is decided by the attempt x,
  abbrev pub DecidesBy : (x : Attempt) (v : Suit) (i : ℕ) → Type 0
  DecidesBy x v i = ComesTo x (said.Decided v) i

  -- by the station s,
  pub record DecidesAt (s : ℕ) (v : Suit) (i : ℕ) : Type 0 where
    pub attempt : Attempt
    pub station : attempt.station ≡ s
    pub by : DecidesBy attempt v i

  -- in the department d
  pub record DecidedIn (d : Department) (v : Suit) (i : ℕ) : Type 0 where
    pub number : ℕ
    pub of : row_department number ≡ d
    pub says : SaysAt number (said.Decided v) i

  -- "before each abort a rank higher than the aborted one was served at a box", a rank of its department: the abort at i
  pub record OutrankedAt (i : ℕ) : Type 0 where
    pub attempt : Attempt
    pub aborts : AbortsAt attempt i
    pub rank : ℕ
    pub box : ℕ
    pub higher : attempt_rank attempt < rank
    pub served : Before (ServedAt (attempt_department attempt) rank box) i

  -- "The decided revision that the floor shows for a station is the one so said, and none only where none was said." The floor before the step at
  -- i shows x for the station s.
  pub record ShownAt (x : Option Suit) (s i : ℕ) : Type 0 where
    pub decided : (v : Suit) → x ≡ Some v → Before (DecidesAt s v) i
    pub none : x ≡ None → (v : Suit) → ¬ Before (DecidesAt s v) i

  -- What a solo finish is given, before the step at i. The accepted step at k put the box b away, and it is the last before i that did.
  pub record LastAway (b k i : ℕ) : Type 0 where
    pub earlier : k < i
    pub put : t.said k ≡ said.Stopped b
    pub last : (j : ℕ) → k < j → j < i → ¬ (t.said j ≡ said.Stopped b)

  -- "A box answers if no accepted step stopped it." Wish 8 of document 02: "kind 9 brings it back", and ""Answering" means not away". A box
  -- answers if no accepted step put it away, or one brought it back after the last that did.
  pub data Answering (i b : ℕ) : Type 0 where
    never : ¬ Before (λ k. t.said k ≡ said.Stopped b) i → Answering i b
    returned : (k j : ℕ) → LastAway b k i → k < j → j < i → t.said j ≡ said.Back b → Answering i b

  -- "A station is idle if it is not gone, never decided, and all its attempts, if any, aborted."
  pub record IdleAt (s i : ℕ) : Type 0 where
    pub here : ¬ Before (λ k. t.said k ≡ said.Gone s) i
    pub undecided : (v : Suit) → ¬ Before (DecidesAt s v) i
    pub aborted : (x : Attempt) → x.at < i → x.station ≡ s → Before (AbortsAt x) i

  -- how many attempts of the department were begun before the step at i
  abbrev pub attempts_before : (d : Department) (i : ℕ) → ℕ
  attempts_before d i = count (λ k. begun_in d (t.said k)) i

  -- Wish 5 of document 02, before the step at i. "An attempt is over when its station no longer reads or writes in it: decided, aborted or gone."
  pub data OverAt (x : Attempt) (i : ℕ) : Type 0 where
    decided : {v : Suit} → Before (DecidesBy x v) i → OverAt x i
    aborted : Before (AbortsAt x) i → OverAt x i
    gone : Before (λ k. t.said k ≡ said.Gone x.station) i → OverAt x i

  -- "Its row is free once it is over and its issued requests are served": its read, and its write if one was issued. Wish 8: "Rows are now
  -- free only when served at every box, away or not."
  pub record FreedAt (x : Attempt) (i : ℕ) : Type 0 where
    pub over : OverAt x i
    pub reads : (b : ℕ) → b < t.boxes → Before (ServesAt x Read b) i
    pub writes : (v : Suit) → Before (IssuesAt x v) i → (b : ℕ) → b < t.boxes → Before (ServesAt x Write b) i

  -- the number a means an attempt whose row is free
  pub record FreeAt (a i : ℕ) : Type 0 where
    pub attempt : Attempt
    pub number : attempt.number ≡ a
    pub named : Named attempt i
    pub freed : FreedAt attempt i

  -- "the solo finish asks for an unused or free row", in its department
  pub data RowLeft (d : Department) (i : ℕ) : Type 0 where
    unused : attempts_before d i < 64 → RowLeft d i
    free : (a : ℕ) → row_department a ≡ d → FreeAt a i → RowLeft d i

  -- "a round left that outranks every attempt begun", by the station s. Wish 6: "the solo finish outranks its own only"
  pub record RoundLeft (d : Department) (s i : ℕ) : Type 0 where
    pub round : ℕ
    pub least : 1 ≤ round
    pub most : round ≤ 65535
    pub outranks : (x : Attempt) → x.at < i → attempt_department x ≡ d → attempt_rank x < rank_of round s

  -- "Driven alone .. with any revision": the k steps from the position i on are the begin of the station s with the revision v and what follows
  -- it; each is accepted, and "the last of them says decided"
  pub record AloneAt (s : ℕ) (v : Suit) (k i : ℕ) : Type 0 where
    pub round : ℕ
    pub begins : t.asked i ≡ Begin s round v
    pub accepted : (j : ℕ) → j < k → is_refused (t.said (i + j)) ≡ false
    pub revision : Suit
    pub decides : (j : ℕ) → suc j ≡ k → DecidesAt s revision (i + j)
