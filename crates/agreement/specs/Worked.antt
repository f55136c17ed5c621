-- Document 01's examples I and J, a read that is outranked, a row that is free, two departments, a withdrawal, and boxes that come back, in
-- the words of demand 3, so that the claim is not about nothing. The proof is `worked` in proofs/Worked.
use Rattle.std.specs.Prelude.{ℕ, zero, suc, ◌<◌, ◌≡◌, List, [], ◌∷◌, length, None, Some}
use Rattle.suits.specs.Suits as suits
use Rattle.suits.specs.Suits.{FourBytes}
use Rattle.suits.specs.declared.Suit.{Suit}
use Rattle.requests.specs.declared.Phase.TheVariants.{Read, Write}
use Rattle.commands.specs.Commands.{encode_of}
use Rattle.commands.specs.declared.Command.TheVariants.{Begin, Serve, Deliver, Stop, Return}
use Rattle.commands.specs.declared.Outcome.TheVariants as said
use Rattle.register.specs.declared.Department.{Department}
use Rattle.register.specs.declared.Department.TheVariants.{Sails, Canvas}
use Rattle.floor.specs.Floors.{register_at}
use Rattle.floor.specs.Runs.{floor_left, said_at}
use Rattle.floor.specs.declared.Floor.{Floor}
use Rattle.solo.specs.Solo.{solo_of}
use Rattle.floor.specs.Runs.{command_at}
use Rattle.agreement.specs.Words.{ServedAt, DecidesAt, OutrankedAt, Answering, IdleAt, FreeAt, attempts_before}
use Rattle.agreement.specs.Demand.{shown_at, DrivenAlone, trace_of}
use Rattle.floor.specs.Floors.{first_floor}
use Rattle.agreement.specs.ComeBack.{AwayFrom}

-- "I: n = 3. Attempt 0 (rank 16, 7) has read at boxes 0 and 1. Attempt 1 (rank 17, 9) reads and writes at 1 and 2 and decides 9.
-- Attempt 0's write is taken at 0, not at 1: it aborts. Its write at 2, served after that, is not taken." Behind it, two records
-- that are refused: one of no kind, and a begin of the station that decided.
abbrev pub example_i : List (List ℕ)
example_i =
    encode_of (Begin 0 1 (suits.single 7)) ∷ encode_of (Serve Read 0 0) ∷ encode_of (Deliver Read 0 0) ∷ encode_of (Serve Read 0 1) ∷ encode_of (Deliver Read 0 1)
    ∷ encode_of (Begin 1 1 (suits.single 9)) ∷ encode_of (Serve Read 1 1) ∷ encode_of (Deliver Read 1 1) ∷ encode_of (Serve Read 1 2) ∷ encode_of (Deliver Read 1 2)
    ∷ encode_of (Serve Write 1 1) ∷ encode_of (Deliver Write 1 1) ∷ encode_of (Serve Write 1 2) ∷ encode_of (Deliver Write 1 2)
    ∷ encode_of (Serve Write 0 0) ∷ encode_of (Deliver Write 0 0) ∷ encode_of (Serve Write 0 1) ∷ encode_of (Deliver Write 0 1) ∷ encode_of (Serve Write 0 2)
    ∷ (10 ∷ 255 ∷ []) ∷ encode_of (Begin 1 2 (suits.single 5)) ∷ []

-- "J: solo on a new floor of 5: 13 steps; with 2 stopped, 13"
abbrev pub stops : List (List ℕ)
stops = encode_of (Stop 0) ∷ encode_of (Stop 1) ∷ []

-- Wish 2 of document 02: attempt 1 (rank 17, 9) has read at box 0, and attempt 0 (rank 16, 7) reads there after it.
abbrev pub outranked_read : List (List ℕ)
outranked_read =
    encode_of (Begin 0 1 (suits.single 7)) ∷ encode_of (Begin 1 1 (suits.single 9)) ∷ encode_of (Serve Read 1 0) ∷ encode_of (Serve Read 0 0) ∷ encode_of (Deliver Read 0 0) ∷ []

-- Wish 5: an attempt on one box that decides, with nothing of it waiting then.
abbrev pub single : List (List ℕ)
single = encode_of (Begin 0 1 (suits.single 7)) ∷ encode_of (Serve Read 0 0) ∷ encode_of (Deliver Read 0 0) ∷ encode_of (Serve Write 0 0) ∷ encode_of (Deliver Write 0 0) ∷ []

-- Wish 6: a sails and a canvas station on one box, with equal rounds; their attempts are 0 and 64.
abbrev pub both : List (List ℕ)
both =
    encode_of (Begin 0 1 (suits.single 7)) ∷ encode_of (Begin 1 1 (suits.single 9)) ∷ encode_of (Serve Read 0 0) ∷ encode_of (Serve Read 64 0) ∷ encode_of (Deliver Read 0 0) ∷ encode_of (Deliver Read 64 0)
    ∷ encode_of (Serve Write 64 0) ∷ encode_of (Serve Write 0 0) ∷ encode_of (Deliver Write 0 0) ∷ encode_of (Deliver Write 64 0) ∷ []

abbrev pub two : Floor
two = first_floor 1 2 (0 ∷ 1 ∷ [])

-- Wish 7: station 0 offers revision 0, "do not cut", and decides it; station 1 offers 9, finds it, and decides it too. Behind it, a begin of
-- the station that decided first.
abbrev pub withdrawn : List (List ℕ)
withdrawn =
    encode_of (Begin 0 1 (suits.single 0)) ∷ encode_of (Serve Read 0 0) ∷ encode_of (Deliver Read 0 0) ∷ encode_of (Serve Write 0 0) ∷ encode_of (Deliver Write 0 0)
    ∷ encode_of (Begin 1 1 (suits.single 9)) ∷ encode_of (Serve Read 1 0) ∷ encode_of (Deliver Read 1 0) ∷ encode_of (Serve Write 1 0) ∷ encode_of (Deliver Write 1 0)
    ∷ encode_of (Begin 0 2 (suits.single 5)) ∷ []

abbrev pub pair : Floor
pair = first_floor 1 2 (0 ∷ 0 ∷ [])

-- Wish 5: attempt 0, of rank 16001, has read at the one box, and the other 63 rows are begun behind it by station 0, each outranked at its
-- read. So all 64 are used, and those of station 0 are free.
unfoldable pub contest : (k a : ℕ) → List (List ℕ)
contest zero a = []
contest (suc k) a = encode_of (Begin 0 a (suits.single 7)) ∷ encode_of (Serve Read a 0) ∷ encode_of (Deliver Read a 0) ∷ contest k (suc a)

abbrev pub crowd : List (List ℕ)
crowd = encode_of (Begin 1 1000 (suits.single 9)) ∷ encode_of (Serve Read 0 0) ∷ contest 63 1

-- Wish 8: box 1 goes away with a read waiting there, which is served when it is back. Behind it, a box that is not away is brought back.
abbrev pub came_back : List (List ℕ)
came_back =
    encode_of (Begin 0 1 (suits.single 7)) ∷ encode_of (Serve Read 0 0) ∷ encode_of (Deliver Read 0 0) ∷ encode_of (Stop 1) ∷ encode_of (Serve Read 0 1) ∷ encode_of (Return 1)
    ∷ encode_of (Serve Read 0 1) ∷ encode_of (Deliver Read 0 1) ∷ encode_of (Return 1) ∷ []

-- of five boxes three go, one by kind 6, and that one is back
abbrev pub one_back : List (List ℕ)
one_back = encode_of (Stop 0) ∷ (6 ∷ 1 ∷ 0 ∷ 0 ∷ 0 ∷ 0 ∷ 0 ∷ 0 ∷ []) ∷ encode_of (Stop 2) ∷ encode_of (Return 1) ∷ []

-- what the box holds for a department behind both
abbrev pub held_for : (d : Department) → Suit
held_for d = (register_at (floor_left two both) d 0).value

abbrev pub one : Floor
one = first_floor 1 1 (0 ∷ [])

abbrev pub three : Floor
three = first_floor 3 2 (0 ∷ 0 ∷ [])

abbrev pub five : Floor
five = first_floor 5 1 (0 ∷ [])

-- the value that a box holds behind example I
abbrev pub held_at : (b : ℕ) → Suit
held_at b = (register_at (floor_left three example_i) Sails b).value

pub record Worked : Type 0 where
  -- I: a station decides 9; rank 17 is served at box 1, and before attempt 0 aborted a rank above its own was
  pub decides : (s : ℕ) × DecidesAt (trace_of three example_i) s (suits.single 9) 13
  pub served : ServedAt (trace_of three example_i) Sails 17 1 6
  pub outranked : OutrankedAt (trace_of three example_i) 17
  -- wish 2: attempt 0 aborts at its first read answer, and before that a rank above its own was served
  pub told : (command_at outranked_read 4 ≡ Deliver Read 0 0) × (said_at three outranked_read 4 ≡ said.Aborted 0)
  pub outranked_read_lem : OutrankedAt (trace_of three outranked_read) 4
  -- wish 5: behind its decision the row of attempt 0 is free, and before it is not, though all its requests are served
  pub free : FreeAt (trace_of one single) 0 5
  pub not_free : ¬ FreeAt (trace_of one single) 0 4
  -- no row is unused behind `crowd`; station 0 is driven alone in one that is given back, whatever revision it offers
  pub used_up : ¬ (attempts_before (trace_of pair crowd) Sails (length crowd) < 64)
  pub alone_reused : (v : Suit) → FourBytes v → DrivenAlone pair crowd 0 v 5 (solo_of (floor_left pair crowd) 0 v)
  -- wish 6: each department decides its own revision, and the box holds both
  pub first_decided : said_at two both 8 ≡ said.Decided (suits.single 7)
  pub second_decided : said_at two both 9 ≡ said.Decided (suits.single 9)
  pub both_held : (held_for Sails ≡ suits.single 7) × (held_for Canvas ≡ suits.single 9)
  -- wish 7: nothing is shown before the withdrawal is decided, then revision 0; the other station decides it again; the first begins nothing after
  pub undecided : shown_at pair withdrawn 0 4 ≡ None
  pub withdrawn_decided : (said_at pair withdrawn 4 ≡ said.Decided (suits.single 0)) × (shown_at pair withdrawn 0 5 ≡ Some (suits.single 0))
  pub withdrawn_again : (said_at pair withdrawn 7 ≡ said.WriteIssued (suits.single 0)) × (said_at pair withdrawn 9 ≡ said.Decided (suits.single 0))
  pub withdrawn_over : said_at pair withdrawn 10 ≡ said.Refused 10
  -- wish 8: while it is away box 1 does not serve the read, and does not answer; back it does both
  pub away : (said_at three came_back 4 ≡ said.Refused 13) × (¬ Answering (trace_of three came_back) 5 1)
  pub back : (said_at three came_back 5 ≡ said.Back 1) × (said_at three came_back 6 ≡ said.Served 0) × Answering (trace_of three came_back) 6 1
  pub went_on : said_at three came_back 7 ≡ said.WriteIssued (suits.single 7)
  pub not_away : said_at three came_back 8 ≡ said.Refused 23
  pub away_from : AwayFrom (trace_of three came_back) 1 3 5
  -- with 3 of 5 boxes away and one of them back, whatever revision station 0 offers
  pub alone_back : (v : Suit) → FourBytes v → DrivenAlone five one_back 0 v 13 (solo_of (floor_left five one_back) 0 v)
  -- J: with 2 of 5 boxes stopped, whatever revision station 0 offers: 13 steps
  pub alone : (v : Suit) → FourBytes v → DrivenAlone five stops 0 v 13 (solo_of (floor_left five stops) 0 v)
  -- behind I station 0 is idle after its abort, and two of three boxes hold another's revision; whatever it offers
  pub idle_behind : IdleAt (trace_of three example_i) 0 (length example_i)
  pub held_behind : (held_at 0 ≡ suits.single 7) × (held_at 1 ≡ suits.single 9) × (held_at 2 ≡ suits.single 9)
  pub alone_behind : (v : Suit) → FourBytes v → DrivenAlone three example_i 0 v 9 (solo_of (floor_left three example_i) 0 v)
