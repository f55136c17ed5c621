-- Document 02, wish 8, on every list of steps: "Our boxes lose power and return with their records. .. Requests waiting there wait on." The
-- proof is `come_back` in proofs/ComeBack.
use Rattle.std.specs.Prelude.{ℕ, suc, ◌≤◌, ◌<◌, ◌≡◌, List}
use Rattle.suits.specs.declared.Suit.{Suit}
use Rattle.register.specs.declared.Department.{Department}
use Rattle.requests.specs.declared.Phase.{Phase}
use Rattle.requests.specs.declared.Phase.TheVariants.{Read, Write}
use Rattle.commands.specs.declared.Command.TheVariants.{Serve}
use Rattle.commands.specs.declared.Outcome.TheVariants as said
use Rattle.floor.specs.Floors.{register_at}
use Rattle.floor.specs.Runs.{floor_at, said_at}
use Rattle.floor.specs.declared.Floor.{Floor}
use Rattle.floor.specs.Runs.{command_at}
use Rattle.agreement.specs.Words.{Attempt, Named, IssuesAt, ServesAt, Answering, Trace}
use Rattle.agreement.specs.Demand.{trace_of}
use Rattle.base.specs.Positions.{Before}
use Rattle.floor.specs.Floors.{first_floor}

module _ (t : Trace) where
  -- the box b is put away by the accepted step at i and brought back by the one at j, and by none between
  pub record AwayFrom (b i j : ℕ) : Type 0 where
    pub put : t.said i ≡ said.Stopped b
    pub later : i < j
    pub back : t.said j ≡ said.Back b
    pub between : (k : ℕ) → i < k → k < j → ¬ (t.said k ≡ said.Back b)

  -- the request of that phase of the attempt x was issued before the step at i: its read at its begin
  abbrev pub IssuedBefore : (x : Attempt t) (phase : Phase) (i : ℕ) → Type 0
  IssuedBefore x Read i = Unit {0}
  IssuedBefore x Write i = (v : Suit) × Before (IssuesAt t x v) i

  -- it waits at the box b before the step at i: it was issued, and not served there
  pub record Waiting (x : Attempt t) (phase : Phase) (b i : ℕ) : Type 0 where
    pub named : Named t x i
    pub box : b < t.boxes
    pub issued : IssuedBefore x phase i
    pub unserved : ¬ Before (ServesAt t x phase b) i

pub record ComeBack (f : Floor) (l : List (List ℕ)) : Type 0 where
  -- the box has, back and all the while, the records that it had, of each department
  pub records : (b i j k : ℕ) → AwayFrom (trace_of f l) b i j → i ≤ k → k ≤ suc j → (d : Department) → register_at (floor_at f l k) d b ≡ register_at (floor_at f l i) d b
  -- a request that waited there when the box went, or since, still waits when it is back, and a serve of it is accepted then
  pub waits : (b i j k : ℕ) → AwayFrom (trace_of f l) b i j → i ≤ k → k ≤ j → (x : Attempt (trace_of f l)) (phase : Phase) → Waiting (trace_of f l) x phase b k → Waiting (trace_of f l) x phase b (suc j)
  pub served : (b i j k : ℕ) → AwayFrom (trace_of f l) b i j → i ≤ k → k ≤ j → (x : Attempt (trace_of f l)) (phase : Phase) → Waiting (trace_of f l) x phase b k
      → command_at l (suc j) ≡ Serve phase x.number b → said_at f l (suc j) ≡ said.Served x.number
  -- a request waits until it is served there, whatever else happens
  pub waits_until : (x : Attempt (trace_of f l)) (phase : Phase) (b k j : ℕ) → k ≤ j → Waiting (trace_of f l) x phase b k
      → ((i : ℕ) → k ≤ i → i < j → ¬ ServesAt (trace_of f l) x phase b i) → Waiting (trace_of f l) x phase b j
  -- and a serve of it is accepted, at whichever position it waits and the box answers
  pub served_there : (x : Attempt (trace_of f l)) (phase : Phase) (b k : ℕ) → Waiting (trace_of f l) x phase b k → Answering (trace_of f l) k b
      → command_at l k ≡ Serve phase x.number b → said_at f l k ≡ said.Served x.number
  -- a box that is back answers
  pub answers : (b i j : ℕ) → AwayFrom (trace_of f l) b i j → Answering (trace_of f l) (suc j) b

-- of every list, from a new floor of any n and m
abbrev pub ComeBackTheorem : Type 0
ComeBackTheorem = (n m : ℕ) (departments : List ℕ) (l : List (List ℕ)) → ComeBack (first_floor n m departments) l
