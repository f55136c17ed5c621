-- What a reader of the floor may rely on besides. The proof is `consequences` in proofs/Consequences.
use Rattle.std.specs.Prelude.{ℕ, ◌<◌, ◌≡◌, ◌⊎◌, false, List, length, Some}
use Rattle.suits.specs.declared.Suit.{Suit}
use Rattle.commands.specs.Outcomes.{is_refused}
use Rattle.commands.specs.declared.Command.TheVariants.{Begin}
use Rattle.commands.specs.declared.Outcome.TheVariants as said
use Rattle.attempts.specs.declared.State.TheVariants.{Idle}
use Rattle.floor.specs.Runs.{command_at}
use Rattle.agreement.specs.Words.{DecidesAt, Answering, IdleAt}
use Rattle.agreement.specs.Demand.{shown_at, trace_of}
use Rattle.floor.specs.Floors.{first_floor}
use Rattle.floor.specs.Floors.{box_at, station_at}
use Rattle.floor.specs.Runs.{floor_at, said_at}
use Rattle.floor.specs.declared.Floor.{Floor}

pub record Consequences (f : Floor) (l : List (List ℕ)) : Type 0 where
  -- nothing is accepted behind the end of the list
  pub inside : (i : ℕ) → is_refused (said_at f l i) ≡ false → i < length l
  -- what is decided is decided by a station
  pub station : (i : ℕ) (v : Suit) → said_at f l i ≡ said.Decided v → (s : ℕ) × (s < f.m) × DecidesAt (trace_of f l) s v i
  -- what a station decided, 0 too, the floor shows from then on
  pub stays : (s : ℕ) (v : Suit) (k i : ℕ) → DecidesAt (trace_of f l) s v k → k < i → shown_at f l s i ≡ Some v
  -- "each station keeps its own, and begins nothing after deciding", whatever it decided: such a begin is refused with 9 or 10
  pub over : (s : ℕ) (v : Suit) (k i round : ℕ) (u : Suit) → DecidesAt (trace_of f l) s v k → k < i → command_at l i ≡ Begin s round u
      → (said_at f l i ≡ said.Refused 9) ⊎ (said_at f l i ≡ said.Refused 10)
  -- a box answers in the words of demand 3 exactly where the floor shows that it is not away
  pub not_away : (b i : ℕ) → Answering (trace_of f l) i b → (box_at (floor_at f l i) b).away ≡ false
  pub answers : (b i : ℕ) → (box_at (floor_at f l i) b).away ≡ false → Answering (trace_of f l) i b
  -- and a station is idle in those words exactly where the floor shows it idle
  pub idle : (s i : ℕ) → IdleAt (trace_of f l) s i → (station_at (floor_at f l i) s).state ≡ Idle
  pub idle_holds : (s i : ℕ) → (station_at (floor_at f l i) s).state ≡ Idle → IdleAt (trace_of f l) s i

-- of every list, from a new floor of any n and m
abbrev pub ConsequencesTheorem : Type 0
ConsequencesTheorem = (n m : ℕ) (departments : List ℕ) (l : List (List ℕ)) → Consequences (first_floor n m departments) l
