-- Demand 3: one claim on every list of steps, whoever orders them, whichever boxes go away and come back and whichever stations go. The
-- proof is `demand3` in proofs/Demand.
use Rattle.std.specs.Prelude.{ℕ, ◌+◌, ◌*◌, ◌<◌, ◌≡◌, List, ◌++◌, length, Option}
use Rattle.suits.specs.Suits.{FourBytes}
use Rattle.suits.specs.declared.Suit.{Suit}
use Rattle.base.specs.Numbers.{quorum}
use Rattle.base.specs.Quorum.{AtLeast}
use Rattle.register.specs.declared.Department.{Department}
use Rattle.attempts.specs.Rows.{row_department}
use Rattle.floor.specs.Floors.{station_at, department_at, first_floor}
use Rattle.floor.specs.declared.Floor.{Floor}
use Rattle.commands.specs.declared.Outcome.TheVariants as said
use Rattle.solo.specs.Solo.{solo_of}
use Rattle.base.specs.Positions.{Before}
use Rattle.base.specs.Records.{AllRecords}
use Rattle.solo.specs.declared.Solo.{Solo}
use Rattle.agreement.specs.Words.{Trace, OfferedAt, DecidedIn, OutrankedAt, Attempt, attempt_department, ShownAt, Answering, IdleAt, RowLeft, RoundLeft, AloneAt}
use Rattle.floor.specs.Runs.{command_at, floor_at, floor_left, said_at}

-- The list l from the floor f as a trace, and what the floor shows.
module _ (f : Floor) (l : List (List ℕ)) where
  abbrev pub trace_of : Trace
  trace_of = record { boxes = f.n; asked = λ i. command_at l i; said = λ i. said_at f l i }

  -- the decided revision that the floor before the step at i shows for the station s, or that there is none. Wish 7 of document 02: "A
  -- station keeps whether it decided", so that revision 0 is not none.
  abbrev pub shown_at : (s i : ℕ) → Option Suit
  shown_at s i = (station_at (floor_at f l i) s).decided

-- What holds within the department d of every list, whatever its steps are (safety).
pub record Safety (t : Trace) (d : Department) : Type 0 where
  -- "any two stations that decided have decided the same revision"
  pub agreement : (i j : ℕ) (u v : Suit) → DecidedIn t d u i → DecidedIn t d v j → u ≡ v
  -- "each decided revision was offered by a station before it was decided"
  pub validity : (i : ℕ) (v : Suit) → DecidedIn t d v i → Before (OfferedAt t d v) i
  -- "before each abort a rank higher than the aborted one was served at a box"
  pub abort : (i a : ℕ) → row_department a ≡ d → t.said i ≡ said.Aborted a → OutrankedAt t i

-- "Driven alone: by a solo finish for it, with any revision. Its steps put behind the list make the floor it hands back, the last of
-- them says decided, and its number is how many they are." The station s with the revision v, behind the list l from the floor f, in k steps;
-- d is what the solo finish hands back.
pub record DrivenAlone (f : Floor) (l : List (List ℕ)) (s : ℕ) (v : Suit) (k : ℕ) (d : Solo) : Type 0 where
  -- its steps, as 8-byte records
  pub steps : List (List ℕ)
  pub records : AllRecords steps
  pub count : length steps ≡ k
  -- the first of them is the begin of this station with this revision, all are accepted, and the last says decided
  pub alone : AloneAt (trace_of f (l ++ steps)) s v k (length l)
  pub floor : floor_left f (l ++ steps) ≡ d.floor
  pub outcome : d.outcome ≡ said.Decided alone.revision
  pub number : d.steps ≡ k

-- "Demand 3 holds within each department"
pub record Demand3 (f : Floor) (l : List (List ℕ)) : Type 0 where
  pub safety : (d : Department) → Safety (trace_of f l) d
  -- "The decided revision that the floor shows for a station is the one so said, and none only where none was said": on each floor of
  -- the run, the last one too
  pub shown : (s i : ℕ) → ShownAt (trace_of f l) (shown_at f l s i) s i
  -- the attempts of a station are of its department, which it keeps; so its decisions and aborts are
  pub own : (x : Attempt (trace_of f l)) → attempt_department (trace_of f l) x ≡ department_at f x.station
  pub kept : (s i : ℕ) → department_at (floor_at f l i) s ≡ department_at f s
  -- "On any floor so reached, given q answering boxes, q being a majority of all boxes, fewer than 64 attempts, and a round left that
  -- outranks every attempt begun, an idle station driven alone, whatever revision it offers, decides in exactly 4q + 1 steps." Wish 5 of
  -- document 02 has "an unused or free row" for "fewer than 64 attempts"; wish 6: rows and attempts of its department. A revision is "a
  -- 32-bit number"; wish 7: "zero becomes a revision".
  pub solo : (s : ℕ) (v : Suit)
      → s < f.m
      → IdleAt (trace_of f l) s (length l)
      → AtLeast (quorum f.n) f.n (Answering (trace_of f l) (length l))
      → RowLeft (trace_of f l) (department_at f s) (length l)
      → RoundLeft (trace_of f l) (department_at f s) s (length l)
      → FourBytes v
      → DrivenAlone f l s v (4 * quorum f.n + 1) (solo_of (floor_left f l) s v)

-- "Demand 3 is a single claim about the list": it holds of every list, from a new floor of any n and m, told any departments.
abbrev pub Demand3Theorem : Type 0
Demand3Theorem = (n m : ℕ) (departments : List ℕ) (l : List (List ℕ)) → Demand3 (first_floor n m departments) l
