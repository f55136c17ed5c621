-- What is claimed of a solo finish. The proof is `solo_claims` in proofs/Claims.
use Rattle.std.specs.Prelude.{ℕ, suc, ◌+◌, ◌*◌, ◌≤◌, ◌<◌, ◌≡◌, ◌⊎◌, true, false, List, length}
use Rattle.suits.specs.declared.Suit.{Suit}
use Rattle.base.specs.Numbers.{quorum, rank_of}
use Rattle.commands.specs.Commands.{command_of}
use Rattle.base.specs.Refusals.{number_if}
use Rattle.commands.specs.Outcomes.{number_of, value_of, refusal_said, is_refused}
use Rattle.commands.specs.declared.Command.TheVariants.{Begin}
use Rattle.commands.specs.declared.Outcome.TheVariants.{Aborted, Decided}
use Rattle.attempts.specs.Stations.{is_gone, is_busy}
use Rattle.attempts.specs.declared.State.TheVariants.{Idle}
use Rattle.register.specs.declared.Department.{Department}
use Rattle.attempts.specs.Rows.{row_department}
use Rattle.floor.specs.Floors.{station_at, row_at, register_at, highest_of, InUse, new_floor_of}
use Rattle.floor.specs.Sound.{sound_of}
use Rattle.floor.specs.Effects.{row_taken}
use Rattle.floor.specs.Step.{step_of}
use Rattle.floor.specs.Runs.{floor_at, said_at}
use Rattle.floor.specs.Soundness.{Sound, Lengths}
use Rattle.floor.specs.declared.Floor.{Floor}
use Rattle.solo.specs.Plan.{highest_begun, round_of, answering, begin_of, plan_of}
use Rattle.solo.specs.Solo.{solo_refusal, turned_away, solo_of, solo_number, solo_value}
use Rattle.solo.specs.declared.Solo.{Solo}

-- "the smallest round, at least 1, whose rank passes" the highest rank begun in the station's department, whatever the rows say
pub record Smallest (f : Floor) (s round : ℕ) : Type 0 where
  pub some : 1 ≤ round
  pub passes : highest_begun f s < rank_of round s
  pub least : (r : ℕ) → 1 ≤ r → highest_begun f s < rank_of r s → round ≤ r

-- "the solo finish's step count is in its result struct and equals the length of the step list that leads to the returned floor": d is what the first records of the list l
-- did to f, as many as d counts: each of them was accepted, and the last of them said what d says, unless d says a refusal
pub record Counted (f : Floor) (l : List (List ℕ)) (d : Solo) : Type 0 where
  pub within : d.steps ≤ length l
  pub reached : d.floor ≡ floor_at f l d.steps
  pub accepted : (i : ℕ) → i < d.steps → is_refused (said_at f l i) ≡ false
  pub last : is_refused d.outcome ≡ false → (i : ℕ) → suc i ≡ d.steps → said_at f l i ≡ d.outcome

-- What holds of a new floor and is kept by every step, department by department: no row has, no box has served, and no station has begun, a
-- rank above the highest begun. A floor built by hand may lack it.
pub record Lawful (f : Floor) : Type 0 where
  pub sound : Sound f
  pub lengths : Lengths f
  pub rows : (a : ℕ) → InUse f a → (row_at f a).rank ≤ highest_of f (row_department a)
  pub read : (d : Department) (b : ℕ) → (register_at f d b).read ≤ highest_of f d
  pub write : (d : Department) (b : ℕ) → (register_at f d b).write ≤ highest_of f d
  pub last : (s : ℕ) → ((station_at f s).last ≡ 0) ⊎ (rank_of (station_at f s).last s ≤ highest_begun f s)

-- the station s is idle, and nothing stands in its way
pub record Ready (f : Floor) (s : ℕ) : Type 0 where
  pub station : s < f.m
  pub idle : (station_at f s).state ≡ Idle
  pub round : round_of f s ≤ 65535
  pub row : row_taken f s < 128
  pub boxes : quorum f.n ≤ length (answering f)

-- Which number turns a solo finish back, for which cause, and that none before it applies: "6, 8 to 12, 15", 0 where none does.
pub data TurnedBy (f : Floor) (s : ℕ) : ℕ → Type 0 where
  unsound : sound_of f ≡ false → TurnedBy f s 6
  no_station : sound_of f ≡ true → f.m ≤ s → TurnedBy f s 8
  gone : sound_of f ≡ true → s < f.m → is_gone (station_at f s).state ≡ true → TurnedBy f s 9
  busy : sound_of f ≡ true → s < f.m → is_busy (station_at f s).state ≡ true → TurnedBy f s 10
  no_round : sound_of f ≡ true → s < f.m → (station_at f s).state ≡ Idle → 65535 < round_of f s → TurnedBy f s 11
  no_row : sound_of f ≡ true → s < f.m → (station_at f s).state ≡ Idle → round_of f s ≤ 65535 → 128 ≤ row_taken f s → TurnedBy f s 12
  few_boxes : sound_of f ≡ true → s < f.m → (station_at f s).state ≡ Idle → round_of f s ≤ 65535 → row_taken f s < 128 → length (answering f) < quorum f.n → TurnedBy f s 15
  none : sound_of f ≡ true → Ready f s → TurnedBy f s 0

-- it says decided, with some revision, after 4q + 1 steps
pub record DecidesAlone (f : Floor) (d : Solo) : Type 0 where
  pub revision : Suit
  pub said : d.outcome ≡ Decided revision
  pub steps : d.steps ≡ 4 * quorum f.n + 1

-- What a solo finish on any floor comes to, one built by hand too: it is turned back with 0 steps and leaves the floor; or it takes
-- 4q + 1 steps, at the last of which the station decides or the attempt, in the row that a begin takes, aborts; or the attempt aborts at its k-th
-- read answer, after the begin and k exchanges.
pub data Ends (f : Floor) (s : ℕ) (d : Solo) : Type 0 where
  turned : (k : ℕ) → d ≡ turned_away f k → Ends f s d
  decided : (v : Suit) → d.outcome ≡ Decided v → d.steps ≡ 4 * quorum f.n + 1 → Ends f s d
  aborted : d.outcome ≡ Aborted (row_taken f s) → d.steps ≡ 4 * quorum f.n + 1 → Ends f s d
  outranked : (k : ℕ) → 1 ≤ k → k ≤ quorum f.n → d.outcome ≡ Aborted (row_taken f s) → d.steps ≡ 2 * k + 1 → Ends f s d

-- What holds of every solo finish.
pub record SoloClaims : Type 0 where
  pub smallest : (f : Floor) (s : ℕ) → Smallest f s (round_of f s)
  -- "whatever revision it offers": its first step is the begin of this station with this revision
  pub begins : (f : Floor) (s : ℕ) (v : Suit) → command_of (begin_of f s v) ≡ Begin s (round_of f s) v
  pub refusal : (f : Floor) (s : ℕ) → TurnedBy f s (solo_refusal f s)
  -- document 01's number and value of what it says
  pub number : (f : Floor) (s : ℕ) (v : Suit) → number_of (solo_of f s v).outcome ≡ solo_number f s v
  pub value : (f : Floor) (s : ℕ) (v : Suit) → value_of (solo_of f s v).outcome ≡ solo_value f s v
  -- the refusal that it says by name has that number
  pub named : (f : Floor) (s : ℕ) (v : Suit) → number_if (refusal_said (solo_of f s v).outcome) ≡ number_of (solo_of f s v).outcome
  -- refused solo finishes too
  pub counted : (f : Floor) (s : ℕ) (v : Suit) → Counted f (plan_of f s v) (solo_of f s v)
  pub ends : (f : Floor) (s : ℕ) (v : Suit) → Lengths f → Ends f s (solo_of f s v)
  -- "an idle station driven alone, whatever revision it offers, decides in exactly 4q + 1 steps", on a lawful floor; every floor that a
  -- list of steps from a new floor reaches is one
  pub decides : (f : Floor) (s : ℕ) (v : Suit) → Lawful f → Ready f s → DecidesAlone f (solo_of f s v)
  pub new_lawful : (n m : ℕ) (departments : List ℕ) → Lawful (new_floor_of n m departments).floor
  pub lawful : (f : Floor) (r : List ℕ) → Lawful f → Lawful (step_of f r).floor
