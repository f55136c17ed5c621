-- What a step may do to a station and a box, seen at any one number, and which steps change what.
use Rattle.std.specs.Prelude.{ℕ, ◌<◌, ◌≤◌, ◌≡◌, ◌⊎◌, Bool, true, false, Option, Some}
use Rattle.suits.specs.declared.Suit.{Suit}
use Rattle.register.specs.Register.{box_with}
use Rattle.register.specs.declared.Department.{Department}
use Rattle.register.specs.declared.Register.{Register}
use Rattle.register.specs.declared.StorageBox.{StorageBox}
use Rattle.requests.specs.Requests.{standing_of, is_waiting}
use Rattle.requests.specs.declared.Phase.{Phase}
use Rattle.requests.specs.declared.Phase.TheVariants.{Read, Write}
use Rattle.commands.specs.declared.Command.{Command}
use Rattle.commands.specs.declared.Command.TheVariants.{Begin, Serve, Deliver, Stop, Leave, Return}
use Rattle.commands.specs.declared.Outcome.{Outcome}
use Rattle.commands.specs.declared.Outcome.TheVariants.{Begun, Served, Aborted, WriteIssued, Decided, Stopped, Gone, Back}
use Rattle.attempts.specs.Stations.{is_gone, is_busy, is_reading, is_writing, is_in, with_state}
use Rattle.attempts.specs.Rows.{row_department, requests_of, register_served}
use Rattle.attempts.specs.declared.State.TheVariants as state
use Rattle.attempts.specs.declared.Station.{Station}
use Rattle.attempts.specs.declared.Row.{Row}
use Rattle.floor.specs.Floors.{box_at, station_at, row_at, department_at, InUse}
use Rattle.floor.specs.Effects.{row_taken, beginner, share_after, served_by, deciding, with_away}
use Rattle.floor.specs.declared.Share.{Share}
use Rattle.floor.specs.declared.Floor.{Floor}

-- What the step with the command c may do to a station and a box of the floor f, seen at any one number j: nothing, or one of few things,
-- each with the tests that the step passed.
module _ (f : Floor) (c : Command) (j : ℕ) where
  -- the station j after the step
  pub data StationMove : Outcome → Station → Type 0 where
    station_kept : {o : Outcome} → StationMove o (station_at f j)
    station_begins : {round : ℕ} {v : Suit} → c ≡ Begin j round v → is_gone (station_at f j).state ≡ false → is_busy (station_at f j).state ≡ false
        → (station_at f j).last < round → StationMove (Begun (row_taken f j)) (beginner f j round)
    station_issues : {a b : ℕ} {v : Suit} → c ≡ Deliver Read a b → InUse f a → (row_at f a).station ≡ j → is_reading (station_at f j).state a ≡ true
        → StationMove (WriteIssued v) (with_state (station_at f j) (state.Writing a))
    station_decides : {a b : ℕ} {v : Suit} → c ≡ Deliver Write a b → InUse f a → (row_at f a).station ≡ j → is_writing (station_at f j).state a ≡ true
        → (row_at f a).written ≡ v → StationMove (Decided v) (deciding (station_at f j) a v)
    station_aborts : {p : Phase} {a b : ℕ} → c ≡ Deliver p a b → InUse f a → (row_at f a).station ≡ j → is_in p (station_at f j).state a ≡ true
        → StationMove (Aborted a) (with_state (station_at f j) state.Idle)
    station_leaves : c ≡ Leave j → is_gone (station_at f j).state ≡ false → StationMove (Gone j) (with_state (station_at f j) state.Gone)

  -- the box j after the step
  pub data BoxMove : Outcome → StorageBox → Type 0 where
    box_kept : {o : Outcome} → BoxMove o (box_at f j)
    box_serves : {p : Phase} {a : ℕ} → c ≡ Serve p a j → InUse f a → (box_at f j).away ≡ false
        → BoxMove (Served a) (box_with (row_department a) (box_at f j) (register_served p (row_at f a) (served_by f a j)) (box_at f j).away)
    box_stops : c ≡ Stop j → (box_at f j).away ≡ false → BoxMove (Stopped j) (with_away true (box_at f j))
    box_returns : c ≡ Return j → (box_at f j).away ≡ true → BoxMove (Back j) (with_away false (box_at f j))

-- What a register x of the department d may have become: where a rank or a value is new, it is that of a row that the department uses.
pub record Grown (f : Floor) (d : Department) (x y : Register) : Type 0 where
  pub read_up : x.read ≤ y.read
  pub write_up : x.write ≤ y.write
  pub read_from : (y.read ≡ x.read) ⊎ ((a : ℕ) × InUse f a × (row_department a ≡ d) × (y.read ≡ (row_at f a).rank))
  pub held_from : ((y.write ≡ x.write) × (y.value ≡ x.value))
      ⊎ ((a : ℕ) × InUse f a × (row_department a ≡ d) × (y.write ≡ (row_at f a).rank) × (y.value ≡ (row_at f a).written))

-- What an attempt keeps for good.
pub record SameAttempt (w x : Row) : Type 0 where
  pub station : x.station ≡ w.station
  pub rank : x.rank ≡ w.rank
  pub offer : x.offer ≡ w.offer

-- The step that sets what a station decided to x: the delivery that says decided with this revision, of an attempt that the station j owns.
pub record DecidesNow (f : Floor) (c : Command) (j : ℕ) (o : Outcome) (x : Option Suit) : Type 0 where
  pub attempt : ℕ
  pub box : ℕ
  pub command : c ≡ Deliver Write attempt box
  pub used : InUse f attempt
  pub owner : (row_at f attempt).station ≡ j
  pub revision : Suit
  pub decision : x ≡ Some revision
  pub written : (row_at f attempt).written ≡ revision
  pub outcome : o ≡ Decided revision

-- the step that sets its last round: its begin
pub record BeginsNow (f : Floor) (c : Command) (j : ℕ) (o : Outcome) (round : ℕ) : Type 0 where
  pub offer : Suit
  pub command : c ≡ Begin j round offer
  pub above : (station_at f j).last < round
  pub outcome : o ≡ Begun (row_taken f j)

-- the step that sets what the department d uses and its highest rank begun: a begin of a station of it, which makes x of them
pub record RaisesNow (f : Floor) (d : Department) (c : Command) (o : Outcome) (x : Share) : Type 0 where
  pub station : ℕ
  pub round : ℕ
  pub offer : Suit
  pub command : c ≡ Begin station round offer
  pub outcome : o ≡ Begun (row_taken f station)
  pub of : department_at f station ≡ d
  pub share : x ≡ share_after f station round

-- the step that changes the record of the department d in the box b: a serve there
pub record ServesNow (f : Floor) (d : Department) (c : Command) (b : ℕ) (o : Outcome) : Type 0 where
  pub phase : Phase
  pub attempt : ℕ
  pub of : row_department attempt ≡ d
  pub command : c ≡ Serve phase attempt b
  pub not_away : (box_at f b).away ≡ false
  pub outcome : o ≡ Served attempt

-- Wish 8: "Requests waiting there wait on". The request of that phase of the attempt a, which is begun, waits at the box b;
pub record Waits (f : Floor) (p : Phase) (a b : ℕ) : Type 0 where
  pub used : InUse f a
  pub box : b < f.n
  pub waits : is_waiting (standing_of (requests_of p (row_at f a)) b) ≡ true

-- it waits on the floor g too, and is the same attempt's
pub record WaitsOn (f g : Floor) (p : Phase) (a b : ℕ) : Type 0 where
  pub waits : Waits g p a b
  pub attempt : SameAttempt (row_at f a) (row_at g a)

-- Whether the box b is away, before and after a step: "Kind 8 says stopped and kind 9 back, with the box", and nothing else moves it.
pub data AwayMove (b : ℕ) : Outcome → Bool → Bool → Type 0 where
  away_kept : {o : Outcome} {x : Bool} → ¬ (o ≡ Stopped b) → ¬ (o ≡ Back b) → AwayMove b o x x
  away_put : AwayMove b (Stopped b) false true
  away_brought : AwayMove b (Back b) true false
