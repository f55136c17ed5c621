-- What a step of each kind asks of the floor: the tests that it passes where its refusal is 0; and which refusals a step has.
use Rattle.std.specs.Prelude.{ℕ, ◌<◌, ◌≤◌, ◌≡◌, ◌⊎◌, true, false}
use Rattle.requests.specs.Requests.{standing_of, is_waiting, is_on_the_way}
use Rattle.requests.specs.declared.Phase.{Phase}
use Rattle.commands.specs.declared.Command.{Command}
use Rattle.attempts.specs.Stations.{is_gone, is_busy}
use Rattle.attempts.specs.Rows.{requests_of}
use Rattle.floor.specs.Floors.{box_at, station_at, row_at, owner_at, InUse}
use Rattle.floor.specs.Sound.{sound_of}
use Rattle.floor.specs.Refusals.{refusal_on}
use Rattle.floor.specs.Effects.{row_taken}
use Rattle.floor.specs.declared.Floor.{Floor}

-- What a step of each kind asks of the floor: the tests that it passes where its refusal is 0.
module _ (f : Floor) where
  pub record CanBegin (s round : ℕ) : Type 0 where
    pub station : s < f.m
    pub here : is_gone (station_at f s).state ≡ false
    pub not_busy : is_busy (station_at f s).state ≡ false
    pub later : (station_at f s).last < round
    pub row : row_taken f s < 128

  -- of a read or a write
  pub record CanServe (p : Phase) (a b : ℕ) : Type 0 where
    pub used : InUse f a
    pub box : b < f.n
    pub not_away : (box_at f b).away ≡ false
    pub waits : is_waiting (standing_of (requests_of p (row_at f a)) b) ≡ true

  pub record CanDeliver (p : Phase) (a b : ℕ) : Type 0 where
    pub used : InUse f a
    pub box : b < f.n
    pub here : is_gone (owner_at f a).state ≡ false
    pub arrives : is_on_the_way (standing_of (requests_of p (row_at f a)) b) ≡ true

  pub record CanStop (b : ℕ) : Type 0 where
    pub box : b < f.n
    pub not_away : (box_at f b).away ≡ false

  pub record CanLeave (s : ℕ) : Type 0 where
    pub station : s < f.m
    pub here : is_gone (station_at f s).state ≡ false

  pub record CanReturn (b : ℕ) : Type 0 where
    pub box : b < f.n
    pub away : (box_at f b).away ≡ true

-- "Step: 6 to 14", and 23 (wish 8 of document 02)
abbrev pub RefusalOfStep : ℕ → Type 0
RefusalOfStep k = ((6 ≤ k) × (k ≤ 14)) ⊎ (k ≡ 23)

-- A refusal's number and its cause.
pub record TurnedBack (f : Floor) (c : Command) (k : ℕ) : Type 0 where
  pub number : RefusalOfStep k
  pub cause : ((sound_of f ≡ false) × (k ≡ 6)) ⊎ ((sound_of f ≡ true) × (k ≡ refusal_on f c))
