-- Document 01, "Solo finish", and its refusals: "Solo finish: 6, 8 to 12, 15".
use Rattle.std.specs.Prelude.{ℕ, length, eqb, leb, ltb}
use Rattle.suits.specs.declared.Suit.{Suit}
use Rattle.base.specs.Choice.{when◌then◌else◌}
use Rattle.base.specs.Numbers.{quorum}
use Rattle.commands.specs.Outcomes.{number_of, value_of}
use Rattle.commands.specs.declared.Outcome.TheVariants.{Refused}
use Rattle.attempts.specs.Stations.{is_gone, is_busy}
use Rattle.floor.specs.Floors.{station_at}
use Rattle.floor.specs.Sound.{sound_of}
use Rattle.floor.specs.Effects.{row_taken}
use Rattle.floor.specs.Runs.{run_of}
use Rattle.floor.specs.declared.Floor.{Floor}
use Rattle.runs.specs.declared.Until.TheVariants.{End}
use Rattle.floor.specs.declared.Ran.{Ran}
use Rattle.solo.specs.Plan.{round_of, answering, begin_of, exchanges_of}
use Rattle.solo.specs.declared.Solo.{Solo}

-- on a sound floor, where `round` is the round picked: 8, 9, 10, 11 ("for a solo finish, .. no round left"; "If that round exceeds 65,535
-- there is no round left"; wish 7 of document 02: it "stop[s] looking at the revision"), 12 (wish 5: "no row unused or free", wish 6: in its
-- department), 15 ("A solo finish with fewer than q boxes not stopped", wish 8: not away), 0 where none applies
unfoldable pub front_refusal : (f : Floor) (station round : ℕ) → ℕ
front_refusal f station round =
    when leb f.m station then 8
    else when is_gone (station_at f station).state then 9
    else when is_busy (station_at f station).state then 10
    else when ltb 65535 round then 11
    else when leb 128 (row_taken f station) then 12
    else when ltb (length (answering f)) (quorum f.n) then 15
    else 0

-- 6 before all
unfoldable pub solo_refusal : (f : Floor) (station : ℕ) → ℕ
solo_refusal f station = when sound_of f then front_refusal f station (round_of f station) else 6

-- "a refused solo finish takes 0 steps", and "Floor .. stay unchanged"
abbrev pub turned_away : (f : Floor) (k : ℕ) → Solo
turned_away f k = record { floor = f; steps = 0; outcome = Refused k }

-- what a run of its steps came to: "A step turned back is not counted"
abbrev pub of_run : (x : Ran) → Solo
of_run x = record { floor = x.floor; steps = x.accepted; outcome = x.outcome }

-- "It returns the floor and the number of steps it took, with what the last step said. On a hand-built floor a step may be turned back,
-- or the attempt may end otherwise: it stops there and gives that refusal or end."
unfoldable pub solo_of : (f : Floor) (station : ℕ) (revision : Suit) → Solo
solo_of f station revision =
    when eqb (solo_refusal f station) 0 then of_run (run_of End f (begin_of f station revision) (exchanges_of f station))
    else turned_away f (solo_refusal f station)

-- Document 01's number and value of what it says: its own refusal, which has no value, or those of what its last step said.
unfoldable pub solo_number : (f : Floor) (station : ℕ) (revision : Suit) → ℕ
solo_number f station revision =
    when eqb (solo_refusal f station) 0 then number_of (run_of End f (begin_of f station revision) (exchanges_of f station)).outcome
    else solo_refusal f station

unfoldable pub solo_value : (f : Floor) (station : ℕ) (revision : Suit) → ℕ
solo_value f station revision =
    when eqb (solo_refusal f station) 0 then value_of (run_of End f (begin_of f station revision) (exchanges_of f station)).outcome
    else 0
