-- Document 01, "The drill file", and wish 7 of document 02: what the program drill prints, as ASCII bytes.
use Rattle.std.specs.Prelude.{ℕ, zero, suc, ◌+◌, ◌/◌, ◌%◌, List, [], ◌∷◌, ◌++◌, eqb, ltb, codes, None, Option, Some}
use Rattle.base.specs.Choice.{when◌then◌else◌}
use Rattle.base.specs.Refusals.{number_if}
use Rattle.suits.specs.declared.Suit.{Suit}
use Rattle.attempts.specs.declared.State.{State}
use Rattle.attempts.specs.declared.State.TheVariants as state
use Rattle.attempts.specs.declared.Station.{Station}
use Rattle.floor.specs.Floors.{station_at}
use Rattle.floor.specs.declared.Floor.{Floor}
use Rattle.floor.specs.declared.Played.{Played}
use Rattle.drill_file.specs.DrillFile.{file_refusal, label_of}
use Rattle.player.specs.Play.{played_of, last_rank}

-- a number in decimal, the most significant digit first, with at most k digits
unfoldable pub digits_of : (k n : ℕ) → List ℕ
digits_of zero n = []
digits_of (suc k) n = when ltb n 10 then (48 + n) ∷ [] else digits_of k (n / 10) ++ ((48 + n % 10) ∷ [])

-- a number of 64 bits has at most 20
abbrev pub decimal_of : (n : ℕ) → List ℕ
decimal_of n = digits_of 20 n

-- "state"
abbrev pub state_word : (x : State) → List ℕ
state_word state.Idle = codes "idle"
state_word (state.Reading a) = codes "reading"
state_word (state.Writing a) = codes "writing"
state_word (state.Decided a) = codes "decided"
state_word state.Gone = codes "gone"

-- "decided revision". Wish 7: "the drill prints `none` where it has not" decided; revision 0 is printed as any other.
abbrev pub decision_word : (x : Option Suit) → List ℕ
decision_word None = codes "none"
decision_word (Some v) = decimal_of v.r0

-- "a line `panel`, label, `boxes`, n, `stations`, m"
unfoldable pub panel_line : (label : List ℕ) (n m : ℕ) → List ℕ
panel_line label n m = codes "panel " ++ label ++ codes " boxes " ++ decimal_of n ++ codes " stations " ++ decimal_of m ++ codes "\n"

-- "`station`, number, state, rank of its last attempt (0 if none), decided revision"
unfoldable pub station_line : (number : ℕ) (x : Station) → List ℕ
station_line number x =
    codes "station " ++ decimal_of number ++ codes " " ++ state_word x.state ++ codes " " ++ decimal_of (last_rank x.last number) ++ codes " "
    ++ decision_word x.decided ++ codes "\n"

-- "for each station in order": the lines of the first m stations
unfoldable pub station_lines : (f : Floor) (m : ℕ) → List ℕ
station_lines f zero = []
station_lines f (suc m) = station_lines f m ++ station_line m (station_at f m)

-- "last `end`, accepted steps, refusal (0 if none)"
unfoldable pub end_line : (steps refusal : ℕ) → List ℕ
end_line steps refusal = codes "end " ++ decimal_of steps ++ codes " " ++ decimal_of refusal ++ codes "\n"

-- what is printed of a file that was played: all lines
unfoldable pub lines_of : (label : List ℕ) (p : Played) → List ℕ
lines_of label p = panel_line label p.floor.n p.floor.m ++ station_lines p.floor p.floor.m ++ end_line p.accepted (number_if p.refusal)

-- "After a refusal that comes before any record is played it prints only the `end` line, with 0 steps; a refused record does not count as
-- that."
unfoldable pub report_of : (file : List ℕ) → List ℕ
report_of file = when eqb (file_refusal file) 0 then lines_of (label_of file) (played_of file) else end_line 0 (file_refusal file)
