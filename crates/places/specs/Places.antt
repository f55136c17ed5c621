-- The places of a floor's arrays that a command names: what a step reads out of a floor and stores into it. How long an array is, `limit`, is handed in.
use Rattle.std.specs.Prelude.{ℕ, ltb}
use Rattle.base.specs.Choice.{when◌then◌else◌}
use Rattle.commands.specs.declared.Command.{Command}
use Rattle.commands.specs.declared.Command.TheVariants.{Begin, Serve, Deliver, Stop, Leave, Return, Malformed}

-- The place of an array that a number names. One past the end names none; its step is turned back with 8, whatever stands at place 0.
unfoldable pub place_in : (limit x : ℕ) → ℕ
place_in limit x = when ltb x limit then x else 0

-- The row, the box and the station that a command names, where a begin takes the row `next` and the row named belongs to `owner`. Where
-- a command names none, place 0 is read and stored back.
abbrev pub attempt_in : (next : ℕ) (c : Command) → ℕ
attempt_in next (Begin s round v) = next
attempt_in next (Serve p a b) = a
attempt_in next (Deliver p a b) = a
attempt_in next (Stop b) = 0
attempt_in next (Leave s) = 0
attempt_in next (Return b) = 0
attempt_in next Malformed = 0

abbrev pub box_in : (c : Command) → ℕ
box_in (Begin s round v) = 0
box_in (Serve p a b) = b
box_in (Deliver p a b) = b
box_in (Stop b) = b
box_in (Leave s) = 0
box_in (Return b) = b
box_in Malformed = 0

abbrev pub station_in : (owner : ℕ) (c : Command) → ℕ
station_in owner (Begin s round v) = s
station_in owner (Serve p a b) = owner
station_in owner (Deliver p a b) = owner
station_in owner (Stop b) = 0
station_in owner (Leave s) = s
station_in owner (Return b) = 0
station_in owner Malformed = 0
