-- Document 01, "Turned back, in checking order", and wish 8 of document 02: refusals 7 to 14, and 23 behind 13, of a step on a sound floor, 0
-- where it is accepted. The first that applies is given.
use Rattle.std.specs.Prelude.{ℕ, eqb, leb}
use Rattle.base.specs.Choice.{when◌then◌else◌}
use Rattle.requests.specs.Requests.{standing_of, is_waiting, is_on_the_way}
use Rattle.requests.specs.declared.Phase.{Phase}
use Rattle.commands.specs.declared.Command.{Command}
use Rattle.commands.specs.declared.Command.TheVariants.{Begin, Serve, Deliver, Stop, Leave, Return, Malformed}
use Rattle.attempts.specs.Stations.{is_gone, is_busy}
use Rattle.attempts.specs.Rows.{row_department, requests_of}
use Rattle.floor.specs.Floors.{box_at, station_at, row_at, owner_at, department_at, end_of}
use Rattle.floor.specs.Free.{next_row}
use Rattle.floor.specs.declared.Floor.{Floor}

-- 8, 9, 10, 11 (round 0, a round not above the station's last; wish 7 of document 02: it "stop[s] looking at the revision"), 12 ("no row
-- unused or free", wish 5, in the station's department, wish 6)
unfoldable pub begin_refusal : (f : Floor) (station round : ℕ) → ℕ
begin_refusal f station round =
    when leb f.m station then 8
    else when is_gone (station_at f station).state then 9
    else when is_busy (station_at f station).state then 10
    else when eqb round 0 then 11
    else when leb round (station_at f station).last then 11
    else when leb 128 (next_row f (department_at f station)) then 12
    else 0

-- 8 (attempt, box), 13, 14, of a read or a write. Wish 6: an attempt not begun in its own department. Wish 8: 13 is for a box that is away
unfoldable pub serve_refusal : (f : Floor) (phase : Phase) (attempt box : ℕ) → ℕ
serve_refusal f phase attempt box =
    when leb (end_of f (row_department attempt)) attempt then 8
    else when leb f.n box then 8
    else when (box_at f box).away then 13
    else when is_waiting (standing_of (requests_of phase (row_at f attempt)) box) then 0
    else 14

-- 8 (attempt, box), 9, 14
unfoldable pub deliver_refusal : (f : Floor) (phase : Phase) (attempt box : ℕ) → ℕ
deliver_refusal f phase attempt box =
    when leb (end_of f (row_department attempt)) attempt then 8
    else when leb f.n box then 8
    else when is_gone (owner_at f attempt).state then 9
    else when is_on_the_way (standing_of (requests_of phase (row_at f attempt)) box) then 0
    else 14

-- 8, 13. Wish 8: at a box that is away
unfoldable pub stop_refusal : (f : Floor) (box : ℕ) → ℕ
stop_refusal f box =
    when leb f.n box then 8
    else when (box_at f box).away then 13
    else 0

-- 8, 9
unfoldable pub leave_refusal : (f : Floor) (station : ℕ) → ℕ
leave_refusal f station =
    when leb f.m station then 8
    else when is_gone (station_at f station).state then 9
    else 0

-- 8, 23. Wish 8: "23, after 13, for bringing back a box that is not away"
unfoldable pub return_refusal : (f : Floor) (box : ℕ) → ℕ
return_refusal f box =
    when leb f.n box then 8
    else when (box_at f box).away then 0
    else 23

-- 7 before all
abbrev pub refusal_on : (f : Floor) (c : Command) → ℕ
refusal_on f (Begin s round v) = begin_refusal f s round
refusal_on f (Serve p a b) = serve_refusal f p a b
refusal_on f (Deliver p a b) = deliver_refusal f p a b
refusal_on f (Stop b) = stop_refusal f b
refusal_on f (Leave s) = leave_refusal f s
refusal_on f (Return b) = return_refusal f b
refusal_on f Malformed = 7
