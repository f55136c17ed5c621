-- Document 01, "Steps", and wishes 2, 5, 6, 7 and 8 of document 02: the floor that an accepted step leads to, and what came of it.
use Rattle.std.specs.Prelude.{ℕ, max, Bool, true, false, Some}
use Rattle.suits.specs.declared.Suit.{Suit}
use Rattle.base.specs.Choice.{when◌then◌else◌}
use Rattle.base.specs.Numbers.{rank_of}
use Rattle.register.specs.declared.Register.{Register}
use Rattle.register.specs.declared.StorageBox.{StorageBox}
use Rattle.requests.specs.Requests.{of_phase, verdict_of}
use Rattle.requests.specs.declared.Phase.{Phase}
use Rattle.requests.specs.declared.Verdict.{Verdict}
use Rattle.requests.specs.declared.Verdict.TheVariants.{Open, Yes, No}
use Rattle.commands.specs.declared.Command.{Command}
use Rattle.commands.specs.declared.Command.TheVariants.{Begin, Serve, Deliver, Stop, Leave, Return, Malformed}
use Rattle.commands.specs.declared.Outcome.{Outcome}
use Rattle.commands.specs.declared.Outcome.TheVariants as said
use Rattle.attempts.specs.Stations.{with_state, is_in}
use Rattle.attempts.specs.Rows.{row_department, new_row, used_after, issued, revision_of, row_served, register_served, requests_heard, row_heard}
use Rattle.attempts.specs.declared.State.TheVariants as state
use Rattle.attempts.specs.declared.Station.{Station}
use Rattle.attempts.specs.declared.Row.{Row}
use Rattle.floor.specs.Floors.{box_at, station_at, row_at, owner_at, register_at, department_at, used_of, highest_of, with_share, with_box, with_register, with_station, with_row}
use Rattle.floor.specs.Free.{next_row}
use Rattle.floor.specs.declared.Share.{Share}
use Rattle.floor.specs.declared.Floor.{Floor}
use Rattle.floor.specs.declared.Stepped.{Stepped}

-- a floor and what the step that led to it said
abbrev pub stepped : (f : Floor) (o : Outcome) → Stepped
stepped f o = record { floor = f; outcome = o }

-- "1 Begin (station, round, revision): a new row, a read request waiting at every box; the station is reading." The row is the next of the
-- station's department or, wish 5, one that is given back: all in it is new, which "drops its answers still on the way".
abbrev pub row_taken : (f : Floor) (station : ℕ) → ℕ
row_taken f station = next_row f (department_at f station)

abbrev pub beginner : (f : Floor) (station round : ℕ) → Station
beginner f station round =
    record { department = department_at f station; state = state.Reading (row_taken f station); last = round; decided = (station_at f station).decided }

-- "the highest rank begun alone, which the floor keeps", and of its rows one more in use, in the department
abbrev pub highest_after : (f : Floor) (station round : ℕ) → ℕ
highest_after f station round = max (highest_of f (department_at f station)) (rank_of round station)

abbrev pub share_after : (f : Floor) (station round : ℕ) → Share
share_after f station round = record { used = used_after (used_of f (department_at f station)); highest = highest_after f station round }

abbrev pub after_begin : (f : Floor) (station round : ℕ) (revision : Suit) → Floor
after_begin f station round revision =
    with_share (department_at f station)
    (with_station (with_row f (row_taken f station) (new_row f.n station round revision)) station (beginner f station round))
    (share_after f station round)

-- "2, 3 Serve a read (2) or a write (3) of attempt a at box b: the routine runs and its answer is on the way." Wish 6: "A serve or delivery
-- belongs to its row's department": the routine runs on the box's record of that department.
abbrev pub served_by : (f : Floor) (a b : ℕ) → Register
served_by f a b = register_at f (row_department a) b

abbrev pub after_serve : (f : Floor) (phase : Phase) (a b : ℕ) → Floor
after_serve f phase a b =
    with_row (with_register (row_department a) f b (register_served phase (row_at f a) (served_by f a b))) a
    (row_served phase (row_at f a) (served_by f a b) b)

-- "4, 5 Deliver a read answer (4) or a write answer (5) of a from b: it becomes received": the row a then
abbrev pub heard_row : (f : Floor) (phase : Phase) (a b : ℕ) → Row
heard_row f phase a b = row_heard phase (row_at f a) b

-- "Answers outside the current phase are received without effect."
abbrev pub received_on : (f : Floor) (phase : Phase) (a b : ℕ) → Stepped
received_on f phase a b = stepped (with_row f a (heard_row f phase a b)) (said.Received a)

-- "The write carries the attempt's own rank, waits at every box, and the station is writing": the attempt a, with the row w
abbrev pub after_issue : (f : Floor) (a : ℕ) (w : Row) (revision : Suit) → Floor
after_issue f a w revision =
    with_station (with_row f a (issued w revision f.n)) w.station (with_state (station_at f w.station) (state.Writing a))

-- "When the q-th read answer of its current attempt reaches a reading station, it takes the answer with the highest write rank .. If that
-- answer holds nothing, it writes its own offer, otherwise that answer's value."
abbrev pub read_ended_on : (f : Floor) (a : ℕ) (w : Row) → Stepped
read_ended_on f a w = stepped (after_issue f a w (revision_of w f.n)) (said.WriteIssued (revision_of w f.n))

-- "When the q-th write answer reaches a writing station, it decides if all q say taken; otherwise it aborts and is idle." Wish 7: "A station
-- keeps whether it decided", and which revision.
abbrev pub deciding : (x : Station) (a : ℕ) (revision : Suit) → Station
deciding x a revision = record { department = x.department; state = state.Decided a; last = x.last; decided = Some revision }

abbrev pub decider : (f : Floor) (a : ℕ) (w : Row) → Station
decider f a w = deciding (station_at f w.station) a w.written

abbrev pub after_decision : (f : Floor) (a : ℕ) (w : Row) → Floor
after_decision f a w = with_station (with_row f a w) w.station (decider f a w)

abbrev pub write_ended_on : (f : Floor) (a : ℕ) (w : Row) → Stepped
write_ended_on f a w = stepped (after_decision f a w) (said.Decided w.written)

abbrev pub after_abort : (f : Floor) (a : ℕ) (w : Row) → Floor
after_abort f a w = with_station (with_row f a w) w.station (with_state (station_at f w.station) state.Idle)

-- what the answers of that phase that are received then, "this one included", come to
abbrev pub verdict_on : (f : Floor) (phase : Phase) (a b : ℕ) → Verdict
verdict_on f phase a b = verdict_of phase (requests_heard phase (row_at f a) b) f.n

-- What comes of them: nothing yet; the write is issued, or the station decides; or it aborts, since one of them says "not taken"
-- or, wish 2, "outranked".
abbrev pub heard_on : (f : Floor) (phase : Phase) (a b : ℕ) (v : Verdict) → Stepped
heard_on f phase a b Open = received_on f phase a b
heard_on f phase a b Yes = of_phase phase (read_ended_on f a (heard_row f phase a b)) (write_ended_on f a (heard_row f phase a b))
heard_on f phase a b No = stepped (after_abort f a (heard_row f phase a b)) (said.Aborted a)

-- a delivery, to a station that is in that phase of the attempt, or to any other
unfoldable pub delivered_on : (f : Floor) (phase : Phase) (a b : ℕ) → Stepped
delivered_on f phase a b =
    when is_in phase (owner_at f a).state a then heard_on f phase a b (verdict_on f phase a b)
    else received_on f phase a b

-- Wish 8: "Our boxes lose power and return with their records": both records of the box x stay, whether it is away or not
abbrev pub with_away : (away : Bool) (x : StorageBox) → StorageBox
with_away away x = record { registers = x.registers; away = away }

-- "6 Stop box b", wish 8: no longer "for good". "Kind 8 puts a box away", "Kind 6 is read as kind 8", "Requests waiting there wait on": no
-- row changes. "both .. shared as kind 6"
abbrev pub after_stop : (f : Floor) (b : ℕ) → Floor
after_stop f b = with_box f b (with_away true (box_at f b))

-- "kind 9 brings it back"
abbrev pub after_return : (f : Floor) (b : ℕ) → Floor
after_return f b = with_box f b (with_away false (box_at f b))

-- "7 Gone: a station leaves for good."
abbrev pub after_leave : (f : Floor) (s : ℕ) → Floor
after_leave f s = with_station f s (with_state (station_at f s) state.Gone)

-- what an accepted step leads to, and says
abbrev pub effect_on : (f : Floor) (c : Command) → Stepped
effect_on f (Begin s round v) = stepped (after_begin f s round v) (said.Begun (row_taken f s))
effect_on f (Serve p a b) = stepped (after_serve f p a b) (said.Served a)
effect_on f (Deliver p a b) = delivered_on f p a b
effect_on f (Stop b) = stepped (after_stop f b) (said.Stopped b)
effect_on f (Leave s) = stepped (after_leave f s) (said.Gone s)
effect_on f (Return b) = stepped (after_return f b) (said.Back b)
effect_on f Malformed = stepped f (said.Refused 7)
