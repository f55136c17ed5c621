-- Internal. The parts of a floor that `turn` of `steps` reads for one step and stores behind it, and the step on these alone: words of
-- private contracts. No promise rests on this file: what a step is on a floor stands in crates/floor/specs, and crates/floor/proofs/Joins
-- shows that on a sound floor the two are the same.
use Rattle.std.specs.Prelude.{ℕ, ◌+◌, max, Bool, true, false, eqb, leb, Some}
use Rattle.base.specs.Choice.{when◌then◌else◌}
use Rattle.base.specs.Numbers.{rank_of}
use Rattle.suits.specs.declared.Suit.{Suit}
use Rattle.register.specs.declared.Register.{Register}
use Rattle.requests.specs.Requests.{of_phase, standing_of, is_waiting, is_on_the_way, verdict_of}
use Rattle.requests.specs.declared.Phase.{Phase}
use Rattle.requests.specs.declared.Verdict.{Verdict}
use Rattle.requests.specs.declared.Verdict.TheVariants.{Open, Yes, No}
use Rattle.commands.specs.declared.Command.{Command}
use Rattle.commands.specs.declared.Command.TheVariants.{Begin, Serve, Deliver, Stop, Leave, Return, Malformed}
use Rattle.commands.specs.declared.Outcome.{Outcome}
use Rattle.commands.specs.declared.Outcome.TheVariants as said
use Rattle.attempts.specs.Stations.{is_gone, is_busy, is_in, with_state}
use Rattle.attempts.specs.Rows.{requests_of, new_row, revision_of, used_after, issued, row_served, register_served, requests_heard, row_heard}
use Rattle.attempts.specs.declared.State.TheVariants as state
use Rattle.attempts.specs.declared.Station.{Station}
use Rattle.attempts.specs.declared.Row.{Row}
use Rattle.parts.specs.declared.Parts.{Parts}
use Rattle.parts.specs.declared.Changed.{Changed}

-- Refusals 7 to 14 and 23, 0 where the step is accepted.
unfoldable pub begin_in : (x : Parts) (s round : ℕ) → ℕ
begin_in x s round =
    when leb x.m s then 8
    else when is_gone x.station.state then 9
    else when is_busy x.station.state then 10
    else when eqb round 0 then 11
    else when leb round x.station.last then 11
    else when leb 128 x.next then 12
    else 0

unfoldable pub serve_in : (x : Parts) (p : Phase) (a b : ℕ) → ℕ
serve_in x p a b =
    when leb (x.first + x.used) a then 8
    else when leb x.n b then 8
    else when x.away then 13
    else when is_waiting (standing_of (requests_of p x.row) b) then 0
    else 14

unfoldable pub deliver_in : (x : Parts) (p : Phase) (a b : ℕ) → ℕ
deliver_in x p a b =
    when leb (x.first + x.used) a then 8
    else when leb x.n b then 8
    else when is_gone x.station.state then 9
    else when is_on_the_way (standing_of (requests_of p x.row) b) then 0
    else 14

unfoldable pub stop_in : (x : Parts) (b : ℕ) → ℕ
stop_in x b =
    when leb x.n b then 8
    else when x.away then 13
    else 0

unfoldable pub leave_in : (x : Parts) (s : ℕ) → ℕ
leave_in x s =
    when leb x.m s then 8
    else when is_gone x.station.state then 9
    else 0

unfoldable pub return_in : (x : Parts) (b : ℕ) → ℕ
return_in x b =
    when leb x.n b then 8
    else when x.away then 0
    else 23

abbrev pub refusal_in : (x : Parts) (c : Command) → ℕ
refusal_in x (Begin s round v) = begin_in x s round
refusal_in x (Serve p a b) = serve_in x p a b
refusal_in x (Deliver p a b) = deliver_in x p a b
refusal_in x (Stop b) = stop_in x b
refusal_in x (Leave s) = leave_in x s
refusal_in x (Return b) = return_in x b
refusal_in x Malformed = 7

-- row, register, whether the box is away, and station replaced
abbrev pub with_parts : (x : Parts) (row : Row) (register : Register) (away : Bool) (station : Station) → Parts
with_parts x row register away station =
    record {
      n = x.n;
      m = x.m;
      first = x.first;
      used = x.used;
      next = x.next;
      highest = x.highest;
      row = row;
      register = register;
      away = away;
      station = station;
    }

-- What an accepted step does to the parts, and what it says.
unfoldable pub begun : (x : Parts) (s round : ℕ) (v : Suit) → Changed
begun x s round v =
    record {
      parts = record {
        n = x.n;
        m = x.m;
        first = x.first;
        used = used_after x.used;
        next = x.next;
        highest = max x.highest (rank_of round s);
        row = new_row x.n s round v;
        register = x.register;
        away = x.away;
        station = record { department = x.station.department; state = state.Reading x.next; last = round; decided = x.station.decided };
      };
      outcome = said.Begun x.next;
    }

unfoldable pub served : (x : Parts) (p : Phase) (a b : ℕ) → Changed
served x p a b =
    record {
      parts = with_parts x (row_served p x.row x.register b) (register_served p x.row x.register) x.away x.station;
      outcome = said.Served a;
    }

-- the row w is the attempt's, its answer received
abbrev pub received_only : (x : Parts) (a : ℕ) (w : Row) → Changed
received_only x a w = record { parts = with_parts x w x.register x.away x.station; outcome = said.Received a }

abbrev pub write_issued : (x : Parts) (a : ℕ) (w : Row) (v : Suit) → Changed
write_issued x a w v =
    record {
      parts = with_parts x (issued w v x.n) x.register x.away (with_state x.station (state.Writing a));
      outcome = said.WriteIssued v;
    }

unfoldable pub read_ended : (x : Parts) (a : ℕ) (w : Row) → Changed
read_ended x a w = write_issued x a w (revision_of w x.n)

abbrev pub aborted_by : (x : Parts) (a : ℕ) (w : Row) → Changed
aborted_by x a w = record { parts = with_parts x w x.register x.away (with_state x.station state.Idle); outcome = said.Aborted a }

abbrev pub decided_by : (x : Parts) (a : ℕ) (w : Row) → Changed
decided_by x a w =
    record {
      parts = with_parts x w x.register x.away (record { department = x.station.department; state = state.Decided a; last = x.station.last; decided = Some w.written });
      outcome = said.Decided w.written;
    }

-- what came of the answers received
abbrev pub heard_by : (x : Parts) (p : Phase) (a : ℕ) (w : Row) (v : Verdict) → Changed
heard_by x p a w Open = received_only x a w
heard_by x p a w Yes = of_phase p (read_ended x a w) (decided_by x a w)
heard_by x p a w No = aborted_by x a w

unfoldable pub delivered : (x : Parts) (p : Phase) (a b : ℕ) → Changed
delivered x p a b =
    when is_in p x.station.state a then heard_by x p a (row_heard p x.row b) (verdict_of p (requests_heard p x.row b) x.n)
    else received_only x a (row_heard p x.row b)

abbrev pub stopped_box : (x : Parts) (b : ℕ) → Changed
stopped_box x b = record { parts = with_parts x x.row x.register true x.station; outcome = said.Stopped b }

abbrev pub returned_box : (x : Parts) (b : ℕ) → Changed
returned_box x b = record { parts = with_parts x x.row x.register false x.station; outcome = said.Back b }

abbrev pub gone_station : (x : Parts) (s : ℕ) → Changed
gone_station x s = record { parts = with_parts x x.row x.register x.away (with_state x.station state.Gone); outcome = said.Gone s }

-- the parts after a step, and what it said
abbrev pub changed : (parts : Parts) (outcome : Outcome) → Changed
changed parts outcome = record { parts = parts; outcome = outcome }

abbrev pub turned_back : (x : Parts) (k : ℕ) → Changed
turned_back x k = record { parts = x; outcome = said.Refused k }

abbrev pub effect_in : (x : Parts) (c : Command) → Changed
effect_in x (Begin s round v) = begun x s round v
effect_in x (Serve p a b) = served x p a b
effect_in x (Deliver p a b) = delivered x p a b
effect_in x (Stop b) = stopped_box x b
effect_in x (Leave s) = gone_station x s
effect_in x (Return b) = returned_box x b
effect_in x Malformed = turned_back x 7

-- the step, refused or accepted
unfoldable pub change_in : (x : Parts) (c : Command) → Changed
change_in x c = when eqb (refusal_in x c) 0 then effect_in x c else turned_back x (refusal_in x c)
