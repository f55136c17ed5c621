-- The row of an attempt: Figure 4's gathering of answers, and the choice of Figure 1.
use Rattle.std.specs.Prelude.{ℕ, zero, suc, ◌+◌, List, [], Bool, true, get_or, set, replicate, ltb, Option, Some, None, unwrap_or}
use Rattle.base.specs.Choice.{when◌then◌else◌}
use Rattle.base.specs.Numbers.{rank_of}
use Rattle.suits.specs.Suits.{suit0}
use Rattle.suits.specs.declared.Suit.{Suit}
pub use Rattle.register.specs.Register.{answer0}
use Rattle.register.specs.Register.{of_department, is_held, rank_in, value_in, holds_nothing, rmw_read, rmw_write}
use Rattle.register.specs.declared.Answer.{Answer}
use Rattle.register.specs.declared.Department.{Department}
use Rattle.register.specs.declared.Department.TheVariants.{Sails, Canvas}
use Rattle.register.specs.declared.Register.{Register}
use Rattle.register.specs.declared.ReadDone.{ReadDone}
use Rattle.requests.specs.Requests.{of_phase, requests0, none_issued, heard_from, standing_of, is_waiting, issued_to, served_at, received_from}
use Rattle.requests.specs.declared.Phase.{Phase}
use Rattle.requests.specs.declared.Requests.{Requests}
use Rattle.attempts.specs.declared.Row.{Row}

-- What a read past the end of an array gives by the language's own rule: 0, an array of no elements.
abbrev pub row0 : Row
row0 = record { station = 0; rank = 0; offer = suit0; written = suit0; read = requests0; answers = []; write = requests0 }

-- "On a new floor places not in use are 0, idle, not issued": a row that is not in use.
abbrev pub unused_row : Row
unused_row = record { station = 0; rank = 0; offer = suit0; written = suit0; read = none_issued; answers = replicate 9 answer0; write = none_issued }

-- Wish 6 of document 02: "Sails own rows 0 to 63 and canvas 64 to 127". The department that owns the row a, and the first row of a
-- department; a department has 64 rows from there on.
unfoldable pub row_department : (a : ℕ) → Department
row_department a = when ltb a 64 then Sails else Canvas

abbrev pub first_row : (department : Department) → ℕ
first_row department = of_department department 0 64

-- one phase of a row at every box
abbrev pub requests_of : (phase : Phase) (w : Row) → Requests
requests_of phase w = of_phase phase w.read w.write

-- the row w with one phase replaced
abbrev pub with_requests : (phase : Phase) (w : Row) (q : Requests) → Row
with_requests phase w q =
    record {
      station = w.station;
      rank = w.rank;
      offer = w.offer;
      written = w.written;
      read = of_phase phase q w.read;
      answers = w.answers;
      write = of_phase phase w.write q;
    }

-- "Begin (station, round, revision): a new row, a read request waiting at every box"
unfoldable pub new_row : (n station round : ℕ) (revision : Suit) → Row
new_row n station round revision =
    record {
      station = station;
      rank = rank_of round station;
      offer = revision;
      written = suit0;
      read = issued_to n;
      answers = replicate 9 answer0;
      write = none_issued;
    }

-- what a read was answered, in numbers: 0 and 0 where it is outranked
abbrev pub answer_of : (done : ReadDone) → Answer
answer_of done = unwrap_or done.answer answer0

-- "the routine runs and its answer is on the way": the row w once the box with this register has served its read or its write. What a
-- read was answered is kept with the row, and that it is outranked as a no.
abbrev pub row_served : (phase : Phase) (w : Row) (register : Register) (box : ℕ) → Row
row_served phase w register box =
    record {
      station = w.station;
      rank = w.rank;
      offer = w.offer;
      written = w.written;
      read = of_phase phase (served_at w.read box (is_held (rmw_read register w.rank).answer)) w.read;
      answers = of_phase phase (set w.answers box (answer_of (rmw_read register w.rank))) w.answers;
      write = of_phase phase w.write (served_at w.write box (rmw_write register w.rank w.written).taken);
    }

-- the box's register then
abbrev pub register_served : (phase : Phase) (w : Row) (register : Register) → Register
register_served phase w register = of_phase phase (rmw_read register w.rank).register (rmw_write register w.rank w.written).register

-- "it becomes received"
abbrev pub requests_heard : (phase : Phase) (w : Row) (box : ℕ) → Requests
requests_heard phase w box = received_from (requests_of phase w) box

abbrev pub row_heard : (phase : Phase) (w : Row) (box : ℕ) → Row
row_heard phase w box = with_requests phase w (requests_heard phase w box)

-- The better of two answers: a higher write rank is better, of equals the one found before stays.
unfoldable pub higher : (x answer : Answer) → Answer
higher x answer = when ltb x.rank answer.rank then answer else x

-- the best answer found so far, if any was, and one more answer, if that was received
abbrev pub best_with : (x : Option Answer) (answer : Answer) → Answer
best_with None answer = answer
best_with (Some x) answer = higher x answer

unfoldable pub better : (x : Option Answer) (received : Bool) (answer : Answer) → Option Answer
better x received answer = when received then Some (best_with x answer) else x

-- "the answer with the highest write rank among the q, of equals the lowest-numbered box's", among the first k boxes heard
unfoldable pub best_of : (answers : List Answer) (q : Requests) (k : ℕ) → Option Answer
best_of answers q zero = None
best_of answers q (suc k) = better (best_of answers q k) (heard_from q k) (get_or answers k answer0)

-- "If that answer holds nothing, it writes its own offer, otherwise that answer's value", which may be revision 0 (wish 7).
unfoldable pub revision_from : (x : Option Answer) (offer : Suit) → Suit
revision_from x offer = when holds_nothing (rank_in x) then offer else value_in x

unfoldable pub revision_of : (w : Row) (n : ℕ) → Suit
revision_of w n = revision_from (best_of w.answers w.read n) w.offer

-- Wish 5 of document 02: the read or the write of the row waits at the box.
unfoldable pub waits_at : (w : Row) (box : ℕ) → Bool
waits_at w box = when is_waiting (standing_of w.read box) then true else is_waiting (standing_of w.write box)

-- how many rows are in use once one was begun: one more, up to 64, from where on a row is given back
unfoldable pub used_after : (used : ℕ) → ℕ
used_after used = when ltb used 64 then used + 1 else used

-- "The write carries the attempt's own rank, waits at every box": the row with its write issued, none of it answered
unfoldable pub issued : (w : Row) (revision : Suit) (n : ℕ) → Row
issued w revision n =
    record {
      station = w.station;
      rank = w.rank;
      offer = w.offer;
      written = revision;
      read = w.read;
      answers = w.answers;
      write = issued_to n;
    }
