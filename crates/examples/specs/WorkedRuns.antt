-- The runs of the lettered examples: steps on a new floor, and what is looked at after them.
use Rattle.std.specs.Prelude.{ℕ, zero, suc, ◌+◌, Bool, List, [], ◌∷◌, map, length, get_or}
use Rattle.suits.specs.Suits.{single}
use Rattle.suits.specs.declared.Suit.{Suit}
use Rattle.base.specs.Choice.{when◌then◌else◌}
use Rattle.base.specs.Refusals.{number_if}
use Rattle.register.specs.declared.Register.{Register}
use Rattle.requests.specs.Requests.{slot_at, heard_from}
use Rattle.requests.specs.declared.Phase.TheVariants.{Read, Write}
use Rattle.register.specs.declared.Department.TheVariants.{Sails}
use Rattle.floor.specs.Floors.{row_at, station_at, register_at, new_floor_of}
use Rattle.attempts.specs.Rows.{answer0}
use Rattle.commands.specs.Commands.{encode_of}
use Rattle.floor.specs.Step.{step_of}
use Rattle.floor.specs.Runs.{floor_left, said_at}
use Rattle.attempts.specs.declared.Row.{Row}
use Rattle.floor.specs.declared.Floor.{Floor}
use Rattle.commands.specs.declared.Outcome.{Outcome}
use Rattle.commands.specs.declared.Command.{Command}
use Rattle.commands.specs.declared.Command.TheVariants.{Begin, Serve, Deliver}
use Rattle.solo.specs.Solo.{solo_of}
use Rattle.drill_file.specs.DrillFile.{label_of}
use Rattle.player.specs.Play.{played_of, last_rank}
use Rattle.examples.specs.Row.{StationLine, Printed, Shown, gathered, drove}

-- a new floor of n boxes, with stations 0 and 1, both sails
abbrev pub new_floor : (n : ℕ) → Floor
new_floor n = (new_floor_of n 2 (0 ∷ 0 ∷ [])).floor

-- the floor after some steps, each handed in as its record
abbrev pub floor_after : (n : ℕ) (cs : List Command) → Floor
floor_after n cs = floor_left (new_floor n) (map encode_of cs)

-- what each of the k steps from i on says
unfoldable pub said_from : (k i : ℕ) (f : Floor) (l : List (List ℕ)) → List Outcome
said_from zero i f l = []
said_from (suc k) i f l = said_at f l i ∷ said_from k (i + 1) f l

abbrev pub said_after : (n : ℕ) (cs : List Command) → List Outcome
said_after n cs = said_from (length cs) 0 (new_floor n) (map encode_of cs)

-- the answers to a row's reads, received from the k boxes from b on
unfoldable pub answers_from : (k b : ℕ) (w : Row) → List (ℕ × Suit)
answers_from zero b w = []
answers_from (suc k) b w =
    when heard_from w.read b then ((get_or w.answers b answer0).rank, (get_or w.answers b answer0).value) ∷ answers_from k (b + 1) w
    else answers_from k (b + 1) w

-- on a floor of n boxes, some steps, and then a step that delivers a read answer of attempt a
abbrev pub gathered_by : (n : ℕ) (cs : List Command) (c : Command) (a : ℕ) → Shown
gathered_by n cs c a =
    let s = step_of (floor_after n cs) (encode_of c) in
    gathered (row_at s.floor a).rank (answers_from n 0 (row_at s.floor a)) s.outcome

-- at boxes 0, 1 and 2: whether attempt a's write was taken, and what the register holds
abbrev pub taken_at : (f : Floor) (a : ℕ) → List Bool
taken_at f a = (slot_at (row_at f a).write 0).ok ∷ (slot_at (row_at f a).write 1).ok ∷ (slot_at (row_at f a).write 2).ok ∷ []

abbrev pub held_on : (f : Floor) → List Register
held_on f = register_at f Sails 0 ∷ register_at f Sails 1 ∷ register_at f Sails 2 ∷ []

-- on a floor of n boxes, some steps, and then a solo finish of station 0 with revision 7
abbrev pub solo_after : (n : ℕ) (cs : List Command) → Shown
solo_after n cs =
    let d = solo_of (floor_after n cs) 0 (single 7) in
    drove d.steps d.outcome

-- the lines of k stations from s on
unfoldable pub lines_from : (k s : ℕ) (f : Floor) → List StationLine
lines_from zero s f = []
lines_from (suc k) s f =
    record { number = s; state = (station_at f s).state; rank = last_rank (station_at f s).last s; decided = (station_at f s).decided }
    ∷ lines_from k (s + 1) f

-- what the program drill prints of an accepted file: "a line `panel`, label, `boxes`, n, `stations`, m; for each station in order
-- .. last `end`, accepted steps, refusal (0 if none)"
abbrev pub printed_of : (file : List ℕ) → Printed
printed_of file =
    let p = played_of file in
    record {
      label = label_of file;
      boxes = p.floor.n;
      stations = p.floor.m;
      lines = lines_from p.floor.m 0 p.floor;
      accepted = p.accepted;
      refusal = number_if p.refusal;
    }

-- G: attempt 0 (rank 16, 7) has written at box 1; attempt 1 (rank 33) reads at box 0, where nothing was written, and at box 1
abbrev pub run_g : List Command
run_g = Begin 0 1 (single 7) ∷ Serve Read 0 0 ∷ Deliver Read 0 0 ∷ Serve Read 0 1 ∷ Deliver Read 0 1 ∷ Serve Write 0 1
    ∷ Begin 1 2 (single 9) ∷ Serve Read 1 0 ∷ Deliver Read 1 0 ∷ Serve Read 1 1 ∷ []

-- H: an attempt reads at boxes 0 and 1, where nothing was written
abbrev pub run_h : List Command
run_h = Begin 0 1 (single 7) ∷ Serve Read 0 0 ∷ Deliver Read 0 0 ∷ Serve Read 0 1 ∷ []

-- I: "Attempt 0 (rank 16, 7) has read at boxes 0 and 1. Attempt 1 (rank 17, 9) reads and writes at 1 and 2 and decides 9. Attempt
-- 0's write is taken at 0, not at 1: it aborts. Its write at 2, served after that, is not taken."
abbrev pub run_i : List Command
run_i = Begin 0 1 (single 7) ∷ Serve Read 0 0 ∷ Deliver Read 0 0 ∷ Serve Read 0 1 ∷ Deliver Read 0 1
    ∷ Begin 1 1 (single 9) ∷ Serve Read 1 1 ∷ Deliver Read 1 1 ∷ Serve Read 1 2 ∷ Deliver Read 1 2
    ∷ Serve Write 1 1 ∷ Deliver Write 1 1 ∷ Serve Write 1 2 ∷ Deliver Write 1 2
    ∷ Serve Write 0 0 ∷ Deliver Write 0 0 ∷ Serve Write 0 1 ∷ Deliver Write 0 1 ∷ Serve Write 0 2 ∷ []

-- K: "Bytes 00 30 01 01 01 04 6C 75 66 66, then 01 00 00 01 00 00 00 07, then four records starting 02, 04, 03, 05 with seven zero
-- bytes each"
abbrev pub file_k : List ℕ
file_k = 0x00 ∷ 0x30 ∷ 0x01 ∷ 0x01 ∷ 0x01 ∷ 0x04 ∷ 0x6C ∷ 0x75 ∷ 0x66 ∷ 0x66
    ∷ 1 ∷ 0 ∷ 0 ∷ 1 ∷ 0 ∷ 0 ∷ 0 ∷ 7
    ∷ 2 ∷ 0 ∷ 0 ∷ 0 ∷ 0 ∷ 0 ∷ 0 ∷ 0
    ∷ 4 ∷ 0 ∷ 0 ∷ 0 ∷ 0 ∷ 0 ∷ 0 ∷ 0
    ∷ 3 ∷ 0 ∷ 0 ∷ 0 ∷ 0 ∷ 0 ∷ 0 ∷ 0
    ∷ 5 ∷ 0 ∷ 0 ∷ 0 ∷ 0 ∷ 0 ∷ 0 ∷ 0 ∷ []
