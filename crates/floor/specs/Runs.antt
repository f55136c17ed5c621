-- The steps of a list of records, "each step given the floor that the last one left".
use Rattle.std.specs.Prelude.{ℕ, List, [], ◌∷◌, Bool, eqb, length, get_or, Some, None}
use Rattle.base.specs.Choice.{when◌then◌else◌}
use Rattle.base.specs.Refusals.{named}
use Rattle.base.specs.Records.{records_in}
use Rattle.commands.specs.Commands.{command_of}
use Rattle.commands.specs.Outcomes.{refusal_said, is_refused, is_end}
use Rattle.commands.specs.declared.Command.{Command}
use Rattle.commands.specs.declared.Outcome.{Outcome}
use Rattle.commands.specs.declared.Outcome.TheVariants.{Refused}
use Rattle.runs.specs.Runs.{state_at, stops_by, ran_from, refusal_by}
use Rattle.runs.specs.declared.Until.{Until}
use Rattle.runs.specs.declared.Until.TheVariants.{Refusal, End}
use Rattle.floor.specs.Sound.{sound_of}
use Rattle.floor.specs.Step.{apply_of, step_of}
use Rattle.floor.specs.declared.Floor.{Floor}
use Rattle.floor.specs.declared.Ran.{Ran}
use Rattle.floor.specs.declared.Played.{Played}

-- "It holds single steps with any bytes": a record is a list of numbers, whatever they are and however many. Behind the end of the list a
-- record has no bytes, and its step is refused. What the step at i asks:
abbrev pub command_at : (l : List (List ℕ)) (i : ℕ) → Command
command_at l i = command_of (get_or l i [])

-- The list by positions, from 0; behind its end a record has no bytes, and its step is refused.
module _ (f : Floor) (l : List (List ℕ)) where
  -- "Each step is given the floor that the one before handed back, after a refused one too": the floor before the step at i
  abbrev pub floor_at : (i : ℕ) → Floor
  floor_at i = state_at [] (λ (g : Floor) (r : List ℕ). (step_of g r).floor) f l i

  -- what the step at i said
  abbrev pub said_at : (i : ℕ) → Outcome
  said_at i = (step_of (floor_at i) (get_or l i [])).outcome

  -- the floor that the list left
  abbrev pub floor_left : Floor
  floor_left = floor_at (length l)

-- A run ends behind a step that was refused, or also behind one that ended an attempt.
abbrev pub stops_at : (until : Until) (o : Outcome) → Bool
stops_at until o = stops_by until (is_refused o) (is_end o)

-- what a run hands back
abbrev pub ran_with : (f : Floor) (k : ℕ) (o : Outcome) → Ran
ran_with f k o = record { floor = f; accepted = k; outcome = o }

-- the command c and then the records rs, after k accepted steps
abbrev pub run_from : (until : Until) (k : ℕ) (f : Floor) (c : Command) (rs : List (List ℕ)) → Ran
run_from until k f c rs =
    ran_from is_refused is_end command_of (λ (g : Floor) (x : Command). (apply_of g x).floor) (λ (g : Floor) (x : Command). (apply_of g x).outcome) ran_with until k f c rs

-- a run of one record and those behind it
abbrev pub run_of : (until : Until) (f : Floor) (r : List ℕ) (rs : List (List ℕ)) → Ran
run_of until f r rs = run_from until 0 f (command_of r) rs

-- "It stops at the first refused record": the floor that the accepted steps left, how many they are, and the refusal, if any
unfoldable pub played_on : (f : Floor) (rs : List (List ℕ)) → Played
played_on f [] = record { floor = f; accepted = 0; refusal = None }
played_on f (r ∷ rs) =
    record {
      floor = (run_of Refusal f r rs).floor;
      accepted = (run_of Refusal f r rs).accepted;
      refusal = refusal_said (run_of Refusal f r rs).outcome;
    }

-- Records handed in as a list of bytes: what turns it back before its first step
unfoldable pub run_refusal : (f : Floor) (bytes : List ℕ) → ℕ
run_refusal f bytes = refusal_by (sound_of f) (length bytes)

-- its records played
unfoldable pub played_in : (f : Floor) (bytes : List ℕ) → Played
played_in f bytes =
    when eqb (run_refusal f bytes) 0 then played_on f (records_in bytes)
    else record { floor = f; accepted = 0; refusal = Some (named (run_refusal f bytes)) }

-- a record and those behind it, up to the end of an attempt
unfoldable pub driven_in : (f : Floor) (r bytes : List ℕ) → Ran
driven_in f r bytes =
    when eqb (run_refusal f bytes) 0 then run_of End f r (records_in bytes)
    else record { floor = f; accepted = 0; outcome = Refused (run_refusal f bytes) }
