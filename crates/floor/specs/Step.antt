-- Document 01, "Steps" and "Turned back": the single step.
use Rattle.std.specs.Prelude.{ℕ, List, eqb}
use Rattle.base.specs.Choice.{when◌then◌else◌}
use Rattle.commands.specs.Commands.{command_of}
use Rattle.commands.specs.Outcomes.{value_of}
use Rattle.commands.specs.declared.Command.{Command}
use Rattle.commands.specs.declared.Outcome.TheVariants.{Refused}
use Rattle.floor.specs.Sound.{sound_of}
use Rattle.floor.specs.Refusals.{refusal_on}
use Rattle.floor.specs.Effects.{effect_on}
use Rattle.floor.specs.declared.Floor.{Floor}
use Rattle.floor.specs.declared.Stepped.{Stepped}

-- "A refusal gives its number. Floor, record and reply stay unchanged"
abbrev pub refused : (f : Floor) (k : ℕ) → Stepped
refused f k = record { floor = f; outcome = Refused k }

-- a step on a sound floor
unfoldable pub play_of : (f : Floor) (c : Command) → Stepped
play_of f c =
    when eqb (refusal_on f c) 0 then effect_on f c
    else refused f (refusal_on f c)

-- "Step: 6 to 14": the step on a decoded command
unfoldable pub apply_of : (f : Floor) (c : Command) → Stepped
apply_of f c = when sound_of f then play_of f c else refused f 6

-- "A single step is handed in as its 8-byte record, by value."
unfoldable pub step_of : (f : Floor) (r : List ℕ) → Stepped
step_of f r = apply_of f (command_of r)

-- Document 01's number and value of what a step says. The number of its refusal, 0 where it is accepted: what `number_of` gives of its
-- outcome
unfoldable pub refusal_of : (f : Floor) (c : Command) → ℕ
refusal_of f c = when sound_of f then refusal_on f c else 6

-- the value: 0 where it is refused
abbrev pub value_said : (f : Floor) (c : Command) → ℕ
value_said f c = value_of (apply_of f c).outcome
