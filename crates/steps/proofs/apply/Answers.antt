use mathlib.Core.Path.{◌∙◌, sym, ap}
use Rattle.commands.specs.Outcomes.{number_of}
use Rattle.floor.specs.declared.Stepped.{Stepped}
use Rattle.floor.proofs.StepLaws.{apply_unsound}
use Rattle.floor.proofs.Numbered.{apply_number}
use Rattle.steps.proofs.apply.Goals as goal

pub returns-then-not-sound_here-clause-number : goal.returns-then-not-sound_here-clause-number
returns-then-not-sound_here-clause-number c =
    c.number.ensures ∙ ap (λ (s : Stepped). number_of s.outcome) (sym (apply_unsound c.args.f c.args.c (sym c.sound_here.ensures ∙ c.if-not-sound_here.true))) ∙ apply_number c.args.f c.args.c

pub returns-clause-number : goal.returns-clause-number
returns-clause-number c = ap (λ (s : Stepped). number_of s.outcome) c.turn-outcome.ensures.stepped ∙ apply_number c.args.f c.args.c
