use native.Mathlib.Omega.{arith}
use mathlib.Core.Path.{◌∙◌, sym, ap}
use Rattle.commands.specs.Commands.{command_of}
use Rattle.runs.proofs.HandedLaws.{record_there}
use Rattle.floor.proofs.RunLaws.{ran_refused, ran_over, ran_left, ran_on}
use Rattle.steps.proofs.run_sound.Goals as goal

pub returns-then-refused-clause-ran : goal.returns-then-refused-clause-ran
returns-then-refused-clause-ran c =
    let l = c.loop-until in
    ran_refused l.f.floor.now l.c c.turn-outcome.ensures.stepped _ _ _ (sym c.refused.ensures ∙ c.if-refused.true) ∙ l.invariant.1

pub returns-then-over-clause-ran : goal.returns-then-over-clause-ran
returns-then-over-clause-ran c =
    let l = c.loop-until in
    ran_over l.f.floor.now l.c c.turn-outcome.ensures.stepped (sym c.refused.ensures ∙ c.if-refused.false) _ _ _ c.ends.ensures c.over.ensures _ c.if-over.true ∙ l.invariant.1

pub loop-until-smaller : goal.loop-until-smaller
loop-until-smaller c =
    let l = c.loop-until in
    let h = ran_left l.f.floor.now l.c c.turn-outcome.ensures.stepped (sym c.refused.ensures ∙ c.if-refused.false) _ _ _ c.ends.ensures c.over.ensures c.if-over.false in
    omega (arith, h)

pub loop-until-preserved : goal.loop-until-preserved
loop-until-preserved c =
    let l = c.loop-until in
    let e = c.turn-outcome.ensures.stepped in
    let t = sym c.refused.ensures ∙ c.if-refused.false in
    let h = ran_left l.f.floor.now l.c e t _ _ _ c.ends.ensures c.over.ensures c.if-over.false in
    let next = c.decode-c.ensures ∙ ap command_of (c.record_at.ensures ∙ record_there _ _ _ (omega (arith, h))) in (
      omega (arith, h),
      ran_on l.f.floor.now l.c e t _ _ _ c.ends.ensures c.over.ensures _ c.if-over.false _ next ∙ l.invariant.1,
      c.turn-outcome.ensures.same_reference ∙ l.invariant.2,
    )
