use mathlib.Core.Path.{◌≡◌, ◌∙◌, ap}
use borrow.Author.Rules.{rules}
use Rattle.commands.specs.Outcomes.{number_of, value_of}
use Rattle.floor.specs.Runs.{ran_with, driven_in}
use Rattle.floor.specs.declared.Ran.{Ran}
use Rattle.floor.proofs.RunCalls.{run_asked, run_sound_here, driven_refused, driven_whole}
use Rattle.steps.proofs.drive.Goals as goal

pub returns-in-Err-clause-ran : goal.returns-in-Err-clause-ran
returns-in-Err-clause-ran c = rw c.number.ensures (driven_refused _ _ _ (run_asked _ _ _ c.run_refusal.ensures c.sound_here.ensures) _ _ c.in-Err.is)

pub returns-in-Err-clause-number : goal.returns-in-Err-clause-number
returns-in-Err-clause-number c = c.number.ensures ∙ ap (λ (x : Ran). number_of x.outcome) (driven_refused _ _ _ (run_asked _ _ _ c.run_refusal.ensures c.sound_here.ensures) _ _ c.in-Err.is)

pub returns-in-Err-clause-value : goal.returns-in-Err-clause-value
returns-in-Err-clause-value c = ap (λ (x : Ran). value_of x.outcome) (driven_refused _ _ _ (run_asked _ _ _ c.run_refusal.ensures c.sound_here.ensures) _ _ c.in-Err.is)

pub invariant_of-run_sound : goal.invariant_of-run_sound
invariant_of-run_sound c = record { sound = run_sound_here _ c.args.records.now _ (run_asked _ _ _ c.run_refusal.ensures c.sound_here.ensures) _ c.in_default.is }

pub returns-clause-ran : goal.returns-clause-ran
returns-clause-ran c =
    let r = c.run_sound-accepted.result in
    let e : ran_with c.run_sound-accepted.new.f.floor.now r.0 r.1 ≡ driven_in c.args.f c.args.first c.args.records.now = driven_whole _ _ _ (run_asked _ _ _ c.run_refusal.ensures c.sound_here.ensures) _ _ c.in_default.is _ (rw (← c.decode.ensures) c.run_sound-accepted.ensures.ran) in
    search rules

pub returns-clause-number : goal.returns-clause-number
returns-clause-number c =
    let r = c.run_sound-accepted.result in
    let e : ran_with c.run_sound-accepted.new.f.floor.now r.0 r.1 ≡ driven_in c.args.f c.args.first c.args.records.now = driven_whole _ _ _ (run_asked _ _ _ c.run_refusal.ensures c.sound_here.ensures) _ _ c.in_default.is _ (rw (← c.decode.ensures) c.run_sound-accepted.ensures.ran) in
    ap (λ (x : Ran). number_of x.outcome) e

pub returns-clause-value : goal.returns-clause-value
returns-clause-value c =
    let r = c.run_sound-accepted.result in
    let e : ran_with c.run_sound-accepted.new.f.floor.now r.0 r.1 ≡ driven_in c.args.f c.args.first c.args.records.now = driven_whole _ _ _ (run_asked _ _ _ c.run_refusal.ensures c.sound_here.ensures) _ _ c.in_default.is _ (rw (← c.decode.ensures) c.run_sound-accepted.ensures.ran) in
    ap (λ (x : Ran). value_of x.outcome) e
