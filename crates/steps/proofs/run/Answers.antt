use mathlib.Core.Path.{◌≡◌, ◌∙◌, ap}
use borrow.Author.Rules.{rules}
use Rattle.floor.specs.Runs.{played_in}
use Rattle.floor.specs.declared.Played.{Played}
use Rattle.commands.specs.Commands.{command_of}
use Rattle.runs.proofs.HandedLaws.{record_there}
use Rattle.floor.proofs.RunCalls.{run_asked, run_sound_here, played_refused, played_whole, played_none, played_some}
use Rattle.steps.proofs.run.Goals as goal

pub returns-in-Err : goal.returns-in-Err
returns-in-Err c = played_refused _ _ _ (run_asked _ _ _ c.run_refusal.ensures c.sound_here.ensures) _ c.in-Err.is

pub returns-then-records-lt8 : goal.returns-then-records-lt8
returns-then-records-lt8 c =
    played_whole _ _ _ (run_asked _ _ _ c.run_refusal.ensures c.sound_here.ensures) _ c.in_default.is _ (played_none _ _ c.if-records-lt8.true)

pub invariant_of-run_sound : goal.invariant_of-run_sound
invariant_of-run_sound c = record { sound = run_sound_here _ c.args.records.now _ (run_asked _ _ _ c.run_refusal.ensures c.sound_here.ensures) _ c.in_default.is }

pub returns : goal.returns
returns c =
    let first = c.decode-first.ensures ∙ ap command_of (c.record_at.ensures ∙ record_there c.args.records.now 0 _ c.if-records-lt8.false) in
    let x : Played = record { floor = c.run_sound-accepted.new.f.floor.now; accepted = c.run_sound-accepted.result.0; refusal = c.refusal.result } in
    let e : x ≡ played_in c.args.f c.args.records.now =
    played_whole _ _ _ (run_asked _ _ _ c.run_refusal.ensures c.sound_here.ensures) _ c.in_default.is _
    (played_some _ c.if-records-lt8.false _ _ _ _ first c.run_sound-accepted.ensures.ran c.refusal.ensures) in
    search rules
