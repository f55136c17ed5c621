use mathlib.Core.Path.{◌∙◌, sym}
use Rattle.floor.proofs.RunLaws.{turn_of, turn_refused, turn_accepted, turn_sound}
use Rattle.steps.proofs.turn.Goals as goal

pub returns-then-refused-clause-stepped : goal.returns-then-refused-clause-stepped
returns-then-refused-clause-stepped c =
    turn_refused
    (turn_of c.args.f.now.floor.now c.args.c c.args.f.now.sound c.station_place-near.ensures c.department_in-d.ensures c.of-share.ensures c.taken-next.ensures c.row_place-i.ensures
    c.box_place-b.ensures c.station_place-j.ensures c.first_row.ensures c.of.ensures c.change-outcome.ensures)
    (sym c.refused.ensures ∙ c.if-refused.true)

-- what the accepted step leaves is sound
pub invariant_of-f-2 : goal.invariant_of-f-2
invariant_of-f-2 c = record {
  sound =
      turn_sound c.args.f.now.floor.now c.args.c
      (turn_accepted
      (turn_of c.args.f.now.floor.now c.args.c c.args.f.now.sound c.station_place-near.ensures c.department_in-d.ensures c.of-share.ensures c.taken-next.ensures c.row_place-i.ensures
      c.box_place-b.ensures c.station_place-j.ensures c.first_row.ensures c.of.ensures c.change-outcome.ensures)
      (sym c.refused.ensures ∙ c.if-refused.false) c.with.ensures c.with-f.ensures)
      c.args.f.now.sound;
}

pub returns-clause-stepped : goal.returns-clause-stepped
returns-clause-stepped c =
    turn_accepted
    (turn_of c.args.f.now.floor.now c.args.c c.args.f.now.sound c.station_place-near.ensures c.department_in-d.ensures c.of-share.ensures c.taken-next.ensures c.row_place-i.ensures
    c.box_place-b.ensures c.station_place-j.ensures c.first_row.ensures c.of.ensures c.change-outcome.ensures)
    (sym c.refused.ensures ∙ c.if-refused.false) c.with.ensures c.with-f.ensures
