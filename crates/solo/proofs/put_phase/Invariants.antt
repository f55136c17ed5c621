use Rattle.solo.proofs.WrittenLaws.{Writing}
use Rattle.solo.proofs.put_phase.Given as goal

abbrev pub invariant-loop-b : goal.invariant-loop-b
invariant-loop-b l =
    (goal.iterator-loop-b).can_next l.b-iterator × (goal.iterator-loop-b).is_finite l.b-iterator × Writing l.initial.out l.at l.p l.a l.out l.end l.yielded
