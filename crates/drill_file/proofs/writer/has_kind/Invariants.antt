use Rattle.drill_file.proofs.WriterLaws.{NoneOf}
use Rattle.drill_file.proofs.writer.has_kind.Given as goal

abbrev pub invariant-loop-record : goal.invariant-loop-record
invariant-loop-record l = NoneOf l.kind l.records l.record-index
