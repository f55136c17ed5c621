use mathlib.Core.Path.{sym}
use native.Mathlib.Omega.{arith}
use Rattle.drill_file.proofs.WriterLaws.{none_begins, none_further, kinds_hold}
use Rattle.drill_file.proofs.writer.has_kind.Goals as goal

pub loop-record-init : goal.loop-record-init
loop-record-init c = none_begins c.args.kind c.args.records.now

pub loop-record-preserved : goal.loop-record-preserved
loop-record-preserved c = none_further c.args.kind c.args.records.now c.loop-record.record-index c.loop-record.invariant c.if-record-kind.false

pub returns : goal.returns
returns c = sym (kinds_hold c.args.kind c.args.records.now (λ i h. c.loop-record.invariant i (omega (arith, h, c.loop-record-test.false))))
