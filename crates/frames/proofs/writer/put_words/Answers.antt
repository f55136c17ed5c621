use native.Mathlib.Omega.{arith}
use Rattle.frames.proofs.WriterLaws.{no_field, one_field, two_fields}
use Rattle.frames.proofs.writer.put_words.Goals as goal

pub returns-then-fields-lt1 : goal.returns-then-fields-lt1
returns-then-fields-lt1 c =
    let a = c.args in
    no_field a.buffer.now _ a.fields a.head a.first a.second c.requires.1 c.put_u32.ensures (omega arith)

pub returns-then-fields-lt2 : goal.returns-then-fields-lt2
returns-then-fields-lt2 c =
    let a = c.args in
    one_field a.buffer.now _ a.fields a.head a.first a.second c.requires.1 c.put_u32.ensures (omega arith) _ c.put_u32-2.ensures (omega arith)

pub returns : goal.returns
returns c =
    let a = c.args in
    two_fields a.buffer.now _ a.fields a.head a.first a.second c.requires.1 c.put_u32.ensures (omega arith) _ c.put_u32-2.ensures (omega arith) c.requires.0 _ c.put_u32-3.ensures
