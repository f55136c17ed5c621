use mathlib.Core.Path.{◌≡◌, ◌∙◌, ap}
use native.Mathlib.Omega.{arith}
use Rattle.std.specs.Prelude.{ℕ, List, Ok, Err}
use lib.ListN.{get_or}
use borrow.Author.Rules.{rules}
use Rattle.frames.proofs.WriterLaws.{said_21, said_18, written_said}
use Rattle.frames.specs.Reader.{checked}
use Rattle.frames.proofs.writer.write_frame.Goals as goal

pub returns-in_err-checked : goal.returns-in_err-checked
returns-in_err-checked c =
    let e : checked c.args.m ≡ Err c.in_err-checked.field-0.0 = search rules in
    let f : c.from_residual.result ≡ Err c.in_err-checked.field-0.0 = search rules in
    let s = said_21 c.args.buffer.now c.args.m _ e _ f in
    record { refusal = s.0; size = s.1.0; buffer = s.1.1 }

pub returns-then-buffer-size : goal.returns-then-buffer-size
returns-then-buffer-size c =
    let e : checked c.args.m ≡ Ok c.in_ok-checked.field-0 = search rules in
    let s = said_18 c.args.buffer.now c.args.m _ e _ _ c.kind-kind.ensures (c.from-fields.ensures ∙ c.field_count.ensures.count) (omega arith) in
    record { refusal = s.0; size = s.1.0; buffer = s.1.1 }

pub returns : goal.returns
returns c =
    let e : checked c.args.m ≡ Ok c.in_ok-checked.field-0 = search rules in
    let first = ap (λ (l : List ℕ). get_or l 0 0) c.fields.ensures in
    let second = ap (λ (l : List ℕ). get_or l 1 0) c.fields.ensures in
    let s = written_said c.args.buffer.now c.args.m _ e _ _ c.kind-kind.ensures (c.from-fields.ensures ∙ c.field_count.ensures.count) (omega arith) _ _ _ _ c.head.ensures first second c.put_words.ensures in
    record { refusal = s.0; size = s.1.0; buffer = s.1.1 }
