use Rattle.std.proofs.Common.{rules, ◌≡◌, sym, ap, ◌∙◌, Err}
use Rattle.base.specs.Refusals.{size_in}
use Rattle.drill_file.proofs.WriterLaws.{refused_size, refused_buffer, written_said}
use Rattle.drill_file.proofs.writer.write_file.Goals as goal

pub returns-in_err-accept-clause-size : goal.returns-in_err-accept-clause-size
returns-in_err-accept-clause-size c =
    let e : c.from_residual.result ≡ Err c.in_err-accept.field-0.0 = search rules in
    ap size_in e ∙ sym (refused_size _ _ _ c.in_err-accept.ensures)

pub returns-in_err-accept-clause-buffer : goal.returns-in_err-accept-clause-buffer
returns-in_err-accept-clause-buffer c = sym (refused_buffer _ _ _ c.in_err-accept.ensures)

pub returns-clause-size : goal.returns-clause-size
returns-clause-size c =
    (written_said _ _ (sym c.in_ok-accept.ensures) _ _ _ _ _ c.head-first.ensures c.put_bytes.ensures c.put_bytes-2.ensures c.put_bytes-3.ensures c.put_bytes-4.ensures).0

pub returns-clause-buffer : goal.returns-clause-buffer
returns-clause-buffer c =
    (written_said _ _ (sym c.in_ok-accept.ensures) _ _ _ _ _ c.head-first.ensures c.put_bytes.ensures c.put_bytes-2.ensures c.put_bytes-3.ensures c.put_bytes-4.ensures).1
