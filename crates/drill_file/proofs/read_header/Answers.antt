use Rattle.std.proofs.Common.{rules, ◌≡◌, sym, ap, ◌∙◌, Err}
use Rattle.drill_file.specs.DrillFile.{header_values}
use Rattle.drill_file.proofs.FileLaws.{header_refused, values_refused}
use Rattle.drill_file.proofs.read_header.Goals as goal

pub returns-in_err-accept-clause-answer : goal.returns-in_err-accept-clause-answer
returns-in_err-accept-clause-answer c =
    let e : c.from_residual.result ≡ Err c.in_err-accept.field-0.0 = search rules in
    e ∙ sym (header_refused _ _ (search rules))

pub returns-in_err-accept-clause-values : goal.returns-in_err-accept-clause-values
returns-in_err-accept-clause-values c =
    let e : c.from_residual.result ≡ Err c.in_err-accept.field-0.0 = search rules in
    ap header_values e ∙ sym (values_refused _ c.in_err-accept.field-0.0 (search rules))
