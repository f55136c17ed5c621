-- What is claimed of the lines that are printed.
use mathlib.Core.Path.{refl}
use Rattle.drill.specs.Claims.{ReportClaims}
use Rattle.drill.proofs.Decimals.{digits_spell}
use Rattle.drill.proofs.WordLaws.{withdrawal_printed, decided_printed}
use Rattle.drill.proofs.ReportLaws.{report_lines, report_end, report_few}

pub report_claims : ReportClaims
report_claims = record {
  none = refl;
  withdrawn = withdrawal_printed;
  decided = decided_printed;
  number = digits_spell 20;
  lines = report_lines;
  end = report_end;
  few = report_few;
}
