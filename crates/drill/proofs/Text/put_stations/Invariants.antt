use Rattle.std.proofs.Common.{◌≡◌}
use Rattle.drill.specs.Report.{station_lines}
use Rattle.drill.specs.Text.{text_put}
use Rattle.drill.proofs.Text.put_stations.Given as goal

abbrev pub invariant-loop-number : goal.invariant-loop-number
invariant-loop-number l = l.self.bytes.items ≡ text_put l.initial.self.bytes.items (station_lines l.f l.number)
