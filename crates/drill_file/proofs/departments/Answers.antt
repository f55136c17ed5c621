use Rattle.drill_file.proofs.FileLaws.{departments_within, departments_lie}
use Rattle.drill_file.proofs.departments.Goals as goal

pub accepted_part-requires : goal.accepted_part-requires
accepted_part-requires c = departments_within _ _ _ c.label_end.ensures c.records_start.ensures

pub returns-clause-bytes : goal.returns-clause-bytes
returns-clause-bytes c = (departments_lie _ _ _ _ c.label_end.ensures c.records_start.ensures c.accepted_part.ensures).0

pub returns-clause-place : goal.returns-clause-place
returns-clause-place c = (departments_lie _ _ _ _ c.label_end.ensures c.records_start.ensures c.accepted_part.ensures).1
