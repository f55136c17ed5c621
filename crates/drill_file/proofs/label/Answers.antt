use Rattle.drill_file.proofs.FileLaws.{label_within, label_lies}
use Rattle.drill_file.proofs.label.Goals as goal

pub accepted_part-requires : goal.accepted_part-requires
accepted_part-requires c = label_within _ _ c.label_end.ensures

pub returns-clause-bytes : goal.returns-clause-bytes
returns-clause-bytes c = (label_lies _ _ _ c.label_end.ensures c.accepted_part.ensures).0

pub returns-clause-place : goal.returns-clause-place
returns-clause-place c = (label_lies _ _ _ c.label_end.ensures c.accepted_part.ensures).1
