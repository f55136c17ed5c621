use Rattle.attempts.proofs.Past.{revision_nine}
use Rattle.attempts.proofs.rows.revision_of.Goals as goal

pub returns : goal.returns
returns c = let nine = revision_nine c.args.w _ c.well_formed.0 c.args.n in cc
