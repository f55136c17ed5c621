use Rattle.std.proofs.Common.{◌≤◌, ◌-◌}
use native.Mathlib.Omega.{arith}
use mathlib.Core.Path.{sym}
use lib.ListN.{get_or-eq_default}
use Rattle.base.specs.Refusals.{refusals}
use Rattle.base.specs.declared.Refusal.TheVariants.{Unsound}
use Rattle.commands.proofs.outcomes.named.Goals as goal

-- a number that none has is past the table
pub returns-in-None : goal.returns-in-None
returns-in-None c = let past : 23 ≤ c.args.number - 1 = omega (arith, c.in-None.ensures.lookup) in sym (get_or-eq_default refusals Unsound {n = c.args.number - 1} past)
