use Rattle.std.proofs.Common.{refl, min}
use native.Mathlib.Omega.{arith}
use native.Mathlib.Numerals.{add-one}
use mathlib.Core.Path.{◌≡◌}
use Rattle.requests.specs.Requests.{waiting_below}
use Rattle.requests.proofs.RequestLaws.{waiting_most}
use Rattle.requests.proofs.issued.Goals as goal

pub loop-k-init : goal.loop-k-init
unfolding waiting_below
loop-k-init c = refl

pub loop-k-preserved : goal.loop-k-preserved
unfolding waiting_below
loop-k-preserved c = rw add-one (cc)

pub returns : goal.returns
returns c = let e : c.loop-k.k ≡ min c.args.n 9 = omega arith in cc (waiting_most c.args.n)
