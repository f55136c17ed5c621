use Rattle.std.proofs.Common.{◌≡◌, true}
use native.Mathlib.Omega.{arith}
use Rattle.requests.specs.Requests.{all_yes}
use Rattle.requests.proofs.Past.{nine_slots, yes_past}
use Rattle.requests.proofs.all_yes.Goals as goal

pub returns-else-n-le9 : goal.returns-else-n-le9
returns-else-n-le9 c =
    let e : c.loop-b.b ≡ 9 = omega arith in
    let y : all_yes c.args.q 9 ≡ true = cc in
    let p = yes_past c.args.q (nine_slots c.args.q _ c.well_formed.0) c.args.n (omega arith) y in cc
