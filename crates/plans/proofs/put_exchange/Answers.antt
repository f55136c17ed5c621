use Rattle.std.proofs.Common.{refl, ◌∙◌}
use mathlib.Core.List.{flatten}
use Rattle.plans.specs.Plans.{exchange}
use Rattle.plans.proofs.put_exchange.Goals as goal

pub returns : goal.returns
unfolding exchange flatten
returns c =
    c.put_bytes.ensures
    ∙ rw (c.copy_from_slice.ensures.after, c.encode.ensures, c.copy_from_slice-2.ensures.after, c.encode-2.ensures) refl
