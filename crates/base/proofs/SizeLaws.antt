-- What the test of refusal 3 says, both ways.
use Prim.Native.Nat.{ℕ}
use mathlib.Core.Path.{◌≡◌}
use mathlib.Core.Bool.{true}
use Rattle.std.proofs.lemmas.Bool.{leb-true, le-leb, and_parts, and_from}
use Rattle.base.specs.Claims.{Sizes}
use Rattle.base.specs.Numbers.{sizes_right}

pub sizes_mean : (n m : ℕ) → sizes_right n m ≡ true → Sizes n m
unfolding sizes_right
sizes_mean n m e =
    let p = and_parts _ _ e in
    let q = and_parts _ _ p.0 in
    let r = and_parts _ _ q.0 in
    record { box_least = leb-true _ _ r.0; box_most = leb-true _ _ r.1; station_least = leb-true _ _ q.1; station_most = leb-true _ _ p.1 }

pub sizes_hold : (n m : ℕ) → Sizes n m → sizes_right n m ≡ true
unfolding sizes_right
sizes_hold n m z =
    and_from _ _ (and_from _ _ (and_from _ _ (le-leb _ _ z.box_least) (le-leb _ _ z.box_most)) (le-leb _ _ z.station_least)) (le-leb _ _ z.station_most)
