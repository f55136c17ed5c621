-- The laws of a place, and of the row found so far.
use Prim.Native.Nat.{ℕ, ◌<◌, ◌≤◌}
use mathlib.Core.Path.{◌≡◌, refl, sym}
use mathlib.Core.Bool.{true, false}
use Rattle.std.proofs.Common.{Some, None}
use borrow.Author.Tests.{lt-ltb, ltb-true, ltb-false}
use Rattle.base.proofs.Choices.{on_true, by_test}
use Rattle.places.specs.Places.{place_in}
use Rattle.places.specs.Search.{lower_in}
use Rattle.places.specs.declared.Lowest.{Lowest}

-- a number that is a place of the array names it
pub place_same : (limit x : ℕ) → x < limit → place_in limit x ≡ x
unfolding place_in
place_same limit x h = sym (on_true _ (lt-ltb x limit h) refl)

-- what is named is a place of the array, if it has one
pub place_below : (limit x r : ℕ) → r ≡ place_in limit x → 0 < limit → r < limit
unfolding place_in
place_below limit x r e h = rw e (by_test (λ (k : ℕ). k < limit) _ _ _ (λ t. ltb-true x limit t) (λ _. h))

-- a rank is smaller than that of the row found, or it is not; where none was found it is
pub lower_means : (x : Lowest) (rank : ℕ) → lower_in (Some x) rank ≡ true → rank < x.rank
unfolding lower_in
lower_means x rank = ltb-true rank x.rank

pub lower_not : (x : Lowest) (rank : ℕ) → lower_in (Some x) rank ≡ false → x.rank ≤ rank
unfolding lower_in
lower_not x rank = ltb-false rank x.rank

pub lower_first : (rank : ℕ) → lower_in None rank ≡ true
unfolding lower_in
lower_first rank = refl
