-- Document 02, wish 5: "the free row with the smallest rank, of equals the lowest", looked for one row after the other.
use Rattle.std.specs.Prelude.{ℕ, Bool, true, ltb, Option, Some, None}
use Rattle.places.specs.declared.Lowest.{Lowest}

-- the rank is smaller than that of the row found so far, or none was found
unfoldable pub lower_in : (x : Option Lowest) (rank : ℕ) → Bool
lower_in (Some x) rank = ltb rank x.rank
lower_in None rank = true
