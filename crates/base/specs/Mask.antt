-- A set of boxes as the binary digits of a number. Document 01: "The boxes that answered are kept as a set of bits, and its ones
-- are counted".
use Rattle.std.specs.Prelude.{ℕ, ◌/◌, ◌%◌, ◌^◌, Bool, eqb}
use Rattle.std.specs.Int.Bits.{bit_or}
use Rattle.std.specs.Int.Count.{ones}

-- the box b is in the set of the mask m
unfoldable pub bit : (m b : ℕ) → Bool
bit m b = eqb (m / 2 ^ b % 2) 1

-- the mask m with the box b added to its set
unfoldable pub set_bit : (m b : ℕ) → ℕ
set_bit m b = bit_or m (2 ^ b)

-- how many ones the n low digits of the mask m have: a digit at n or above never counts
unfoldable pub count_below : (m n : ℕ) → ℕ
count_below m n = ones (m % 2 ^ n)
