-- The code's shifts and masks of 16 bits: one digit, a digit added, and the digits below a place counted.
use Prim.Native.Nat.{ℕ, ◌-◌, ◌*◌, ◌/◌, ◌%◌, ◌^◌, ◌<◌, ◌≤◌}
use native.Mathlib.Nat.{mod-eq_of_lt, one-mul}
use mathlib.Core.Path.{◌≡◌, sym, ap, ◌∙◌}
use lib.Bits.{and_mask, bit_and, bit_or}
use lib.Count.{ones}
use lib.Dec.{eqb, ltb}
use lib.Pow.{pow-lt}
use borrow.Author.Tests.{le-ltb}
use Rattle.base.specs.Mask.{bit, set_bit, count_below}
use Rattle.base.proofs.MaskLaws.{bit_past, count_all}

one_shifted : (b : ℕ) → b < 16 → 1 * 2 ^ b % 2 ^ 16 ≡ 2 ^ b
one_shifted b h = rw one-mul (mod-eq_of_lt (pow-lt h))

pub digit : (m b : ℕ) → eqb (bit_and (m / 2 ^ b) 1) 1 ≡ bit m b
unfolding bit
digit m b = rw (and_mask _ 1)

pub no_digit : (m b : ℕ) → m < 2 ^ 16 → 16 ≤ b → ltb b 16 ≡ bit m b
no_digit m b h k = le-ltb b 16 k ∙ sym (bit_past 16 m b h k)

pub digit_added : (m b : ℕ) → b < 16 → bit_or m (1 * 2 ^ b % 65536) ≡ set_bit m b
unfolding set_bit
digit_added m b h = ap (bit_or m) (one_shifted b h)

pub digits_below : (m n : ℕ) → n < 16 → ones (bit_and m (1 * 2 ^ n % 65536 - 1)) ≡ count_below m n
unfolding count_below
digits_below m n h = rw (one_shifted n h, and_mask m n)

pub all_digits : (m n : ℕ) → m < 2 ^ 16 → 16 ≤ n → ones m ≡ count_below m n
all_digits m n h k = sym (count_all 16 m n h k)

pub ruleset shifts = (digit, no_digit, digit_added, digits_below, all_digits)
