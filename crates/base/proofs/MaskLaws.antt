-- The laws of a mask: which boxes are in its set, how many, and what adding a box does to both.
use mathlib.Core.Path.{◌≡◌, refl, sym, ap, subst, ◌∙◌}
use mathlib.Core.Bool.{Bool, true, false}
use Prim.Native.Nat.{ℕ, zero, suc, ◌+◌, ◌%◌, ◌^◌, ◌≤◌, ◌<◌}
use native.Mathlib.Decide.{ℕ_discrete}
use native.Mathlib.Nat.{lt_of_lt_of_le, mod-lt, mod-eq_of_lt, mod-one, zero-mod}
use native.Mathlib.Numerals.{one-add}
use native.Mathlib.Omega.{arith}
use lib.Dec.{eqb}
use lib.Pow.{pow_pos, pow_mono, pow-lt, mod-pow-add}
use lib.Bits.{bit_or, or_lt}
use lib.Count.{ones, ones_in, ones_cat}
use Rattle.std.specs.Int.{bit_at}
use Rattle.std.proofs.lemmas.Nat.Bits.{bit_at_or, bit_at-pow_same, bit_at-pow_other, bit_at_above, bit_at-zero}
use Rattle.base.specs.Numbers.{quorum}
use Rattle.base.specs.Mask.{bit, set_bit, count_below}
use Rattle.base.specs.Quorum.{indicator, count, AtLeast, Majority}
use Rattle.base.proofs.QuorumLaws.{count_local, count_add, count_le}

abbrev is_one : ℕ → Bool
is_one d = eqb d 1

-- a digit is 0 or 1
indicator_digit : (d : ℕ) → d < 2 → indicator (is_one d) ≡ d
indicator_digit zero h = refl
indicator_digit (suc zero) h = refl
indicator_digit (suc (suc d)) h = absurd (omega arith)

ones_digit : (d : ℕ) → d < 2 → ones d ≡ d
unfolding ones ones_in
ones_digit zero h = refl
ones_digit (suc zero) h = refl
ones_digit (suc (suc d)) h = absurd (omega arith)

-- a box that was added is in the set, and any other box is in it where it was before
pub bit_same : (m b : ℕ) → bit (set_bit m b) b ≡ true
unfolding bit set_bit
bit_same m b = let z : bit_at (bit_or m (2 ^ b)) b ≡ 1 = omega (arith, bit_at_or m (2 ^ b) b, bit_at-pow_same b) in ap is_one z

pub bit_other : (m b j : ℕ) → ¬ (j ≡ b) → bit (set_bit m b) j ≡ bit m j
unfolding bit set_bit
bit_other m b j h = let z : bit_at (bit_or m (2 ^ b)) j ≡ bit_at m j = omega (arith, bit_at_or m (2 ^ b) j, bit_at-pow_other b j h) in ap is_one z

-- the mask 0 is the empty set
pub bit_zero : (b : ℕ) → bit 0 b ≡ false
unfolding bit
bit_zero b = ap is_one (bit_at-zero b)

-- a mask of k digits has none from k on: a u16 for k = 16
pub bit_past : (k m b : ℕ) → m < 2 ^ k → k ≤ b → bit m b ≡ false
unfolding bit
bit_past k m b h p = ap is_one (bit_at_above m k b h p)

-- and stays one where a box below k is added
pub set_bit_fits : (k m b : ℕ) → m < 2 ^ k → b < k → set_bit m b < 2 ^ k
unfolding set_bit
set_bit_fits k m b h p = or_lt k m (2 ^ b) h (pow-lt p)

pub count_suc : (m n : ℕ) → count_below m (suc n) ≡ count_below m n + indicator (bit m n)
unfolding count_below bit
count_suc m n =
    ap (λ (j : ℕ). ones (m % 2 ^ j)) (sym (one-add n))
    ∙ ap ones (mod-pow-add m 1 n)
    ∙ ones_cat n (bit_at m n) (m % 2 ^ n) (mod-lt m (pow_pos n))
    ∙ omega (arith, ones_digit (bit_at m n) (omega arith), indicator_digit (bit_at m n) (omega arith))

-- the ones of the n low digits are the boxes below n in the set
pub count_bits : (m n : ℕ) → count_below m n ≡ count (bit m) n
unfolding count_below count ones
count_bits m zero = ap ones (mod-one m)
count_bits m (suc n) = omega (arith, count_suc m n, count_bits m n)

-- nothing at n or above counts: masks that agree below n count alike
pub count_agree : (m k n : ℕ) → ((b : ℕ) → b < n → bit m b ≡ bit k b) → count_below m n ≡ count_below k n
count_agree m k n h = count_bits m n ∙ count_local n (bit m) (bit k) h ∙ sym (count_bits k n)

-- a box below n that was not in the set is one more
pub count_more : (m b n : ℕ) → b < n → bit m b ≡ false → count_below (set_bit m b) n ≡ count_below m n + 1
count_more m b n h e =
    omega (arith, count_bits (set_bit m b) n, count_bits m n, count_add n b (bit m) (bit (set_bit m b)) h e (bit_same m b) (bit_other m b))

-- a box at n or above, and one that was in the set already, change nothing
pub count_past : (m b n : ℕ) → n ≤ b → count_below (set_bit m b) n ≡ count_below m n
count_past m b n h = count_agree (set_bit m b) m n (λ j p. bit_other m b j (omega arith))

pub count_present : (m b n : ℕ) → bit m b ≡ true → count_below (set_bit m b) n ≡ count_below m n
count_present m b n e = count_agree (set_bit m b) m n (λ j p. elim (ℕ_discrete j b) [
  | yes q ↦ subst (λ (i : ℕ). bit (set_bit m b) i ≡ bit m i) (sym q) (bit_same m b ∙ sym e)
  | no q ↦ bit_other m b j q
])

-- of a mask of k digits all ones are below k
pub count_all : (k m n : ℕ) → m < 2 ^ k → k ≤ n → count_below m n ≡ ones m
unfolding count_below
count_all k m n h p = ap ones (mod-eq_of_lt (lt_of_lt_of_le h (pow_mono p)))

pub count_zero : (n : ℕ) → count_below 0 n ≡ 0
unfolding count_below ones
count_zero n = ap ones (zero-mod (2 ^ n))

pub count_at_most : (m n : ℕ) → count_below m n ≤ n
count_at_most m n = omega (arith, count_bits m n, count_le n (bit m))

-- what each box of the set has, and b has, each box has once b is added
pub added : (P : ℕ → Type 0) (m b : ℕ) → ((j : ℕ) → bit m j ≡ true → P j) → P b → (j : ℕ) → bit (set_bit m b) j ≡ true → P j
added P m b f p j h = elim (ℕ_discrete j b) [ yes q ↦ subst P (sym q) p | no q ↦ f j (sym (bit_other m b j q) ∙ h) ]

-- a mask with k ones below n, each of whose boxes has P: k boxes have it; with q ones, a majority
module _ {P : ℕ → Type 0} (m n : ℕ) where
  pub mask_at_least : (k : ℕ) → k ≤ count_below m n → ((b : ℕ) → b < n → bit m b ≡ true → P b) → AtLeast k n P
  mask_at_least k h e = record { set = bit m; large = omega (arith, count_bits m n); each = e }

  pub mask_majority : quorum n ≤ count_below m n → ((b : ℕ) → b < n → bit m b ≡ true → P b) → Majority n P
  mask_majority h = mask_at_least _ (omega arith)
