-- A number and its bytes: each determines the other, also where the bytes stand in a longer list.
use mathlib.Core.Path.{◌≡◌, refl, sym, ap, ◌∙◌}
use mathlib.Core.List.{List, [], ◌∷◌}
use Prim.Native.Nat.{ℕ, zero, suc, ◌+◌, ◌/◌, ◌%◌, ◌^◌, ◌≤◌, ◌<◌}
use native.Mathlib.Numerals.{towards_suc}
use native.Mathlib.Omega.{arith}
use borrow.Author.Tests.{le-leb}
use lib.Dec.{leb}
use lib.ListN.{length, get_or, take, drop}
use lib.Seq.{drop-cons, length-sets, sets-eq}
use Rattle.base.specs.Choice.{when◌then◌else◌}
use Rattle.base.specs.Bytes.{Bytes, word16, word32, bytes16, bytes32, word_at, with_word}
use Rattle.base.proofs.Choices.{chosen}

-- ---- a list of bytes, place by place; past its end stands 0
pub bytes_below : (s : List ℕ) → Bytes s → (i : ℕ) → get_or s i 0 < 256
bytes_below [] b i = omega arith
bytes_below (x ∷ s) b zero = b.0
bytes_below (x ∷ s) b (suc i) = bytes_below s b.1 i

-- ---- a number of two bytes
-- any number is spelt by its bytes
pub word16_of_bytes : (x : ℕ) → word16 (x / 256) (x % 256) ≡ x
word16_of_bytes x = omega arith

-- bytes are those of the number that they spell; the highest may be any number
pub bytes16_of_word : (a b : ℕ) → b < 256 → bytes16 (word16 a b) ≡ a ∷ b ∷ []
bytes16_of_word a b h =
    let e₀ : word16 a b / 256 ≡ a = omega arith in
    let e₁ : word16 a b % 256 ≡ b = omega arith in
    cc

pub bytes16_length : (x : ℕ) → length (bytes16 x) ≡ 2
bytes16_length x = refl

pub bytes16_bytes : (x : ℕ) → x < 65536 → Bytes (bytes16 x)
bytes16_bytes x h = omega arith

-- ---- a number of four bytes
pub word32_of_bytes : (x : ℕ) → word32 (x / 16777216) (x / 65536 % 256) (x / 256 % 256) (x % 256) ≡ x
word32_of_bytes x = omega arith

pub bytes32_of_word : (a b c d : ℕ) → b < 256 → c < 256 → d < 256 → bytes32 (word32 a b c d) ≡ a ∷ b ∷ c ∷ d ∷ []
bytes32_of_word a b c d hb hc hd =
    let e₀ : word32 a b c d / 16777216 ≡ a = omega arith in
    let e₁ : word32 a b c d / 65536 % 256 ≡ b = omega arith in
    let e₂ : word32 a b c d / 256 % 256 ≡ c = omega arith in
    let e₃ : word32 a b c d % 256 ≡ d = omega arith in
    cc

pub bytes32_length : (x : ℕ) → length (bytes32 x) ≡ 4
bytes32_length x = refl

pub bytes32_bytes : (x : ℕ) → x < 2 ^ 32 → Bytes (bytes32 x)
bytes32_bytes x h = omega arith

-- a list keeps its length where a number is stored in it
pub with_word_length : (s : List ℕ) (at x : ℕ) → at + 4 ≤ length s → length (with_word s at x) ≡ length s
unfolding with_word
with_word_length s at x h = ap length (sym (sets-eq (bytes32 x) s at h)) ∙ length-sets s at (bytes32 x)

-- a number that a list has room for is stored
pub word_stored : (s s' : List ℕ) (at x : ℕ) → at + 4 ≤ length s → s' ≡ (when leb (at + 4) (length s) then with_word s at x else s)
    → (s' ≡ with_word s at x) × (length s' ≡ length s)
word_stored s s' at x h e = let g = chosen _ (le-leb _ _ h) e in (g, ap length g ∙ with_word_length s at x h)

-- ---- the number whose four bytes stand at a place of a list of bytes
module _ (s : List ℕ) (b : Bytes s) (at : ℕ) where
  -- it has 32 bits
  pub word_at_fits : word_at s at < 2 ^ 32
  unfolding word_at
  word_at_fits =
      omega (arith, bytes_below s b at, bytes_below s b (at + 1), bytes_below s b (at + 2), bytes_below s b (at + 3))

  -- and its bytes are those
  pub word_at_bytes : at + 4 ≤ length s → bytes32 (word_at s at) ≡ take 4 (drop at s)
  unfolding word_at
  word_at_bytes h =
      bytes32_of_word _ _ _ _ (bytes_below s b (at + 1)) (bytes_below s b (at + 2)) (bytes_below s b (at + 3)) ∙ sym four
    where
      four : take 4 (drop at s) ≡ get_or s at 0 ∷ get_or s (at + 1) 0 ∷ get_or s (at + 2) 0 ∷ get_or s (at + 3) 0 ∷ []
      four =
          let g : at < length s = omega arith in
          let g₁ : suc at < length s = omega arith in
          let g₂ : suc (suc at) < length s = omega arith in
          let g₃ : suc (suc (suc at)) < length s = omega arith in
          rw (drop-cons s at 0, drop-cons s (suc at) 0, drop-cons s (suc (suc at)) 0, drop-cons s (suc (suc (suc at))) 0) (simp towards_suc)
