-- What is claimed of the refusals' numbers, of the sizes of a floor, of department bytes, of the bytes of numbers, of parts of slices, and of
-- sets of boxes. The proofs are `refusals`, `sizes`, `departments`, `spelling`, `part_claims`, `quorums` and `masks` in proofs/Claims.
use Rattle.std.specs.Prelude.{◌≡◌, ◌↔◌, Bool, true, false, List, [], ◌∷◌, ℕ, ◌+◌, ◌*◌, ◌/◌, ◌%◌, ◌^◌, ◌≤◌, ◌<◌, length, get_or}
use Rattle.std.specs.Borrow.{Bor}
use Rattle.base.specs.declared.Refusal.{Refusal}
use Rattle.base.specs.Refusals.{number, named}
use Rattle.base.specs.Numbers.{sizes_right, quorum}
use Rattle.base.specs.Departments.{departments_wrong}
use Rattle.base.specs.Bytes.{Bytes, word16, word32, bytes16, bytes32}
use Rattle.base.specs.Part.{IsPart}
use Rattle.base.specs.Mask.{bit, set_bit, count_below}
use Rattle.base.specs.Quorum.{count, Majority}

-- A refusal and its number, each by the other.
pub record RefusalClaims : Type 0 where
  pub back : (r : Refusal) → named (number r) ≡ r
  pub forth : (k : ℕ) → 1 ≤ k → k ≤ 23 → number (named k) ≡ k

-- refusal 3 does not apply
pub record Sizes (n m : ℕ) : Type 0 where
  pub box_least : 1 ≤ n
  pub box_most : n ≤ 9
  pub station_least : 1 ≤ m
  pub station_most : m ≤ 16

-- The test of refusal 3 says this, both ways.
pub record SizeClaims : Type 0 where
  pub means : (n m : ℕ) → sizes_right n m ≡ true → Sizes n m
  pub holds : (n m : ℕ) → Sizes n m → sizes_right n m ≡ true

-- Refusal 22 does not apply to department bytes that are to be k: so many, each 0 or 1.
pub record Departments (k : ℕ) (bs : List ℕ) : Type 0 where
  pub count : length bs ≡ k
  pub each : (i : ℕ) → i < length bs → get_or bs i 0 ≤ 1

pub record DepartmentClaims : Type 0 where
  pub means : (k : ℕ) (bs : List ℕ) → departments_wrong k bs ≡ false → Departments k bs
  pub holds : (k : ℕ) (bs : List ℕ) → Departments k bs → departments_wrong k bs ≡ false

-- The bytes of numbers.
pub record Spelling : Type 0 where
  -- any number is spelt by its own bytes, and bytes are those of the number that they spell
  pub number16 : (x : ℕ) → word16 (x / 256) (x % 256) ≡ x
  pub number32 : (x : ℕ) → word32 (x / 16777216) (x / 65536 % 256) (x / 256 % 256) (x % 256) ≡ x
  pub spelt16 : (a b : ℕ) → b < 256 → bytes16 (word16 a b) ≡ a ∷ b ∷ []
  pub spelt32 : (a b c d : ℕ) → b < 256 → c < 256 → d < 256 → bytes32 (word32 a b c d) ≡ a ∷ b ∷ c ∷ d ∷ []
  -- a number of 16 or 32 bits has two or four bytes
  pub two : (x : ℕ) → length (bytes16 x) ≡ 2
  pub four : (x : ℕ) → length (bytes32 x) ≡ 4
  pub fits16 : (x : ℕ) → x < 65536 → Bytes (bytes16 x)
  pub fits32 : (x : ℕ) → x < 2 ^ 32 → Bytes (bytes32 x)

-- Parts of slices of bytes.
pub record PartClaims : Type 0 where
  -- a slice is the part of itself from its start on, and a part of a part is a part of the whole
  pub whole : (s : Bor (List ℕ)) → IsPart s s 0 (length s.now)
  pub inner : (r t s : Bor (List ℕ)) (a k b j : ℕ) → IsPart t s a k → IsPart r t b j → IsPart r s (a + b) j
  -- start and number of bytes tell the part, its place and its bytes; and the part tells these two, so equal bytes elsewhere are another part
  pub same : (r t s : Bor (List ℕ)) (a k : ℕ) → IsPart r s a k → IsPart t s a k → (r.ref_ptr ≡ t.ref_ptr) × (r.now ≡ t.now)
  pub once : (r s : Bor (List ℕ)) (a k b j : ℕ) → IsPart r s a k → IsPart r s b j → (a ≡ b) × (k ≡ j)
  pub sized : (r s : Bor (List ℕ)) (a k : ℕ) → IsPart r s a k → length r.now ≡ k

-- Sets of boxes.
pub record Quorums : Type 1 where
  -- q boxes are more than half of n, and fewer are not
  pub more_than_half : (n k : ℕ) → quorum n ≤ k ↔ n < 2 * k
  -- a set of q boxes, each of which has P, is a majority that has P
  pub enough : (n : ℕ) (P : ℕ → Type 0) (s : ℕ → Bool) → quorum n ≤ count s n → ((b : ℕ) → b < n → s b ≡ true → P b) → Majority n P
  -- two majorities of the same boxes share a box
  pub shared : (n : ℕ) (P Q : ℕ → Type 0) → Majority n P → Majority n Q → (b : ℕ) × (b < n) × P b × Q b

-- Sets of boxes as masks.
pub record Masks : Type 1 where
  -- the mask 0 is the empty set
  pub empty : (b : ℕ) → bit 0 b ≡ false
  -- the box added is in the set, and the others are as before
  pub same : (m b : ℕ) → bit (set_bit m b) b ≡ true
  pub other : (m b j : ℕ) → ¬ (j ≡ b) → bit (set_bit m b) j ≡ bit m j
  -- the ones of the n low digits are the boxes below n in the set
  pub counted : (m n : ℕ) → count_below m n ≡ count (bit m) n
  -- a box below n that was not there is one more; one that was there, or is not below n, changes nothing
  pub more : (m b n : ℕ) → b < n → bit m b ≡ false → count_below (set_bit m b) n ≡ count_below m n + 1
  pub present : (m b n : ℕ) → bit m b ≡ true → count_below (set_bit m b) n ≡ count_below m n
  pub past : (m b n : ℕ) → n ≤ b → count_below (set_bit m b) n ≡ count_below m n
  -- so no more than n are counted, and masks that agree below n count alike
  pub bounded : (m n : ℕ) → count_below m n ≤ n
  pub agree : (m k n : ℕ) → ((b : ℕ) → b < n → bit m b ≡ bit k b) → count_below m n ≡ count_below k n
  -- a mask of k digits stays one where a box below k is added: a u16 where k is 16
  pub fits : (k m b : ℕ) → m < 2 ^ k → b < k → set_bit m b < 2 ^ k
  -- q ones below n, each of a box that has P, are a majority that has P
  pub enough : (P : ℕ → Type 0) (m n : ℕ) → quorum n ≤ count_below m n → ((b : ℕ) → b < n → bit m b ≡ true → P b) → Majority n P
