-- Document 01, "big-endian": the bytes that a number is written in, the highest first. A file's size and a round have two; a revision
-- and the numbers of a box record have four.
use Rattle.std.specs.Prelude.{ℕ, ◌+◌, ◌*◌, ◌/◌, ◌%◌, ◌<◌, List, [], ◌∷◌, ◌++◌, leb, length, get_or, take, drop}
use Rattle.base.specs.Choice.{when◌then◌else◌}

-- a list of bytes: what a slice of `u8` holds
abbrev pub Bytes : (s : List ℕ) → Type 0
Bytes [] = Unit {0}
Bytes (x ∷ s) = (x < 256) × Bytes s

-- the number that two bytes spell, and that four do
abbrev pub word16 : (a b : ℕ) → ℕ
word16 a b = a * 256 + b

abbrev pub word32 : (a b c d : ℕ) → ℕ
word32 a b c d = ((a * 256 + b) * 256 + c) * 256 + d

-- the bytes of a number of 16 bits, and of one of 32; the highest is not cut, so that any number is spelt by its own
abbrev pub bytes16 : (x : ℕ) → List ℕ
bytes16 x = x / 256 ∷ x % 256 ∷ []

abbrev pub bytes32 : (x : ℕ) → List ℕ
bytes32 x = x / 16777216 ∷ x / 65536 % 256 ∷ x / 256 % 256 ∷ x % 256 ∷ []

-- the number whose four bytes stand from a place on
unfoldable pub word_at : (s : List ℕ) (at : ℕ) → ℕ
word_at s at = word32 (get_or s at 0) (get_or s (at + 1) 0) (get_or s (at + 2) 0) (get_or s (at + 3) 0)

-- the list with a number's four bytes from a place on, all else as it was
unfoldable pub with_word : (s : List ℕ) (at x : ℕ) → List ℕ
with_word s at x = take at s ++ bytes32 x ++ drop (at + 4) s

-- the list with other bytes from a place on, all else as it was; past its end nothing is put
unfoldable pub bytes_put : (s : List ℕ) (at : ℕ) (bytes : List ℕ) → List ℕ
bytes_put s at bytes = when leb (at + length bytes) (length s) then take at s ++ bytes ++ drop (at + length bytes) s else s
