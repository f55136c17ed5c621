-- Document 01, "The drill file": records of 8 bytes in a list of bytes.
use Rattle.std.specs.Prelude.{ℕ, zero, suc, ◌+◌, ◌/◌, ◌≡◌, List, [], ◌∷◌, length, get_or}
use Rattle.base.specs.Bytes.{Bytes}

-- the record of 8 bytes at place p; a byte past the end of the list is 0
unfoldable pub record_at : (s : List ℕ) (p : ℕ) → List ℕ
record_at s p =
    get_or s p 0
    ∷ get_or s (p + 1) 0
    ∷ get_or s (p + 2) 0
    ∷ get_or s (p + 3) 0
    ∷ get_or s (p + 4) 0
    ∷ get_or s (p + 5) 0
    ∷ get_or s (p + 6) 0
    ∷ get_or s (p + 7) 0
    ∷ []

-- k records, one behind the other, from p on
unfoldable pub records_from : (k : ℕ) (s : List ℕ) (p : ℕ) → List (List ℕ)
records_from zero s p = []
records_from (suc k) s p = record_at s p ∷ records_from k s (p + 8)

-- the records of a list of bytes; bytes behind the last whole record are none
abbrev pub records_in : (s : List ℕ) → List (List ℕ)
records_in s = records_from (length s / 8) s 0

-- a record: 8 bytes
pub record IsRecord (r : List ℕ) : Type 0 where
  pub eight : length r ≡ 8
  pub bytes : Bytes r

abbrev pub AllRecords : (rs : List (List ℕ)) → Type 0
AllRecords [] = Unit {0}
AllRecords (r ∷ rs) = IsRecord r × AllRecords rs
