-- Wish 6 of document 02: the department bytes, "one byte a station: 0 sails, 1 canvas", and refusal 22.
use Rattle.std.specs.Prelude.{ℕ, Bool, not, ◌||◌, List, eqb, ltb, length}
use Rattle.std.specs.List.{list_any}

-- "not 0 or 1"
unfoldable pub not_department : (b : ℕ) → Bool
not_department b = ltb 1 b

unfoldable pub not_departments : (bs : List ℕ) → Bool
not_departments bs = list_any not_department bs

-- "22 .. when a department byte is missing or not 0 or 1", and "also for a department byte too many"; there are to be k of them
unfoldable pub departments_wrong : (k : ℕ) (bs : List ℕ) → Bool
departments_wrong k bs = not (eqb (length bs) k) || not_departments bs
