-- The records of a list of bytes: how long they are, how many, and that joined they are the bytes they were cut from.
use Prim.Native.Nat.{ℕ, zero, suc, ◌+◌, ◌*◌, ◌/◌, ◌≤◌, ◌<◌}
use mathlib.Core.Path.{◌≡◌, refl, sym, ap, ap₂, ◌∙◌}
use mathlib.Core.List.{List, [], ◌∷◌, ◌++◌, flatten, append_assoc}
use native.Mathlib.Nat.{add-suc, add_assoc}
use native.Mathlib.Numerals.{add-one}
use native.Mathlib.Omega.{arith}
use lib.ListN.{length, get_or, take, drop, length-append}
use lib.Seq.{get_or-drop, drop-cons, drop-drop, take-add, drop-append_seam, take_at}
use Rattle.base.specs.Records.{record_at, records_from, AllRecords}

-- each record has 8 bytes
pub record_length : (s : List ℕ) (p : ℕ) → length (record_at s p) ≡ 8
unfolding record_at
record_length s p = refl

-- one byte more of what stands at p + k
next : (n : ℕ) (s : List ℕ) (p k : ℕ) → p + k < length s → take (suc n) (drop (p + k) s) ≡ get_or s (p + k) 0 ∷ take n (drop (p + suc k) s)
next n s p k h = rw (drop-cons s (p + k) 0 h, add-suc p k)

-- a record that lies within the list is the 8 bytes there
pub record_whole : (s : List ℕ) (p : ℕ) → p + 8 ≤ length s → record_at s p ≡ take 8 (drop p s)
unfolding record_at
record_whole s p h = sym (first ∙ ap (λ (l : List ℕ). get_or s p 0 ∷ l) rest)
  where
    first : take 8 (drop p s) ≡ get_or s p 0 ∷ take 7 (drop (p + 1) s)
    first = rw (drop-cons s p 0 (omega arith), add-one p)

    rest : take 7 (drop (p + 1) s) ≡ get_or s (p + 1) 0 ∷ get_or s (p + 2) 0 ∷ get_or s (p + 3) 0 ∷ get_or s (p + 4) 0 ∷ get_or s (p + 5) 0 ∷ get_or s (p + 6) 0 ∷ get_or s (p + 7) 0 ∷ []
    rest =
        rw (next 6 s p 1 (omega arith), next 5 s p 2 (omega arith), next 4 s p 3 (omega arith), next 3 s p 4 (omega arith))
        (rw (next 2 s p 5 (omega arith), next 1 s p 6 (omega arith), next 0 s p 7 (omega arith)))

pub records_length : (k : ℕ) (s : List ℕ) (p : ℕ) → length (records_from k s p) ≡ k
unfolding records_from
records_length zero s p = refl
records_length (suc k) s p = ap suc (records_length k s (p + 8))

-- the i-th of them
pub record_nth : (k : ℕ) (s : List ℕ) (p i : ℕ) (d : List ℕ) → i < k → get_or (records_from k s p) i d ≡ record_at s (p + 8 * i)
unfolding records_from
record_nth zero s p i d h = absurd (omega arith)
record_nth (suc k) s p zero d h = ap (record_at s) (omega arith)
record_nth (suc k) s p (suc i) d h = record_nth k s (p + 8) i d (omega arith) ∙ ap (record_at s) (omega arith)

-- the joined records are the bytes they were cut from
pub records_joined : (k : ℕ) (s : List ℕ) (p : ℕ) → p + 8 * k ≤ length s → flatten (records_from k s p) ≡ take (8 * k) (drop p s)
unfolding records_from flatten
records_joined zero s p h = refl
records_joined (suc k) s p h =
    let more : 8 * suc k ≡ 8 + 8 * k = omega arith in
    rw (more, take-add 8 (8 * k) (drop p s), drop-drop 8 p s, record_whole s p (omega arith), records_joined k s (p + 8) (omega arith))

-- records of 8 bytes each, joined behind p bytes, are the records there
pub joined_length : (rs : List (List ℕ)) → ((i : ℕ) → i < length rs → length (get_or rs i []) ≡ 8) → length (flatten rs) ≡ 8 * length rs
unfolding flatten
joined_length [] h = refl
joined_length (r ∷ rs) h =
    let head = h 0 (omega arith) in
    let tail = joined_length rs (λ i k. h (suc i) (omega arith)) in
    rw (length-append r (flatten rs)) (omega arith)

pub records_back : (rs : List (List ℕ)) → ((i : ℕ) → i < length rs → length (get_or rs i []) ≡ 8) → (p : List ℕ) → records_from (length rs) (p ++ flatten rs) (length p) ≡ rs
unfolding records_from flatten
records_back [] h p = refl
records_back (r ∷ rs) h p =
    let eight = h 0 (omega arith) in
    let back = records_back rs (λ i k. h (suc i) (omega arith)) (p ++ r) in
    let size : length (p ++ r) ≡ length p + 8 = length-append p r ∙ ap (λ (k : ℕ). length p + k) eight in
    let fits : length p + 8 ≤ length (p ++ (r ++ flatten rs)) = simp length-append (omega arith) in
    let head = record_whole (p ++ (r ++ flatten rs)) (length p) fits ∙ ap (take 8) (drop-append_seam p (r ++ flatten rs)) ∙ take_at r (flatten rs) 8 eight in
    rw (head, ← size, ← (append_assoc p r (flatten rs)), back)

-- joined lists of records, one behind the other
pub joined_append : (xs ys : List (List ℕ)) → flatten (xs ++ ys) ≡ flatten xs ++ flatten ys
unfolding flatten
joined_append [] ys = refl
joined_append (x ∷ xs) ys = ap (λ (l : List ℕ). x ++ l) (joined_append xs ys) ∙ sym (append_assoc x (flatten xs) (flatten ys))

-- the records of the bytes from q on
pub record_drop : (s : List ℕ) (q p : ℕ) → record_at (drop q s) p ≡ record_at s (q + p)
unfolding record_at
record_drop s q p = simp (get_or-drop, add_assoc)

pub records_drop : (k : ℕ) (s : List ℕ) (q p : ℕ) → records_from k (drop q s) p ≡ records_from k s (q + p)
unfolding records_from
records_drop zero s q p = refl
records_drop (suc k) s q p =
    ap₂ ◌∷◌ (record_drop s q p) (records_drop k s q (p + 8) ∙ ap (records_from k s) (sym (add_assoc q p 8)))

-- a list of records, another behind it, and its first k
pub all_append : (xs ys : List (List ℕ)) → AllRecords xs → AllRecords ys → AllRecords (xs ++ ys)
all_append [] ys a b = b
all_append (x ∷ xs) ys a b = (a.0, all_append xs ys a.1 b)

pub all_take : (k : ℕ) (xs : List (List ℕ)) → AllRecords xs → AllRecords (take k xs)
all_take zero xs a = tt
all_take (suc k) [] a = tt
all_take (suc k) (x ∷ xs) a = (a.0, all_take k xs a.1)

pub all_eight : (rs : List (List ℕ)) → AllRecords rs → (i : ℕ) → i < length rs → length (get_or rs i []) ≡ 8
all_eight [] a i h = absurd (omega arith)
all_eight (r ∷ rs) a zero h = a.0.eight
all_eight (r ∷ rs) a (suc i) h = all_eight rs a.1 i (omega arith)

-- records of 8 bytes, joined, are as many records again
pub records_again : (rs : List (List ℕ)) → AllRecords rs → records_from (length (flatten rs) / 8) (flatten rs) 0 ≡ rs
records_again rs a =
    let size = joined_length rs (all_eight rs a) in
    let count : length (flatten rs) / 8 ≡ length rs = omega arith in
    rw count (records_back rs (all_eight rs a) [])
