-- Decimal digits: as many as the number needs, and no more than 20; they spell it.
use Prim.Native.Nat.{ℕ, zero, suc, ◌+◌, ◌-◌, ◌*◌, ◌/◌, ◌%◌, ◌^◌, ◌≤◌, ◌<◌}
use native.Mathlib.Omega.{arith}
use mathlib.Core.Path.{◌≡◌, refl, sym, ◌∙◌}
use mathlib.Core.List.{List, [], ◌∷◌, ◌++◌}
use lib.Dec.{ltb}
use lib.ListN.{length, get_or, length-append}
use borrow.Author.Tests.{ltb-true, lt-ltb, le-ltb}
use Rattle.std.specs.Fmt.{decimal}
use Rattle.std.proofs.lemmas.Fmt.{AppendsLastDigit, decimal_from_appends, length-decimal-le}
use Rattle.base.proofs.Choices.{on_true, on_false, by_test}
use Rattle.drill.specs.Report.{digits_of, decimal_of}
use Rattle.drill.specs.Claims.{spelt}

-- what std prints of a number of 64 bits
digits_append : AppendsLastDigit digits_of
unfolding digits_of
digits_append = record {
  one = λ k n l. sym (on_true _ (lt-ltb n 10 l) refl);
  more = λ k n l. sym (on_false _ (le-ltb n 10 l) refl);
}

pub decimal_printed : (n : ℕ) → n < 2 ^ 64 → decimal_of n ≡ decimal n
decimal_printed n h = decimal_from_appends digits_of digits_append 20 n h (length-decimal-le 20 n (omega arith) (omega arith) h)

pub digits_few : (k n : ℕ) → length (digits_of k n) ≤ k
unfolding digits_of
digits_few zero n = omega arith
digits_few (suc k) n =
    by_test (λ (l : List ℕ). length l ≤ suc k) (ltb n 10) _ _
    (λ _. omega arith)
    (λ _. omega (arith, length-append (digits_of k (n / 10)) ((48 + n % 10) ∷ []), digits_few k (n / 10)))

-- each byte is a digit's
all_append : (l r : List ℕ) → ((i : ℕ) → get_or l i 0 ≤ 57) → ((i : ℕ) → get_or r i 0 ≤ 57) → (i : ℕ) → get_or (l ++ r) i 0 ≤ 57
all_append [] r p q i = q i
all_append (x ∷ l) r p q zero = p 0
all_append (x ∷ l) r p q (suc i) = all_append l r (λ j. p (suc j)) q i

one_digit : (d : ℕ) → d < 10 → (i : ℕ) → get_or ((48 + d) ∷ []) i 0 ≤ 57
one_digit d h zero = omega arith
one_digit d h (suc i) = omega arith

pub all_digits : (k n i : ℕ) → get_or (digits_of k n) i 0 ≤ 57
unfolding digits_of
all_digits zero n i = omega arith
all_digits (suc k) n i =
    by_test (λ (l : List ℕ). get_or l i 0 ≤ 57) (ltb n 10) _ _
    (λ t. one_digit n (ltb-true n 10 t) i)
    (λ _. all_append (digits_of k (n / 10)) ((48 + n % 10) ∷ []) (all_digits k (n / 10)) (one_digit (n % 10) (omega arith)) i)

-- and they spell the number
spelt_behind : (so : ℕ) (l : List ℕ) (d : ℕ) → spelt so (l ++ (d ∷ [])) ≡ spelt so l * 10 + (d - 48)
unfolding spelt
spelt_behind so [] d = refl
spelt_behind so (x ∷ l) d = spelt_behind (so * 10 + (x - 48)) l d

pub digits_spell : (k n : ℕ) → n < 10 ^ k → spelt 0 (digits_of k n) ≡ n
unfolding digits_of spelt
digits_spell zero n h = omega arith
digits_spell (suc k) n h =
    by_test (λ (l : List ℕ). spelt 0 l ≡ n) (ltb n 10) _ _
    (λ _. omega arith)
    (λ _. spelt_behind 0 (digits_of k (n / 10)) (48 + n % 10) ∙ rw (digits_spell k (n / 10) (omega arith)) (omega arith))
