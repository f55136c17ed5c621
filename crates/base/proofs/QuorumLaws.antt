-- The sizes of sets of boxes, and that two majorities of the same boxes share one.
use mathlib.Core.Path.{◌≡◌, refl, sym, ap, ap₂, ◌∙◌}
use mathlib.Core.Logic.{◌↔◌, inl, inr}
use mathlib.Core.Bool.{Bool, true, false}
use Prim.Native.Nat.{ℕ, zero, suc, ◌+◌, ◌*◌, ◌≤◌, ◌<◌}
use native.Mathlib.Nat.{eq-or-lt_of_le}
use native.Mathlib.Omega.{arith}
use Rattle.base.specs.Numbers.{quorum}
use Rattle.base.specs.Quorum.{indicator, count, AtLeast, Majority}

-- only the boxes below n count
pub count_local : (n : ℕ) (s t : ℕ → Bool) → ((b : ℕ) → b < n → s b ≡ t b) → count s n ≡ count t n
unfolding count
count_local zero s t h = refl
count_local (suc n) s t h = ap₂ (λ (k : ℕ) (x : Bool). k + indicator x) (count_local n s t (λ b p. h b (omega arith))) (h n (omega arith))

-- a set of boxes below n has at most n of them
pub count_le : (n : ℕ) (s : ℕ → Bool) → count s n ≤ n
unfolding count
count_le zero s = omega arith
count_le (suc n) s = go (s n) (count_le n s)
  where
    go : (x : Bool) → count s n ≤ n → count s n + indicator x ≤ suc n
    go true h = omega arith
    go false h = omega arith

-- the same count, from the lowest box up
pub count_low : (n : ℕ) (s : ℕ → Bool) → count s (suc n) ≡ indicator (s 0) + count (λ b. s (suc b)) n
unfolding count
count_low zero s = omega arith
count_low (suc n) s = omega (arith, count_low n s)

-- a box below n that was not in the set is one more
pub count_add : (n b : ℕ) (s t : ℕ → Bool) → b < n → s b ≡ false → t b ≡ true → ((j : ℕ) → ¬ (j ≡ b) → t j ≡ s j) → count t n ≡ suc (count s n)
unfolding count
count_add zero b s t h p q e = absurd (omega arith)
count_add (suc n) b s t h p q e = elim (eq-or-lt_of_le {n = b} {m = n} (omega arith)) [
  | inl i ↦ omega (
    arith,
    count_local n t s (λ j k. e j (omega arith)),
    ap indicator (ap s (sym i) ∙ p),
    ap indicator (ap t (sym i) ∙ q),
  )
  | inr l ↦ omega (arith, count_add n b s t l p q e, ap indicator (e n (omega arith)))
]

-- two sets of boxes below n whose sizes pass n together share a box
meet : (n : ℕ) (s t : ℕ → Bool) → n < count s n + count t n → (b : ℕ) × (b < n) × (s b ≡ true) × (t b ≡ true)
unfolding count
meet zero s t h = absurd (omega arith)
meet (suc n) s t h = go (s n) (t n) refl refl (meet n s t)
  where
    up : (b : ℕ) × (b < n) × (s b ≡ true) × (t b ≡ true) → (b : ℕ) × (b < suc n) × (s b ≡ true) × (t b ≡ true)
    up r = (r.0, omega (arith, r.1), r.2, r.3)

    go : (x y : Bool) → s n ≡ x → t n ≡ y → (n < count s n + count t n → (b : ℕ) × (b < n) × (s b ≡ true) × (t b ≡ true))
        → (b : ℕ) × (b < suc n) × (s b ≡ true) × (t b ≡ true)
    go true true p q below = (n, omega arith, p, q)
    go true false p q below = up (below (omega (arith, ap indicator p, ap indicator q)))
    go false true p q below = up (below (omega (arith, ap indicator p, ap indicator q)))
    go false false p q below = up (below (omega (arith, ap indicator p, ap indicator q)))

-- fewer boxes, and a weaker property of each
pub at_least_map : {j k n : ℕ} {P Q : ℕ → Type 0} → j ≤ k → ((b : ℕ) → P b → Q b) → AtLeast k n P → AtLeast j n Q
at_least_map h f m = record { set = m.set; large = omega (arith, m.large); each = λ b p e. f b (m.each b p e) }

-- j boxes and k boxes of n, with n below j + k, share one
pub at_least_meet : {j k n : ℕ} {P Q : ℕ → Type 0} → n < j + k → AtLeast j n P → AtLeast k n Q → (b : ℕ) × (b < n) × P b × Q b
at_least_meet {n = n} h m k =
    let r = meet n m.set k.set (omega (arith, m.large, k.large)) in
    (r.0, r.1, m.each r.0 r.1 r.2, k.each r.0 r.1 r.3)

-- q boxes are more than half of n, and no fewer are
pub more_than_half : (n k : ℕ) → quorum n ≤ k ↔ n < 2 * k
more_than_half n k = (λ h. omega arith, λ h. omega arith)

-- a set of at least q boxes, each of which has P, is a majority
pub majority_of : {n : ℕ} {P : ℕ → Type 0} (s : ℕ → Bool) → quorum n ≤ count s n → ((b : ℕ) → b < n → s b ≡ true → P b) → Majority n P
majority_of s h e = record { set = s; large = omega arith; each = e }

module _ {n : ℕ} {P Q : ℕ → Type 0} where
  pub majority_map : ((b : ℕ) → P b → Q b) → Majority n P → Majority n Q
  majority_map = at_least_map (omega arith)

  -- two majorities of the same boxes share one
  pub majority_meet : Majority n P → Majority n Q → (b : ℕ) × (b < n) × P b × Q b
  majority_meet = at_least_meet (omega arith)
