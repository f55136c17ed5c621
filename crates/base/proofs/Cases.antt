-- Cases of a test and of a number, as several crates take them apart.
use Prim.Native.Nat.{ℕ, suc, ◌<◌}
use native.Mathlib.Nat.{eq-or-lt_of_le}
use native.Mathlib.Omega.{arith}
use mathlib.Core.Path.{◌≡◌, refl, sym, ◌∙◌}
use mathlib.Core.Logic.{◌⊎◌}
use mathlib.Core.Bool.{Bool, true, false, false≢true}

-- a test has one value
pub clash : {t : Bool} {R : Type 0} → t ≡ true → t ≡ false → R
clash p q = absurd (false≢true (sym q ∙ p))

-- it has one of two
pub by_cases : {P : Type 0} (t : Bool) → (t ≡ true → P) → (t ≡ false → P) → P
by_cases true p q = p refl
by_cases false p q = q refl

pub not_true_false : (t : Bool) → ¬ (t ≡ true) → t ≡ false
not_true_false true h = absurd (h refl)
not_true_false false h = refl

-- a number below suc k is k or below k
pub up_to : {c k : ℕ} → c < suc k → (c ≡ k) ⊎ (c < k)
up_to h = eq-or-lt_of_le (omega arith)
