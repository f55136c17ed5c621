-- The laws of a choice: down one branch, down the other, and by cases.
use Prim.Native.Nat.{ℕ, ◌<◌}
use native.Mathlib.Omega.{arith}
use mathlib.Core.Bool.{Bool, true, false, false≢true}
use mathlib.Core.Path.{◌≡◌, refl, sym}
use Rattle.base.specs.Choice.{when◌then◌else◌}

-- the test holds
pub on_true : {A : Type 0} {t : Bool} {r x : A} (y : A) → t ≡ true → r ≡ x → r ≡ when t then x else y
unfolding when◌then◌else◌
on_true y e h = rw e h

-- the test fails
pub on_false : {A : Type 0} {t : Bool} {r y : A} (x : A) → t ≡ false → r ≡ y → r ≡ when t then x else y
unfolding when◌then◌else◌
on_false x e h = rw e h

-- and what came of a choice whose test holds
pub chosen : {A : Type 0} {t : Bool} {r x : A} (y : A) → t ≡ true → r ≡ (when t then x else y) → r ≡ x
unfolding when◌then◌else◌
chosen y e h = rw e at h

-- what holds of both branches, each with the test's value in hand, holds of the choice
pub by_test : {A : Type 0} (P : A → Type 0) (t : Bool) (x y : A) → (t ≡ true → P x) → (t ≡ false → P y) → P (when t then x else y)
unfolding when◌then◌else◌
by_test P true x y p q = p refl
by_test P false x y p q = q refl

-- a chain of tests that ends in true: what its first test was
pub both_true : (t x : Bool) → (when t then x else false) ≡ true → (t ≡ true) × (x ≡ true)
unfolding when◌then◌else◌
both_true true x e = (refl, e)
both_true false x e = absurd (false≢true e)

pub first_false : (t x : Bool) → (when t then false else x) ≡ true → (t ≡ false) × (x ≡ true)
unfolding when◌then◌else◌
first_false true x e = absurd (false≢true e)
first_false false x e = (refl, e)

-- and one that ends in false
pub both_false : (t x : Bool) → (when t then true else x) ≡ false → (t ≡ false) × (x ≡ false)
unfolding when◌then◌else◌
both_false true x e = absurd (false≢true (sym e))
both_false false x e = (refl, e)

-- a chain of refusals that came to 0: its first test failed
pub passed : (t : Bool) (k x : ℕ) → (when t then k else x) ≡ 0 → 0 < k → (t ≡ false) × (x ≡ 0)
unfolding when◌then◌else◌
passed true k x e h = absurd (omega arith)
passed false k x e h = (refl, e)

-- what is made of a choice is the choice of what is made
pub choice_ap : {A B : Type 0} (g : A → B) (t : Bool) (x y : A) → g (when t then x else y) ≡ (when t then g x else g y)
unfolding when◌then◌else◌
choice_ap g true x y = refl
choice_ap g false x y = refl
