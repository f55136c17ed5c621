-- What each department has of a floor: its share stored and read, and which rows are in use.
use Prim.Native.Nat.{ℕ, ◌<◌}
use native.Mathlib.Omega.{arith}
use mathlib.Core.Path.{◌≡◌, refl, sym, subst}
use Rattle.register.specs.declared.Department.{Department}
use Rattle.register.specs.declared.Department.TheVariants.{Sails, Canvas}
use Rattle.attempts.specs.Rows.{row_department}
use Rattle.attempts.proofs.RowDepartments.{first_most}
use Rattle.floor.specs.Floors.{share_of, end_of, InUse, shares_with, with_share}
use Rattle.floor.specs.Soundness.{Sound}
use Rattle.floor.specs.declared.Share.{Share}
use Rattle.floor.specs.declared.Floor.{Floor}

-- what is stored is read back, and the other department's is untouched
pub share_own : (d : Department) (f : Floor) (x : Share) → share_of d (with_share d f x) ≡ x
share_own Sails f x = refl
share_own Canvas f x = refl

pub share_other : (d e : Department) (f : Floor) (x : Share) → ¬ (e ≡ d) → share_of e (with_share d f x) ≡ share_of e f
share_other Sails Sails f x n = absurd (n refl)
share_other Sails Canvas f x n = refl
share_other Canvas Sails f x n = refl
share_other Canvas Canvas f x n = absurd (n refl)

pub share_same : (d : Department) (f : Floor) → shares_with d f (share_of d f) ≡ f.shares
share_same Sails f = refl
share_same Canvas f = refl

-- a row in use is one of the 128
pub in_use_most : (f : Floor) → Sound f → (a : ℕ) → InUse f a → a < 128
in_use_most f z a h = omega (arith, z.rows_most (row_department a), first_most (row_department a))

-- in use by the department d
pub use_of : (f : Floor) (d : Department) (a : ℕ) → row_department a ≡ d → InUse f a → a < end_of f d
use_of f d a e h = subst (λ (x : Department). a < end_of f x) e h

pub of_use : (f : Floor) (d : Department) (a : ℕ) → row_department a ≡ d → a < end_of f d → InUse f a
of_use f d a e h = subst (λ (x : Department). a < end_of f x) (sym e) h
