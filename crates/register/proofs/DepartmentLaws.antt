-- A box by its departments.
use Prim.Native.Nat.{ℕ}
use native.Mathlib.Omega.{arith}
use mathlib.Core.Path.{◌≡◌, refl}
use mathlib.Core.Logic.{◌⊎◌, inl, inr}
use mathlib.Core.Bool.{Bool, true}
use Rattle.base.proofs.Cases.{clash}
use Rattle.register.specs.Register.{is_of, register_of, box_with}
use Rattle.register.specs.declared.Department.{Department}
use Rattle.register.specs.declared.Department.TheVariants.{Sails, Canvas}
use Rattle.register.specs.declared.Register.{Register}
use Rattle.register.specs.declared.StorageBox.{StorageBox}

-- what is stored is read back, and the other department's record is untouched
pub box_own : (d : Department) (x : StorageBox) (r : Register) (t : Bool) → register_of d (box_with d x r t) ≡ r
box_own Sails x r t = refl
box_own Canvas x r t = refl

pub box_other : (d e : Department) (x : StorageBox) (r : Register) (t : Bool) → ¬ (e ≡ d) → register_of e (box_with d x r t) ≡ register_of e x
box_other Sails Sails x r t n = absurd (n refl)
box_other Sails Canvas x r t n = refl
box_other Canvas Sails x r t n = refl
box_other Canvas Canvas x r t n = absurd (n refl)

-- a box stored as it was is the box
pub box_same : (d : Department) (x : StorageBox) → box_with d x (register_of d x) x.away ≡ x
box_same Sails x = refl
box_same Canvas x = refl

-- and one that is put away or brought back keeps both records, whichever department stores it
pub box_moved : (d : Department) (x : StorageBox) (t : Bool) → box_with d x (register_of d x) t ≡ record { registers = x.registers; away = t }
box_moved Sails x t = refl
box_moved Canvas x t = refl

pub register_moved : (d : Department) (x : StorageBox) (t : Bool) → register_of d (record { registers = x.registers; away = t }) ≡ register_of d x
register_moved Sails x t = refl
register_moved Canvas x t = refl

pub is_same : (d e : Department) → is_of d e ≡ true → d ≡ e
is_same Sails Sails h = refl
is_same Sails Canvas h = clash h refl
is_same Canvas Sails h = clash h refl
is_same Canvas Canvas h = refl

pub same_is : (d e : Department) → d ≡ e → is_of d e ≡ true
same_is Sails Sails h = refl
same_is Sails Canvas h = absurd (let k : ◌≡◌ {A = ℕ} 0 1 = cc in omega arith)
same_is Canvas Sails h = absurd (let k : ◌≡◌ {A = ℕ} 0 1 = cc in omega arith)
same_is Canvas Canvas h = refl

-- two departments are the same or not
pub same_or_not : (d e : Department) → (d ≡ e) ⊎ (¬ (d ≡ e))
same_or_not Sails Sails = inl refl
same_or_not Sails Canvas = inr (λ e. let k : ◌≡◌ {A = ℕ} 0 1 = cc in omega arith)
same_or_not Canvas Sails = inr (λ e. let k : ◌≡◌ {A = ℕ} 0 1 = cc in omega arith)
same_or_not Canvas Canvas = inl refl
