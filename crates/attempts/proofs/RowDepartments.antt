-- The rows of a department: 64, from its first on.
use Prim.Native.Nat.{ℕ, ◌+◌, ◌-◌, ◌<◌, ◌≤◌}
use native.Mathlib.Omega.{arith}
use native.Mathlib.Decide.{dec_lt}
use mathlib.Core.Path.{◌≡◌, refl, sym, ◌∙◌}
use borrow.Author.Tests.{lt-ltb, le-ltb}
use Rattle.base.proofs.Choices.{on_true, on_false}
use Rattle.register.specs.declared.Department.{Department}
use Rattle.register.specs.declared.Department.TheVariants.{Sails, Canvas}
use Rattle.attempts.specs.Rows.{row_department, first_row}

pub sails_row : (a : ℕ) → a < 64 → row_department a ≡ Sails
unfolding row_department
sails_row a h = sym (on_true _ (lt-ltb a 64 h) refl)

pub canvas_row : (a : ℕ) → 64 ≤ a → row_department a ≡ Canvas
unfolding row_department
canvas_row a h = sym (on_false _ (le-ltb a 64 h) refl)

-- a row of the department
pub row_own : (d : Department) (k : ℕ) → k < 64 → row_department (first_row d + k) ≡ d
row_own Sails k h = sails_row (0 + k) (omega arith)
row_own Canvas k h = canvas_row (64 + k) (omega arith)

-- it is not below the first, and the last is below 128
pub first_most : (d : Department) → first_row d ≤ 64
first_most Sails = omega arith
first_most Canvas = omega arith

pub row_least : (d : Department) (a : ℕ) → row_department a ≡ d → first_row d ≤ a
row_least Sails a e = omega arith
row_least Canvas a e = elim (dec_lt a 64) [
  | yes h ↦ absurd (let q : Sails ≡ Canvas = sym (sails_row a h) ∙ e in let k : ◌≡◌ {A = ℕ} 0 1 = cc in omega arith)
  | no h ↦ omega arith
]

-- the row a by its number in its department
pub row_number : (d : Department) (a : ℕ) → row_department a ≡ d → a ≡ first_row d + (a - first_row d)
row_number d a e = omega (arith, row_least d a e)

pub row_most : (d : Department) (a : ℕ) → row_department a ≡ d → a < 128 → a < first_row d + 64
row_most Sails a e h = elim (dec_lt a 64) [
  | yes l ↦ omega arith
  | no l ↦ absurd (let q : Canvas ≡ Sails = sym (canvas_row a (omega arith)) ∙ e in let k : ◌≡◌ {A = ℕ} 0 1 = cc in omega arith)
]
row_most Canvas a e h = omega arith
