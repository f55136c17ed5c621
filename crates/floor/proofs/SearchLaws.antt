-- The loop that looks for the row of a begin: what it has found once k rows of the department are passed.
use Prim.Native.Nat.{ℕ, ◌≤◌}
use native.Mathlib.Omega.{arith}
use mathlib.Core.Path.{◌≡◌, sym, ap, ◌∙◌}
use Rattle.std.proofs.Common.{Option}
use Rattle.commands.specs.declared.Command.{Command}
use Rattle.register.specs.declared.Department.{Department}
use Rattle.places.specs.declared.Lowest.{Lowest}
use Rattle.floor.specs.Floors.{used_of}
use Rattle.floor.specs.Free.{free_below, row_in, taken_by}
use Rattle.floor.specs.declared.Floor.{Floor}

-- the row is looked for, or it is known and no row is looked at; k rows of the department are passed
pub data Looking (f : Floor) (d : Department) (c : Command) (k : ℕ) (x : Option Lowest) : Type 0 where
  seeking : 64 ≤ used_of f d → taken_by f d c ≡ row_in (free_below f d 64) → x ≡ free_below f d k → Looking f d c k x
  known : 64 ≤ k → row_in x ≡ taken_by f d c → Looking f d c k x

-- at its end it has found the row that the command takes
module _ (f : Floor) (d : Department) where
  pub looking_ends : (c : Command) (k : ℕ) (x : Option Lowest) → k ≤ 64 → 64 ≤ k → Looking f d c k x → row_in x ≡ taken_by f d c
  looking_ends c k x l h (seeking u t e) = let q : k ≡ 64 = omega arith in ap row_in (e ∙ ap (free_below f d) q) ∙ sym t
  looking_ends c k x l h (known _ e) = e
