-- Department bytes: what it means that refusal 22 does not apply, both ways.
use Prim.Native.Nat.{ℕ, zero, suc, ◌≤◌, ◌<◌}
use native.Mathlib.Omega.{arith}
use mathlib.Core.Path.{◌≡◌, refl}
use mathlib.Core.Bool.{false}
use mathlib.Core.List.{List, [], ◌∷◌}
use lib.ListN.{length, get_or}
use Rattle.std.proofs.lemmas.Bool.{ltb-false, le-ltb, eqb-true, eq-eqb, not-false, not_from_true, or_parts, or_from}
use Rattle.base.specs.Claims.{Departments}
use Rattle.base.specs.Departments.{not_department, not_departments, departments_wrong}

-- what it means that each is 0 or 1, both ways
pub each_mean : (l : List ℕ) → not_departments l ≡ false → (i : ℕ) → i < length l → get_or l i 0 ≤ 1
unfolding not_departments not_department
each_mean [] e i h = absurd (omega arith)
each_mean (b ∷ l) e zero h = ltb-false 1 b (or_parts _ _ e).0
each_mean (b ∷ l) e (suc i) h = each_mean l (or_parts _ _ e).1 i (omega arith)

pub each_hold : (l : List ℕ) → ((i : ℕ) → i < length l → get_or l i 0 ≤ 1) → not_departments l ≡ false
unfolding not_departments not_department
each_hold [] h = refl
each_hold (b ∷ l) h = or_from _ _ (le-ltb 1 b (h 0 (omega arith))) (each_hold l (λ i k. h (suc i) (omega arith)))

module _ (k : ℕ) (l : List ℕ) where
  pub departments_mean : departments_wrong k l ≡ false → Departments k l
  unfolding departments_wrong
  departments_mean e =
      let p = or_parts _ _ e in
      record { count = eqb-true (length l) k (not-false _ p.0); each = each_mean l p.1 }

  pub departments_hold : Departments k l → departments_wrong k l ≡ false
  unfolding departments_wrong
  departments_hold d = or_from _ _ (not_from_true _ (eq-eqb (length l) k d.count)) (each_hold l d.each)
