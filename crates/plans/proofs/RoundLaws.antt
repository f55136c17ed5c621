-- The round picked is the smallest of at least 1 whose rank passes h.
use Prim.Native.Nat.{ℕ, ◌≤◌, ◌<◌}
use native.Mathlib.Omega.{arith}
use Rattle.base.specs.Numbers.{rank_of}
use Rattle.plans.specs.Plans.{round_above}

module _ (h s : ℕ) where
  pub round_some : 1 ≤ round_above h s
  unfolding round_above
  round_some = omega arith

  pub round_passes : h < rank_of (round_above h s) s
  unfolding round_above
  round_passes = omega arith

  pub round_least : (r : ℕ) → 1 ≤ r → h < rank_of r s → round_above h s ≤ r
  unfolding round_above
  round_least r l p = omega arith
