-- What held before i, and what holds at i, held before suc i.
use Prim.Native.Nat.{ℕ, suc}
use native.Mathlib.Omega.{arith}
use Rattle.base.specs.Positions.{Before}

pub later : {P : ℕ → Type 0} {i : ℕ} → Before P i → Before P (suc i)
later x = record { at = x.at; earlier = omega (arith, x.earlier); holds = x.holds }

pub now : {P : ℕ → Type 0} (i : ℕ) → P i → Before P (suc i)
now i p = record { at = i; earlier = omega arith; holds = p }
