-- The round picked is the smallest of at least 1 whose rank passes the highest rank begun.
use Prim.Native.Nat.{ℕ}
use Rattle.plans.proofs.RoundLaws.{round_some, round_passes, round_least}
use Rattle.floor.specs.declared.Floor.{Floor}
use Rattle.solo.specs.Plan.{highest_begun, round_of}
use Rattle.solo.specs.Claims.{Smallest}

pub round_smallest : (f : Floor) (s : ℕ) → Smallest f s (round_of f s)
round_smallest f s = record { some = round_some (highest_begun f s) s; passes = round_passes (highest_begun f s) s; least = round_least (highest_begun f s) s }
