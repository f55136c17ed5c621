-- Sets of boxes by number, their sizes, and majorities (the paper's quorums).
use Rattle.std.specs.Prelude.{◌≡◌, Bool, true, false, ℕ, zero, suc, ◌+◌, ◌≤◌, ◌<◌}
use Rattle.base.specs.Numbers.{quorum}

-- 1 for a member of a set, 0 for any other
abbrev pub indicator : (member : Bool) → ℕ
indicator true = 1
indicator false = 0

-- how many boxes below n are in the set s
unfoldable pub count : (s : ℕ → Bool) (n : ℕ) → ℕ
count s zero = 0
count s (suc n) = count s n + indicator (s n)

-- at least k of the boxes below n have P: a set of so many boxes, each of which has it
pub record AtLeast (k n : ℕ) (P : ℕ → Type 0) : Type 0 where
  pub set : ℕ → Bool
  pub large : k ≤ count set n
  pub each : (b : ℕ) → b < n → set b ≡ true → P b

-- a majority of the n boxes has P: document 01's q boxes, the paper's ceiling of (n + 1) / 2
abbrev pub Majority : (n : ℕ) (P : ℕ → Type 0) → Type 0
Majority n P = AtLeast (quorum n) n P
