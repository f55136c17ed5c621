-- Positions of a run, from 0: earlier is `<`.
use Rattle.std.specs.Prelude.{ℕ, ◌<◌}

-- P holds at a position before i
pub record Before (P : ℕ → Type 0) (i : ℕ) : Type 0 where
  pub at : ℕ
  pub earlier : at < i
  pub holds : P at
