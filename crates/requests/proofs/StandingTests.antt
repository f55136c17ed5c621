-- Where a request stands, from the bit of its row's mask and its slot's stage.
use Prim.Native.Nat.{ℕ}
use mathlib.Core.Path.{◌≡◌, refl, sym}
use mathlib.Core.Bool.{true, false}
use Rattle.base.proofs.Choices.{on_true, on_false}
use Rattle.base.specs.Mask.{bit}
use Rattle.requests.specs.Requests.{received, not_received, standing}
use Rattle.requests.specs.declared.Stage.{Stage}

module _ (s : Stage) (mask b : ℕ) where
  pub standing_received : bit mask b ≡ true → standing s mask b ≡ received
  unfolding standing
  standing_received e = sym (on_true _ e refl)

  pub standing_clear : bit mask b ≡ false → standing s mask b ≡ not_received s
  unfolding standing
  standing_clear e = sym (on_false _ e refl)

pub ruleset standings = (standing_received, standing_clear)
