-- What the code of an accepted step needs of its parts, from its refusal being 0.
use Prim.Native.Nat.{ℕ, ◌<◌, ◌≤◌}
use native.Mathlib.Omega.{arith}
use mathlib.Core.Path.{◌≡◌, subst}
use borrow.Author.Tests.{leb-false}
use Rattle.base.proofs.Choices.{passed}
use Rattle.requests.specs.declared.Phase.{Phase}
use Rattle.parts.specs.Parts.{deliver_in, refusal_in}
use Rattle.parts.specs.declared.Parts.{Parts}
use Rattle.commands.specs.declared.Command.{Command}
use Rattle.commands.specs.declared.Command.TheVariants.{Deliver}

module _ (p : Parts) (c : Command) (e : refusal_in p c ≡ 0) where
  accepted : (x : Command) → c ≡ x → refusal_in p x ≡ 0
  accepted x q = subst (λ (y : Command). refusal_in p y ≡ 0) q e

  pub deliver_needs : p.n ≤ 9 → (f : Phase) (a b : ℕ) → c ≡ Deliver f a b → b < 9
  unfolding deliver_in
  deliver_needs n f a b q =
      let x₁ = passed _ _ _ (accepted _ q) (omega arith) in
      let x₂ = passed _ _ _ x₁.1 (omega arith) in
      omega (arith, leb-false p.n b x₂.0)
