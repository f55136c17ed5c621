-- The step by its three cases: the floor is not sound, the command is refused, the command is accepted.
use mathlib.Core.Path.{◌≡◌, refl, sym}
use mathlib.Core.Bool.{false}
use borrow.Author.Tests.{eq-eqb, ne_eqb}
use Rattle.base.proofs.Choices.{on_true, on_false, by_test}
use Rattle.floor.specs.Sound.{sound_of}
use Rattle.floor.specs.Soundness.{Sound}
use Rattle.floor.specs.Refusals.{refusal_on}
use Rattle.floor.specs.Effects.{effect_on, verdict_on, heard_on, delivered_on}
use Rattle.floor.specs.Step.{refused, play_of, apply_of}
use Rattle.floor.specs.declared.Floor.{Floor}
use Rattle.commands.specs.declared.Command.{Command}
use Rattle.floor.proofs.SoundLaws.{sound_holds}
use Prim.Native.Nat.{ℕ}
use native.Mathlib.Omega.{arith}
use Rattle.commands.specs.Outcomes.{is_refused}
use Rattle.floor.specs.declared.Stepped.{Stepped}
use Rattle.commands.specs.declared.Command.TheVariants.{Begin, Serve, Deliver, Stop, Leave, Return, Malformed}
use Rattle.requests.specs.declared.Phase.{Phase}
use Rattle.requests.specs.declared.Phase.TheVariants.{Read, Write}
use Rattle.requests.specs.declared.Verdict.{Verdict}
use Rattle.requests.specs.declared.Verdict.TheVariants.{Open, Yes, No}

module _ (f : Floor) (c : Command) where
  pub apply_unsound : sound_of f ≡ false → apply_of f c ≡ refused f 6
  unfolding apply_of
  apply_unsound e = sym (on_false _ e refl)

  pub apply_refused : Sound f → ¬ (refusal_on f c ≡ 0) → apply_of f c ≡ refused f (refusal_on f c)
  unfolding apply_of play_of
  apply_refused z e = sym (on_true _ (sound_holds f z) (on_false _ (ne_eqb _ _ e) refl))

  pub apply_accepted : Sound f → refusal_on f c ≡ 0 → apply_of f c ≡ effect_on f c
  unfolding apply_of play_of
  apply_accepted z e = sym (on_true _ (sound_holds f z) (on_true _ (eq-eqb _ _ e) refl))

-- what an accepted step says is no refusal
heard_said : (p : Phase) (v : Verdict) (f : Floor) (a b : ℕ) → is_refused (heard_on f p a b v).outcome ≡ false
heard_said p Open f a b = refl
heard_said Read Yes f a b = refl
heard_said Write Yes f a b = refl
heard_said Read No f a b = refl
heard_said Write No f a b = refl

pub effect_said : (f : Floor) (c : Command) → refusal_on f c ≡ 0 → is_refused (effect_on f c).outcome ≡ false
unfolding delivered_on
effect_said f (Begin s round v) e = refl
effect_said f (Serve p a b) e = refl
effect_said f (Deliver p a b) e = by_test (λ (x : Stepped). is_refused x.outcome ≡ false) _ _ _ (λ _. heard_said p (verdict_on f p a b) f a b) (λ _. refl)
effect_said f (Stop b) e = refl
effect_said f (Leave s) e = refl
effect_said f (Return b) e = refl
effect_said f Malformed e = absurd (omega (arith, e))
