-- The number of a step's outcome is that of its refusal, 0 or one of those of a step.
use Prim.Native.Nat.{ℕ}
use native.Mathlib.Decide.{ℕ_discrete}
use mathlib.Core.Path.{◌≡◌, refl, sym, ap, subst, ◌∙◌}
use mathlib.Core.Bool.{Bool, true, false}
use Rattle.base.proofs.Choices.{on_true, on_false}
use Rattle.base.proofs.Cases.{clash}
use Rattle.floor.specs.Sound.{sound_of}
use Rattle.floor.specs.Soundness.{Sound}
use Rattle.floor.specs.Tests.{RefusalOfStep}
use Rattle.floor.specs.Refusals.{refusal_on}
use Rattle.floor.specs.Effects.{effect_on}
use Rattle.commands.specs.Outcomes.{number_of, is_refused}
use Rattle.floor.specs.Step.{apply_of, refusal_of}
use Rattle.floor.specs.declared.Floor.{Floor}
use Rattle.floor.specs.declared.Stepped.{Stepped}
use Rattle.commands.specs.declared.Command.{Command}
use Rattle.floor.proofs.SoundLaws.{sound_means}
use Rattle.floor.proofs.StepCases.{apply_refusal}
use Rattle.floor.proofs.StepLaws.{apply_unsound, apply_refused, apply_accepted}
use Rattle.floor.proofs.StepLaws.{effect_said}
use Rattle.commands.proofs.OutcomeLaws.{accepted_number}

module _ (f : Floor) (c : Command) where
  abbrev saying : Stepped → ℕ
  saying s = number_of s.outcome

  refusal_sound : sound_of f ≡ true → refusal_of f c ≡ refusal_on f c
  unfolding refusal_of
  refusal_sound e = sym (on_true _ e refl)

  refusal_unsound : sound_of f ≡ false → refusal_of f c ≡ 6
  unfolding refusal_of
  refusal_unsound e = sym (on_false _ e refl)

  -- on a floor that is sound or not
  by_soundness : (t : Bool) → sound_of f ≡ t → saying (apply_of f c) ≡ refusal_of f c
  by_soundness true e = elim (ℕ_discrete (refusal_on f c) 0) [
    | yes z ↦ ap saying (apply_accepted f c (sound_means f e) z) ∙ accepted_number (effect_on f c).outcome (effect_said f c z) ∙ sym (refusal_sound e ∙ z)
    | no z ↦ ap saying (apply_refused f c (sound_means f e) z) ∙ sym (refusal_sound e)
  ]
  by_soundness false e = ap saying (apply_unsound f c e) ∙ sym (refusal_unsound e)

  pub apply_number : number_of (apply_of f c).outcome ≡ refusal_of f c
  apply_number = by_soundness (sound_of f) refl

-- a refused step has the number of a refusal
pub refused_number : (f : Floor) (c : Command) → is_refused (apply_of f c).outcome ≡ true → RefusalOfStep (number_of (apply_of f c).outcome)
refused_number f c e =
    let r = apply_refusal f c e in
    let n : number_of (apply_of f c).outcome ≡ r.number = ap (λ (s : Stepped). number_of s.outcome) r.is in
    subst RefusalOfStep (sym n) r.cause.number

-- an accepted step on a sound floor has no refusal
pub accepted_refusal : (f : Floor) (c : Command) → Sound f → is_refused (apply_of f c).outcome ≡ false → refusal_on f c ≡ 0
accepted_refusal f c z e = elim (ℕ_discrete (refusal_on f c) 0) [
  | yes q ↦ q
  | no q ↦ clash (ap (λ (s : Stepped). is_refused s.outcome) (apply_refused f c z q)) e
]
