-- What the tests of a request's standing say, both ways.
use Prim.Native.Nat.{ℕ}
use mathlib.Core.Path.{◌≡◌, refl, sym, ap, ◌∙◌}
use mathlib.Core.Bool.{true, false}
use Rattle.base.proofs.Cases.{clash}
use Rattle.base.proofs.Choices.{on_false, by_test}
use Rattle.base.specs.Mask.{bit}
use Rattle.requests.specs.Requests.{Standing, received, not_received, standing, is_waiting, is_on_the_way}
use Rattle.requests.specs.declared.Stage.{Stage}
use Rattle.requests.specs.declared.Stage.TheVariants.{Unissued, Waiting, Answered}

-- a request waits: its stage says so and its answer was not received
stage_waits : (g : Stage) → is_waiting (not_received g) ≡ true → g ≡ Waiting
stage_waits Unissued e = clash e refl
stage_waits Waiting e = refl
stage_waits Answered e = clash e refl

stage_answers : (g : Stage) → is_on_the_way (not_received g) ≡ true → g ≡ Answered
stage_answers Unissued e = clash e refl
stage_answers Waiting e = clash e refl
stage_answers Answered e = refl

module _ (g : Stage) (m b : ℕ) where
  pub waits_means : is_waiting (standing g m b) ≡ true → (g ≡ Waiting) × (bit m b ≡ false)
  unfolding standing
  waits_means =
      by_test (λ (x : Standing). is_waiting x ≡ true → (g ≡ Waiting) × (bit m b ≡ false)) (bit m b) received (not_received g)
      (λ _ e. clash e refl) (λ q e. (stage_waits g e, q))

  pub waits_holds : g ≡ Waiting → bit m b ≡ false → is_waiting (standing g m b) ≡ true
  unfolding standing
  waits_holds e q = ap is_waiting (sym (on_false received q refl)) ∙ ap (λ (x : Stage). is_waiting (not_received x)) e

  -- an answer is on the way: its stage says so and it was not received
  pub arrives_means : is_on_the_way (standing g m b) ≡ true → (g ≡ Answered) × (bit m b ≡ false)
  unfolding standing
  arrives_means =
      by_test (λ (x : Standing). is_on_the_way x ≡ true → (g ≡ Answered) × (bit m b ≡ false)) (bit m b) received (not_received g)
      (λ _ e. clash e refl) (λ q e. (stage_answers g e, q))

  pub arrives_holds : g ≡ Answered → bit m b ≡ false → is_on_the_way (standing g m b) ≡ true
  unfolding standing
  arrives_holds e q = ap is_on_the_way (sym (on_false received q refl)) ∙ ap (λ (x : Stage). is_on_the_way (not_received x)) e
