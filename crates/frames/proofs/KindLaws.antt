-- The kinds by their numbers, and which lengths are a kind's.
use Prim.Native.Nat.{ℕ, ◌+◌, ◌*◌}
use native.Mathlib.Omega.{arith}
use mathlib.Core.Path.{◌≡◌, refl, sym, ap, ◌∙◌}
use mathlib.Core.Bool.{Bool, false, not}
use lib.Dec.{eqb, ltb}
use borrow.Author.Tests.{eqb-true, eqb-false, ltb-false, lt-leb}
use Rattle.std.specs.Prelude.{Result, Ok, Err, is_ok}
use Rattle.base.specs.declared.Refusal.{Refusal}
use Rattle.base.specs.Choice.{when◌then◌else◌}
use Rattle.base.proofs.Choices.{on_true, on_false, by_test}
use Rattle.frames.specs.Messages.{known, fields_in, number_of, kind_numbered}
use Rattle.frames.specs.Reader.{wrong_for}
use Rattle.frames.specs.declared.Kind.{Kind}

-- the kind with a number has it
module _ (number : ℕ) (k : Kind) where
  abbrev Means : Result Kind Refusal → Type 0
  Means r = r ≡ Ok k → number ≡ number_of k

  pub numbered_means : kind_numbered number ≡ Ok k → number ≡ number_of k
  unfolding kind_numbered
  numbered_means =
      by_test Means (eqb number 1) _ _ (λ t e. cc (eqb-true number 1 t)) (λ _.
      by_test Means (eqb number 2) _ _ (λ t e. cc (eqb-true number 2 t)) (λ _.
      by_test Means (eqb number 3) _ _ (λ t e. cc (eqb-true number 3 t)) (λ _.
      by_test Means (eqb number 4) _ _ (λ t e. cc (eqb-true number 4 t)) (λ _.
      by_test Means (eqb number 5) _ _ (λ t e. cc (eqb-true number 5 t)) (λ _.
      by_test Means (eqb number 6) _ _ (λ t e. cc (eqb-true number 6 t)) (λ _ e. absurd cc))))))

-- a number is known where a kind has it
module _ (number : ℕ) where
  abbrev Known : Result Kind Refusal → Type 0
  Known r = known number ≡ is_ok r

  pub known_is : known number ≡ is_ok (kind_numbered number)
  unfolding known kind_numbered when◌then◌else◌
  known_is =
      by_test Known (eqb number 1) _ _ (λ t. ap known (eqb-true number 1 t)) (λ n₁.
      by_test Known (eqb number 2) _ _ (λ t. ap known (eqb-true number 2 t)) (λ n₂.
      by_test Known (eqb number 3) _ _ (λ t. ap known (eqb-true number 3 t)) (λ n₃.
      by_test Known (eqb number 4) _ _ (λ t. ap known (eqb-true number 4 t)) (λ n₄.
      by_test Known (eqb number 5) _ _ (λ t. ap known (eqb-true number 5 t)) (λ n₅.
      by_test Known (eqb number 6) _ _ (λ t. ap known (eqb-true number 6 t)) (λ n₆.
      by_test (λ (t : Bool). t ≡ false) (ltb number 1) _ _ (λ _. refl) (λ h.
      lt-leb number 6 (omega (arith, ltb-false number 1 h, eqb-false number 1 n₁, eqb-false number 2 n₂, eqb-false number 3 n₃, eqb-false number 4 n₄, eqb-false number 5 n₅, eqb-false number 6 n₆)))))))))

  module _ (stated : ℕ) where
    pub wrong_of : (k : Kind) → kind_numbered number ≡ Ok k → not (eqb stated (2 + 4 * fields_in (number_of k))) ≡ wrong_for number stated
    unfolding wrong_for
    wrong_of k e = on_true _ (known_is ∙ ap is_ok e) (ap (λ (j : ℕ). not (eqb stated (2 + 4 * fields_in j))) (sym (numbered_means number k e)))

    pub wrong_of_none : (r : Refusal) → kind_numbered number ≡ Err r → false ≡ wrong_for number stated
    unfolding wrong_for
    wrong_of_none r e = on_false _ (known_is ∙ ap is_ok e) refl
