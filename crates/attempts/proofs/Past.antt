-- From box 9 on: a row of the code has nine answers, so none is better there.
use Prim.Native.Nat.{ℕ, zero, suc, ◌≤◌, min}
use native.Mathlib.Nat.{eq-or-lt_of_le, min-eq_left}
use native.Mathlib.Omega.{arith}
use native.Mathlib.Decide.{dec_le}
use mathlib.Core.Path.{◌≡◌, refl, sym, ap, ◌∙◌}
use mathlib.Core.Logic.{inl, inr}
use mathlib.Core.Bool.{Bool, true, false}
use mathlib.Core.List.{List}
use lib.Dec.{ltb}
use lib.ListN.{length, get_or-eq_default}
use Rattle.std.proofs.Common.{Option, Some, None, unwrap_or}
use borrow.Author.Tests.{ltb-true}
use mir.Val.{Val}
use denote.Laws.{Is}
use Rattle.base.specs.Choice.{when◌then◌else◌}
use Rattle.base.proofs.Choices.{by_test}
use Rattle.register.specs.Register.{answer0, holds_nothing}
use Rattle.register.specs.declared.Answer.{Answer}
use Rattle.requests.specs.Requests.{heard_from}
use Rattle.requests.specs.declared.Requests.{Requests}
use Rattle.attempts.specs.Rows.{better, higher, best_of, revision_from, revision_of}
use Rattle.attempts.specs.declared.Row.{Row}
use Rattle.attempts.specs.contracts.Row.{the_row}

-- the best so far, 0 and 0 where there is none
abbrev answer_in : Option Answer → Answer
answer_in x = unwrap_or x answer0

-- an answer that holds nothing is no better
none_better : (x : Option Answer) (t : Bool) → answer_in (better x t answer0) ≡ answer_in x
unfolding better higher when◌then◌else◌
none_better x false = refl
none_better None true = refl
none_better (Some a) true = by_test (λ (y : Answer). y ≡ a) (ltb a.rank 0) answer0 a (λ e. absurd (omega (arith, ltb-true a.rank 0 e))) (λ _. refl)

module _ (l : List Answer) (m : Requests) (nine : length l ≡ 9) where
  best_past : (n : ℕ) → 9 ≤ n → answer_in (best_of l m n) ≡ answer_in (best_of l m 9)
  unfolding best_of
  best_past zero h = absurd (omega arith)
  best_past (suc n) h = elim (eq-or-lt_of_le h) [
    | inl e ↦ ap (λ (k : ℕ). answer_in (best_of l m k)) (sym e)
    | inr i ↦
        ap (λ (a : Answer). answer_in (better (best_of l m n) (heard_from m n) a)) (get_or-eq_default l answer0 {n = n} (omega arith))
        ∙ none_better (best_of l m n) (heard_from m n) ∙ best_past n (omega arith)
  ]

module _ (w : Row) (vs : List Val) (g : Is the_row w vs) where
  nine_answers : length w.answers ≡ 9
  nine_answers = g.1.1.1.1.1.1.1.0.1.0.1

  -- the code looks at the first nine boxes
  pub revision_nine : (n : ℕ) → revision_from (best_of w.answers w.read (min n 9)) w.offer ≡ revision_of w n
  unfolding revision_of revision_from
  revision_nine n = elim (dec_le n 9) [
    | yes h ↦ ap (λ (k : ℕ). revision_from (best_of w.answers w.read k) w.offer) (min-eq_left h)
    | no h ↦
        ap (λ (k : ℕ). revision_from (best_of w.answers w.read k) w.offer) (omega arith)
        ∙ ap (λ (a : Answer). when holds_nothing a.rank then w.offer else a.value) (sym (best_past w.answers w.read nine_answers n (omega arith)))
  ]
