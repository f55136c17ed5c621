-- The refusal that a step on the parts says by name has the number of what it says.
use Prim.Native.Nat.{ℕ}
use mathlib.Core.Path.{◌≡◌, refl}
use lib.Dec.{eqb}
use borrow.Author.Tests.{eqb-false}
use Rattle.base.specs.Refusals.{number_if}
use Rattle.base.proofs.Choices.{by_test}
use Rattle.requests.specs.declared.Phase.{Phase}
use Rattle.requests.specs.declared.Phase.TheVariants.{Read, Write}
use Rattle.requests.specs.declared.Verdict.{Verdict}
use Rattle.requests.specs.declared.Verdict.TheVariants.{Open, Yes, No}
use Rattle.commands.specs.Outcomes.{number_of, refusal_said}
use Rattle.commands.specs.declared.Command.{Command}
use Rattle.commands.specs.declared.Command.TheVariants.{Begin, Serve, Deliver, Stop, Leave, Return, Malformed}
use Rattle.commands.proofs.OutcomeLaws.{Numbering, numbering_or}
use Rattle.attempts.specs.declared.Row.{Row}
use Rattle.parts.specs.Parts.{begin_in, serve_in, deliver_in, stop_in, leave_in, return_in, refusal_in, begun, served, delivered, heard_by, read_ended, effect_in, change_in}
use Rattle.parts.specs.declared.Parts.{Parts}
use Rattle.parts.specs.declared.Changed.{Changed}

module _ (x : Parts) where
  refusal_numbering : (c : Command) → Numbering (refusal_in x c)
  unfolding begin_in serve_in deliver_in stop_in leave_in return_in
  refusal_numbering (Begin s round v) =
      numbering_or _ 8 _ (λ _. refl) (numbering_or _ 9 _ (λ _. refl) (numbering_or _ 10 _ (λ _. refl)
      (numbering_or _ 11 _ (λ _. refl) (numbering_or _ 11 _ (λ _. refl) (numbering_or _ 12 0 (λ _. refl) (λ e. absurd (e refl)))))))
  refusal_numbering (Serve p a b) =
      numbering_or _ 8 _ (λ _. refl) (numbering_or _ 8 _ (λ _. refl) (numbering_or _ 13 _ (λ _. refl)
      (numbering_or _ 0 14 (λ e. absurd (e refl)) (λ _. refl))))
  refusal_numbering (Deliver p a b) =
      numbering_or _ 8 _ (λ _. refl) (numbering_or _ 8 _ (λ _. refl) (numbering_or _ 9 _ (λ _. refl)
      (numbering_or _ 0 14 (λ e. absurd (e refl)) (λ _. refl))))
  refusal_numbering (Stop b) = numbering_or _ 8 _ (λ _. refl) (numbering_or _ 13 0 (λ _. refl) (λ e. absurd (e refl)))
  refusal_numbering (Leave s) = numbering_or _ 8 _ (λ _. refl) (numbering_or _ 9 0 (λ _. refl) (λ e. absurd (e refl)))
  refusal_numbering (Return b) = numbering_or _ 8 _ (λ _. refl) (numbering_or _ 0 23 (λ e. absurd (e refl)) (λ _. refl))
  refusal_numbering Malformed = λ _. refl

  abbrev Named : Changed → Type 0
  Named y = number_if (refusal_said y.outcome) ≡ number_of y.outcome

  heard_named : (p : Phase) (a : ℕ) (w : Row) (v : Verdict) → Named (heard_by x p a w v)
  unfolding read_ended
  heard_named p a w Open = refl
  heard_named Read a w Yes = refl
  heard_named Write a w Yes = refl
  heard_named p a w No = refl

  effect_named : (c : Command) → Named (effect_in x c)
  unfolding begun served delivered
  effect_named (Begin s round v) = refl
  effect_named (Serve p a b) = refl
  effect_named (Deliver p a b) = by_test Named _ _ _ (λ _. heard_named p a _ _) (λ _. refl)
  effect_named (Stop b) = refl
  effect_named (Leave s) = refl
  effect_named (Return b) = refl
  effect_named Malformed = refl

  pub change_named : (c : Command) → number_if (refusal_said (change_in x c).outcome) ≡ number_of (change_in x c).outcome
  unfolding change_in
  change_named c = by_test Named (eqb (refusal_in x c) 0) _ _ (λ _. effect_named c) (λ e. refusal_numbering c (eqb-false _ _ e))
