-- A step that passes its tests on a sound floor is accepted: the floor it leads to and what it says. The view's converse.
use Prim.Native.Nat.{ℕ}
use mathlib.Core.Path.{◌≡◌, refl, sym, ap, ◌∙◌}
use mathlib.Core.Logic.{◌⊎◌, inl, inr}
use mathlib.Core.Bool.{true, false}
use Rattle.suits.specs.declared.Suit.{Suit}
use Rattle.base.proofs.Choices.{on_true, by_test}
use Rattle.requests.specs.Requests.{at_quorum, all_yes}
use Rattle.requests.specs.declared.Phase.{Phase}
use Rattle.requests.specs.declared.Phase.TheVariants.{Read, Write}
use Rattle.requests.specs.declared.Verdict.{Verdict}
use Rattle.requests.specs.declared.Verdict.TheVariants.{Open, Yes, No}
use Rattle.requests.proofs.RequestLaws.{verdict_yes}
use Rattle.base.proofs.Cases.{clash}
use Rattle.floor.specs.Floors.{row_at, owner_at}
use Rattle.attempts.specs.Stations.{is_reading, is_writing, is_in}
use Rattle.floor.specs.Soundness.{Sound}
use Rattle.floor.specs.Tests.{CanBegin, CanServe, CanDeliver}
use Rattle.attempts.specs.Rows.{revision_of}
use Rattle.floor.specs.Effects.{heard_row, stepped, row_taken, after_begin, after_serve, after_issue, after_decision, after_abort, received_on, verdict_on, heard_on, delivered_on}
use Rattle.floor.specs.Step.{apply_of}
use Rattle.floor.specs.declared.Floor.{Floor}
use Rattle.floor.specs.declared.Stepped.{Stepped}
use Rattle.commands.specs.declared.Outcome.TheVariants as said
use Rattle.commands.specs.declared.Command.TheVariants.{Begin, Serve, Deliver}
use Rattle.floor.proofs.RefusalLaws.{begin_holds, serve_holds, deliver_holds}
use Rattle.floor.proofs.StepLaws.{apply_accepted}

module _ (f : Floor) (z : Sound f) where
  pub begin_accepted : (s round : ℕ) (v : Suit) → CanBegin f s round → apply_of f (Begin s round v) ≡ stepped (after_begin f s round v) (said.Begun (row_taken f s))
  begin_accepted s round v d = apply_accepted f (Begin s round v) z (begin_holds f s round d)

  module _ (a b : ℕ) where
    pub serve_accepted : (p : Phase) → CanServe f p a b → apply_of f (Serve p a b) ≡ stepped (after_serve f p a b) (said.Served a)
    serve_accepted p d = apply_accepted f (Serve p a b) z (serve_holds f p a b d)

    module _ (p : Phase) (d : CanDeliver f p a b) where
      deliver_accepted : apply_of f (Deliver p a b) ≡ delivered_on f p a b
      deliver_accepted = apply_accepted f (Deliver p a b) z (deliver_holds f p a b d)

      -- an answer to a station that is in that phase of its attempt, by what the answers received come to
      heard : (v : Verdict) → is_in p (owner_at f a).state a ≡ true → verdict_on f p a b ≡ v
          → apply_of f (Deliver p a b) ≡ heard_on f p a b v
      unfolding delivered_on
      heard v r e = deliver_accepted ∙ sym (on_true _ r refl) ∙ ap (heard_on f p a b) e

      -- one that ends nothing, or that reaches a station which is not in that phase of its attempt
      pub received : (is_in p (owner_at f a).state a ≡ false) ⊎ (verdict_on f p a b ≡ Open)
          → apply_of f (Deliver p a b) ≡ received_on f p a b
      unfolding delivered_on
      received h =
          deliver_accepted
          ∙ by_test (λ (y : Stepped). y ≡ received_on f p a b) _ _ _ (λ r. elim h [ inl e ↦ clash r e | inr e ↦ ap (heard_on f p a b) e ]) (λ _. refl)

      -- one that ends the phase with a no
      pub aborted : is_in p (owner_at f a).state a ≡ true → verdict_on f p a b ≡ No
          → apply_of f (Deliver p a b) ≡ stepped (after_abort f a (heard_row f p a b)) (said.Aborted a)
      aborted r e = heard No r e

    -- the q-th, where all say yes
    pub write_issued_lem : CanDeliver f Read a b → is_reading (owner_at f a).state a ≡ true → at_quorum (heard_row f Read a b).read f.n ≡ true
        → all_yes (heard_row f Read a b).read f.n ≡ true
        → apply_of f (Deliver Read a b) ≡ stepped (after_issue f a (heard_row f Read a b) (revision_of (heard_row f Read a b) f.n)) (said.WriteIssued (revision_of (heard_row f Read a b) f.n))
    write_issued_lem d r q y = heard Read d Yes r (verdict_yes _ f.n Read q y)

    pub write_decided : CanDeliver f Write a b → is_writing (owner_at f a).state a ≡ true → at_quorum (heard_row f Write a b).write f.n ≡ true
        → all_yes (heard_row f Write a b).write f.n ≡ true
        → apply_of f (Deliver Write a b) ≡ stepped (after_decision f a (heard_row f Write a b)) (said.Decided (row_at f a).written)
    write_decided d r q y = heard Write d Yes r (verdict_yes _ f.n Write q y)
