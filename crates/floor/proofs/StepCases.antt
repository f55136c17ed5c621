-- What a step can be: turned back, or one of nine, each with the tests that it passed; what it led to is said by Effects alone. A law of
-- steps is then a function by cases.
use Prim.Native.Nat.{ℕ}
use native.Mathlib.Omega.{arith}
use mathlib.Core.Path.{◌≡◌, refl}
use mathlib.Core.Logic.{◌⊎◌, inl, inr}
use mathlib.Core.Bool.{true, false}
use mathlib.Core.List.{List}
use lib.Dec.{eqb}
use borrow.Author.Tests.{eqb-true, eqb-false}
use Rattle.suits.specs.declared.Suit.{Suit}
use Rattle.base.proofs.Choices.{by_test}
use Rattle.floor.specs.Floors.{row_at, owner_at}
use Rattle.attempts.specs.Stations.{is_reading, is_writing, is_in}
use Rattle.floor.specs.Sound.{sound_of}
use Rattle.floor.specs.Soundness.{Sound}
use Rattle.floor.specs.Tests.{CanBegin, CanServe, CanDeliver, CanStop, CanLeave, CanReturn, TurnedBack}
use Rattle.commands.specs.Commands.{command_of}
use Rattle.attempts.specs.Rows.{requests_heard}
use Rattle.floor.specs.Refusals.{refusal_on}
use Rattle.floor.specs.Effects.{heard_row, received_on, read_ended_on, write_ended_on, heard_on, delivered_on, effect_on}
use Rattle.commands.specs.Outcomes.{is_refused}
use Rattle.floor.specs.Step.{refused, play_of, apply_of, step_of}
use Rattle.floor.specs.declared.Floor.{Floor}
use Rattle.floor.specs.declared.Stepped.{Stepped}
use Rattle.commands.specs.declared.Command.{Command}
use Rattle.commands.specs.declared.Command.TheVariants.{Begin, Serve, Deliver, Stop, Leave, Return, Malformed}
use Rattle.floor.proofs.SoundLaws.{sound_means}
use Rattle.requests.specs.Requests.{at_quorum, all_yes}
use Rattle.requests.specs.declared.Phase.{Phase}
use Rattle.requests.specs.declared.Phase.TheVariants.{Read, Write}
use Rattle.requests.specs.declared.Verdict.{Verdict}
use Rattle.requests.specs.declared.Verdict.TheVariants.{No}
use Rattle.requests.proofs.RequestLaws.{Came, still, agreed, denied, verdict_came}
use Rattle.base.proofs.Cases.{clash}
use Rattle.floor.proofs.RefusalLaws.{begin_means, serve_means, deliver_means, stop_means, leave_means, return_means, refusal_numbered}

pub data StepCase (f : Floor) : Command → Stepped → Type 0 where
  turned : {c : Command} (k : ℕ) → TurnedBack f c k → StepCase f c (refused f k)
  began : {s round : ℕ} {v : Suit} → Sound f → CanBegin f s round → StepCase f (Begin s round v) (effect_on f (Begin s round v))
  served : {p : Phase} {a b : ℕ} → Sound f → CanServe f p a b → StepCase f (Serve p a b) (effect_on f (Serve p a b))
  heard : {p : Phase} {a b : ℕ} → Sound f → CanDeliver f p a b
      → (is_in p (owner_at f a).state a ≡ false) ⊎ (at_quorum (requests_heard p (row_at f a) b) f.n ≡ false)
      → StepCase f (Deliver p a b) (received_on f p a b)
  issued : {a b : ℕ} → Sound f → CanDeliver f Read a b → is_reading (owner_at f a).state a ≡ true → at_quorum (heard_row f Read a b).read f.n ≡ true
      → all_yes (heard_row f Read a b).read f.n ≡ true → StepCase f (Deliver Read a b) (read_ended_on f a (heard_row f Read a b))
  decided : {a b : ℕ} → Sound f → CanDeliver f Write a b → is_writing (owner_at f a).state a ≡ true → at_quorum (heard_row f Write a b).write f.n ≡ true
      → all_yes (heard_row f Write a b).write f.n ≡ true → StepCase f (Deliver Write a b) (write_ended_on f a (heard_row f Write a b))
  aborted : {p : Phase} {a b : ℕ} → Sound f → CanDeliver f p a b → is_in p (owner_at f a).state a ≡ true
      → all_yes (requests_heard p (row_at f a) b) f.n ≡ false → (p ≡ Write → at_quorum (requests_heard p (row_at f a) b) f.n ≡ true)
      → StepCase f (Deliver p a b) (heard_on f p a b No)
  stopped : {b : ℕ} → Sound f → CanStop f b → StepCase f (Stop b) (effect_on f (Stop b))
  left : {s : ℕ} → Sound f → CanLeave f s → StepCase f (Leave s) (effect_on f (Leave s))
  returned : {b : ℕ} → Sound f → CanReturn f b → StepCase f (Return b) (effect_on f (Return b))

-- an accepted step of each kind on a sound floor
module _ (f : Floor) (z : Sound f) where
  module _ (a b : ℕ) where
    abbrev Leads : Phase → Stepped → Type 0
    Leads p y = StepCase f (Deliver p a b) y

    -- what the answers received come to, for a station that is in that phase
    heard_case : (p : Phase) {v : Verdict} → CanDeliver f p a b → is_in p (owner_at f a).state a ≡ true → Came p (requests_heard p (row_at f a) b) f.n v
        → Leads p (heard_on f p a b v)
    heard_case p d e (still q y) = heard z d (inr q)
    heard_case Read d e (agreed q y) = issued z d e q y
    heard_case Write d e (agreed q y) = decided z d e q y
    heard_case p d e (denied y q) = aborted z d e y q

    deliver_case : (p : Phase) → CanDeliver f p a b → Leads p (delivered_on f p a b)
    unfolding delivered_on
    deliver_case p d = by_test (Leads p) _ _ _ (λ e. heard_case p d e (verdict_came (requests_heard p (row_at f a) b) f.n p)) (λ e. heard z d (inl e))

  accepted_case : (c : Command) → refusal_on f c ≡ 0 → StepCase f c (effect_on f c)
  accepted_case (Begin s round v) e = began z (begin_means f s round e)
  accepted_case (Serve p a b) e = served z (serve_means f p a b e)
  accepted_case (Deliver p a b) e = deliver_case a b p (deliver_means f p a b e)
  accepted_case (Stop b) e = stopped z (stop_means f b e)
  accepted_case (Leave s) e = left z (leave_means f s e)
  accepted_case (Return b) e = returned z (return_means f b e)
  accepted_case Malformed e = absurd (omega (arith, e))

pub apply_case : (f : Floor) (c : Command) → StepCase f c (apply_of f c)
unfolding apply_of play_of
apply_case f c =
    by_test P (sound_of f) _ _
    (λ e. by_test P (eqb (refusal_on f c) 0) _ _ (λ q. accepted_case f (sound_means f e) c (eqb-true _ _ q))
    (λ q. turned (refusal_on f c) (elim (refusal_numbered f c) [
      | inl h ↦ absurd (eqb-false _ _ q h)
      | inr h ↦ record { number = h; cause = inr (e, refl) }
    ])))
    (λ e. turned 6 (record { number = inl (omega arith, omega arith); cause = inl (e, refl) }))
  where
    P : Stepped → Type 0
    P = StepCase f c

-- a step that says refused was turned back
pub record Refusal (f : Floor) (c : Command) (s : Stepped) : Type 0 where
  pub number : ℕ
  pub cause : TurnedBack f c number
  pub is : s ≡ refused f number

refusal : {f : Floor} {c : Command} {s : Stepped} → StepCase f c s → is_refused s.outcome ≡ true → Refusal f c s
refusal (turned k t) e = record { number = k; cause = t; is = refl }
refusal (began z d) e = clash e refl
refusal (served z d) e = clash e refl
refusal (heard z d q) e = clash e refl
refusal (issued z d r q t) e = clash e refl
refusal (decided z d r q t) e = clash e refl
refusal (aborted z d r q t) e = clash e refl
refusal (stopped z d) e = clash e refl
refusal (left z d) e = clash e refl
refusal (returned z d) e = clash e refl

pub apply_refusal : (f : Floor) (c : Command) → is_refused (apply_of f c).outcome ≡ true → Refusal f c (apply_of f c)
apply_refusal f c = refusal (apply_case f c)

pub step_case : (f : Floor) (r : List ℕ) → StepCase f (command_of r) (step_of f r)
unfolding step_of
step_case f r = apply_case f (command_of r)
