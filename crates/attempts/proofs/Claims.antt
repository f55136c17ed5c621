-- The claims on a row and on the station in it, proved.
use Prim.Native.Nat.{ℕ}
use native.Mathlib.Omega.{arith}
use mathlib.Core.Path.{◌≡◌, refl, ap}
use mathlib.Core.Bool.{true}
use Rattle.requests.specs.Requests.{served_at, received_from}
use Rattle.requests.specs.declared.Phase.{Phase}
use Rattle.requests.specs.declared.Phase.TheVariants.{Read, Write}
use Rattle.register.specs.Register.{takes}
use Rattle.register.specs.declared.Register.{Register}
use Rattle.register.specs.declared.WriteDone.{WriteDone}
use Rattle.register.proofs.RegisterLaws.{write_taken, write_answers}
use Rattle.attempts.specs.Rows.{requests_of, row_served, register_served, row_heard, issued}
use Rattle.attempts.specs.Claims.{OtherKept, WriteIssued, AttemptClaims}
use Rattle.suits.specs.declared.Suit.{Suit}
use Rattle.attempts.specs.declared.Row.{Row}
use Rattle.attempts.proofs.AnswerLaws.{best_found, best_at_quorum, revision_either}
use Rattle.attempts.proofs.WaitingLaws.{new_row_waits, issued_waits}
use Rattle.attempts.proofs.StationTests.{is_active_lem, active_holds, is_gone_lem, is_busy_lem}

-- the two phases are two
module _ {A : Type 0} where
  not_write : Read ≡ Write → A
  not_write e = absurd (let n : ◌≡◌ {A = ℕ} 0 1 = cc in omega arith)

  not_read : Write ≡ Read → A
  not_read e = absurd (let n : ◌≡◌ {A = ℕ} 0 1 = cc in omega arith)

served_keeps : (p : Phase) (w : Row) (x : Register) (b : ℕ) → OtherKept p w (row_served p w x b)
served_keeps Read w x b = record { station = refl; rank = refl; offer = refl; written = refl; read = not_write; write = λ _. refl }
served_keeps Write w x b = record { station = refl; rank = refl; offer = refl; written = refl; read = λ _. refl; write = not_read }

heard_keeps : (p : Phase) (w : Row) (b : ℕ) → OtherKept p w (row_heard p w b)
heard_keeps Read w b = record { station = refl; rank = refl; offer = refl; written = refl; read = not_write; write = λ _. refl }
heard_keeps Write w b = record { station = refl; rank = refl; offer = refl; written = refl; read = λ _. refl; write = not_read }

heard : (p : Phase) (w : Row) (b : ℕ) → requests_of p (row_heard p w b) ≡ received_from (requests_of p w) b
heard Read w b = refl
heard Write w b = refl

stored : (w : Row) (x : Register) → takes x w.rank ≡ true → register_served Write w x ≡ record { read = x.read; write = w.rank; value = w.written }
stored w x h = ap (λ (d : WriteDone). d.register) (write_taken x w.rank w.written h)

issues : (w : Row) (v : Suit) (n : ℕ) → WriteIssued v w (issued w v n)
unfolding issued
issues w v n = record { station = refl; rank = refl; offer = refl; written = refl; read = refl }

pub attempt_claims : AttemptClaims
attempt_claims = record {
  best = best_found;
  some = best_at_quorum;
  revision = revision_either;
  reads_wait = new_row_waits;
  writes_wait = issued_waits;
  served_keeps = served_keeps;
  served_read = λ w x b. refl;
  served_write = λ w x b. ap (served_at w.write b) (write_answers x w.rank w.written);
  stored = stored;
  heard_keeps = heard_keeps;
  heard = heard;
  issues = issues;
  unused = (refl, refl);
  active = is_active_lem;
  active_holds = active_holds;
  gone = is_gone_lem;
  busy = is_busy_lem;
}
