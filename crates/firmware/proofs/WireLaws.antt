-- What the reader and the writer of frames for C answer and leave, by the way that the code took.
use Prim.Native.Nat.{ℕ, ◌+◌, ◌-◌, ◌*◌, ◌≤◌}
use native.Mathlib.Omega.{arith}
use mathlib.Core.Path.{◌≡◌, refl, sym, ap, subst, ◌∙◌}
use mathlib.Core.Bool.{true, false}
use mathlib.Core.List.{List}
use borrow.Author.Tests.{eqb-true, eqb-false}
use lib.Dec.{eqb}
use lib.ListN.{length, length-drop}
use Rattle.std.specs.Prelude.{Result, Ok, Err}
use Rattle.base.specs.Refusals.{number_in}
use Rattle.base.specs.declared.Refusal.{Refusal}
use Rattle.base.proofs.RefusalLaws.{number_above}
use Rattle.base.proofs.Cases.{clash, by_cases}
use Rattle.base.proofs.Choices.{on_true, by_test}
use Rattle.frames.specs.Claims.{Wrong, read_of_0, write_of_0, WriteTurned}
use Rattle.frames.specs.Claims as frame
use Rattle.frames.specs.Messages.{kind_of, frame_of, wrong_message, fields_in, kind_numbered}
use Rattle.frames.specs.Reader.{end_of, checked, formed_by, formed, parsed, frame_refusal, behind_start, behind_of}
use Rattle.frames.specs.Writer.{write_refusal}
use Rattle.frames.specs.declared.Kind.{Kind}
use Rattle.frames.specs.declared.Message.{Message}
use Rattle.frames.specs.declared.Message.TheVariants.{ReadRequest, WriteRequest, ReadAnswer, Outranked, Taken, NotTaken}
use Rattle.frames.proofs.ReaderLaws.{behind_refused, start_refused, behind_accepted, start_accepted, ends_within}
use Rattle.frames.proofs.MessageLaws.{frame_size, checked_right, checked_wrong}
use Rattle.frames.proofs.FrameLaws.{write_turned, wrong_holds}
use Rattle.firmware.specs.Claims.{Sendable, FrameTurned, gives_21, gives_18, accepts}
use Rattle.firmware.specs.Wire.{refusal_for}

-- the part behind an accepted frame, and behind a refused input
module _ (s : List ℕ) where
  module _ (m : Message) (e : parsed s ≡ Ok m) where
    accepted : frame_refusal s ≡ 0
    accepted = ap number_in e

    pub within : end_of s ≤ length s
    within = ends_within s accepted

    pub starts : end_of s ≡ behind_start s
    starts = start_accepted s accepted

    pub left : length s - end_of s ≡ length (behind_of s)
    left = sym (length-drop (end_of s) s) ∙ ap length (behind_accepted s accepted)

  module _ (r : Refusal) (e : parsed s ≡ Err r) where
    refused : ¬ (frame_refusal s ≡ 0)
    refused z = number_above r (sym (ap number_in e) ∙ z)

    pub no_start : 0 ≡ behind_start s
    no_start = start_refused s refused

    pub none_left : 0 ≡ length (behind_of s)
    none_left = ap length (behind_refused s refused)

-- ---- the order of the writer's refusals, by the kind's number
module _ (room kind first second : ℕ) where
  abbrev Turned : Result Kind Refusal → Type 0
  Turned k = FrameTurned room kind first (refusal_for room (formed_by first second k))

  -- a message that is turned away is 21 for the writer too
  checked_said : (m : Message) → refusal_for room (checked m) ≡ write_refusal room m
  unfolding write_refusal
  checked_said m =
      by_cases (wrong_message m)
      (λ e. ap (refusal_for room) (checked_wrong m e) ∙ on_true _ e refl)
      (λ e. ap (refusal_for room) (checked_right m e))

  -- a message of that kind: what turns it away is rank 0 in a request
  record Of (j : ℕ) (m : Message) : Type 0 where
    pub number : j ≡ kind_of m
    pub known : (1 ≤ j) × (j ≤ 6)
    pub means : Wrong m → (j ≤ 2) × (first ≡ 0)
    pub holds : (j ≤ 2) × (first ≡ 0) → Wrong m

  of_kind : (j : ℕ) (m : Message) → Of j m → eqb kind j ≡ true → FrameTurned room kind first (refusal_for room (checked m))
  of_kind j m o t = rw (checked_said m) (go (write_turned room m))
    where
      same : kind ≡ j
      same = eqb-true kind j t

      size : length (frame_of m) ≡ 4 + 4 * fields_in kind
      size = rw same (frame_size m ∙ ap (λ (i : ℕ). 4 + 4 * fields_in i) (sym o.number))

      sendable : ¬ Wrong m → Sendable kind first
      sendable n = rw same (record { known = o.known; ranked = λ z. n (o.holds z) })

      go : {x : ℕ} → WriteTurned room m x → FrameTurned room kind first x
      go (frame.gives_21 w) = gives_21 (λ z. z.ranked (rw same (o.means w)))
      go (frame.gives_18 n h) = gives_18 (sendable n) (rw size at h)
      go (frame.accepts n h) = accepts (sendable n) (rw size at h)

  -- a field of 0 in a request, and no other message
  zero_read : first ≡ 0 → Wrong (ReadRequest first)
  zero_read e = subst (λ (x : ℕ). Wrong (ReadRequest x)) (sym e) read_of_0

  zero_write : first ≡ 0 → Wrong (WriteRequest first second)
  zero_write e = subst (λ (x : ℕ). Wrong (WriteRequest x second)) (sym e) write_of_0

  read_zero : Wrong (ReadRequest first) → first ≡ 0
  read_zero w = eqb-true first 0 (wrong_holds (ReadRequest first) w)

  write_zero : Wrong (WriteRequest first second) → first ≡ 0
  write_zero w = eqb-true first 0 (wrong_holds (WriteRequest first second) w)

  never : (j : ℕ) (m : Message) → j ≡ kind_of m → (3 ≤ j) × (j ≤ 6) → wrong_message m ≡ false → Of j m
  never j m k h n = record {
    number = k;
    known = (omega arith, h.1);
    means = λ w. clash (wrong_holds m w) n;
    holds = λ z. absurd (omega arith);
  }

  pub frame_turned : FrameTurned room kind first (refusal_for room (formed kind first second))
  unfolding kind_numbered
  frame_turned =
      by_test Turned (eqb kind 1) _ _ (of_kind 1 (ReadRequest first) (record { number = refl; known = omega arith; means = λ w. (omega arith, read_zero w); holds = λ z. zero_read z.1 })) (λ n₁.
      by_test Turned (eqb kind 2) _ _ (of_kind 2 (WriteRequest first second) (record { number = refl; known = omega arith; means = λ w. (omega arith, write_zero w); holds = λ z. zero_write z.1 })) (λ n₂.
      by_test Turned (eqb kind 3) _ _ (of_kind 3 (ReadAnswer first second) (never 3 _ refl (omega arith) refl)) (λ n₃.
      by_test Turned (eqb kind 4) _ _ (of_kind 4 Outranked (never 4 _ refl (omega arith) refl)) (λ n₄.
      by_test Turned (eqb kind 5) _ _ (of_kind 5 Taken (never 5 _ refl (omega arith) refl)) (λ n₅.
      by_test Turned (eqb kind 6) _ _ (of_kind 6 NotTaken (never 6 _ refl (omega arith) refl)) (λ n₆.
      gives_21 (λ z. omega (arith, z.known, eqb-false kind 1 n₁, eqb-false kind 2 n₂, eqb-false kind 3 n₃, eqb-false kind 4 n₄, eqb-false kind 5 n₅, eqb-false kind 6 n₆))))))))
