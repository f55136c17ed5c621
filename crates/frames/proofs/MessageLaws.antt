-- The kinds of messages and their frames: what the functions go by.
use Prim.Native.Nat.{ℕ, ◌+◌, ◌*◌, ◌≤◌}
use native.Mathlib.Omega.{arith}
use mathlib.Core.Path.{◌≡◌, refl, sym}
use mathlib.Core.Bool.{true, false}
use mathlib.Core.List.{◌++◌}
use lib.ListN.{length, take}
use Rattle.std.specs.Prelude.{Ok, Err}
use Rattle.base.specs.declared.Refusal.{Refusal}
use Rattle.base.specs.declared.Refusal.TheVariants as refusal
use Rattle.base.specs.Bytes.{word32, bytes32}
use Rattle.base.specs.Choice.{when◌then◌else◌}
use Rattle.base.proofs.Cases.{by_cases}
use Rattle.base.proofs.Choices.{on_true, on_false, by_test}
use Rattle.frames.specs.Messages.{kind_of, first_of, second_of, body_of, frame_of, wrong_message, fields_in}
use Rattle.frames.specs.Reader.{checked}
use Rattle.frames.specs.declared.Message.{Message}
use Rattle.frames.specs.declared.Message.TheVariants.{ReadRequest, WriteRequest, ReadAnswer, Outranked, Taken, NotTaken}

-- no kind has more than two fields
pub fields_few : (kind : ℕ) → fields_in kind ≤ 2
unfolding fields_in
fields_few kind =
    by_test (λ (k : ℕ). k ≤ 2) _ _ _ (λ _. omega arith)
    (λ _. by_test (λ (k : ℕ). k ≤ 2) _ _ _ (λ _. omega arith) (λ _. by_test (λ (k : ℕ). k ≤ 2) _ _ _ (λ _. omega arith) (λ _. omega arith)))

-- how long the frame of a message is
pub frame_size : (m : Message) → length (frame_of m) ≡ 4 + 4 * fields_in (kind_of m)
unfolding frame_of body_of fields_in when◌then◌else◌
frame_size (ReadRequest r) = refl
frame_size (WriteRequest r v) = refl
frame_size (ReadAnswer w v) = refl
frame_size Outranked = refl
frame_size Taken = refl
frame_size NotTaken = refl

-- it is the start of three words: length, version and kind, and two fields
pub frame_starts : (m : Message)
    → take (4 + 4 * fields_in (kind_of m)) (bytes32 (word32 0 (2 + 4 * fields_in (kind_of m)) 1 (kind_of m)) ++ (bytes32 (first_of m) ++ bytes32 (second_of m))) ≡ frame_of m
unfolding frame_of body_of fields_in when◌then◌else◌
frame_starts (ReadRequest r) = refl
frame_starts (WriteRequest r v) = refl
frame_starts (ReadAnswer w v) = refl
frame_starts Outranked = refl
frame_starts Taken = refl
frame_starts NotTaken = refl

-- ---- what is turned away, and what is not
pub checked_right : (m : Message) → wrong_message m ≡ false → checked m ≡ Ok m
unfolding checked
checked_right m t = sym (on_false _ t refl)

pub checked_wrong : (m : Message) → wrong_message m ≡ true → checked m ≡ Err refusal.Message
unfolding checked
checked_wrong m t = sym (on_true _ t refl)

-- a message that was checked is the one given, and right; one that was turned away is wrong
pub checked_means : (x m : Message) → checked x ≡ Ok m → (x ≡ m) × (wrong_message m ≡ false)
checked_means x m e =
    by_cases (wrong_message x)
    (λ t. absurd (cc (checked_wrong x t)))
    (λ t. let same : x ≡ m = cc (checked_right x t) in (same, rw same at t))

pub turned_means : (m : Message) (r : Refusal) → checked m ≡ Err r → (r ≡ refusal.Message) × (wrong_message m ≡ true)
turned_means m r e =
    by_cases (wrong_message m)
    (λ t. let same : r ≡ refusal.Message = cc (checked_wrong m t) in (same, t))
    (λ t. absurd (cc (checked_right m t)))
