-- A frame and its message: each determines the other, also where the frame stands at the start of a longer input.
use Prim.Native.Nat.{ℕ, zero, suc, ◌+◌, ◌*◌, ◌≤◌, ◌<◌}
use native.Mathlib.Omega.{arith}
use mathlib.Core.Path.{◌≡◌, refl, sym, ap, ap₂, subst, ◌∙◌}
use mathlib.Core.Bool.{Bool, true, false, true≢false}
use mathlib.Core.List.{List, [], ◌∷◌, ◌++◌, append_assoc}
use borrow.Author.Tests.{le-leb, leb-true, lt-ltb, le-ltb, ltb-true, ltb-false, eqb-true}
use lib.Dec.{eqb, ltb}
use lib.ListN.{length, get_or, take, drop, length-append, take-append-drop}
use lib.Seq.{drop-cons, drop-drop, take-add, drop-append_seam}
use Rattle.std.specs.Prelude.{Result, Ok, Err}
use Rattle.base.specs.Refusals.{number_in}
use Rattle.base.specs.declared.Refusal.{Refusal}
use Rattle.base.specs.declared.Refusal.TheVariants as refusal
use Rattle.base.specs.Bytes.{Bytes, bytes16, bytes32, word_at}
use Rattle.base.specs.Choice.{when◌then◌else◌}
use Rattle.base.proofs.ByteLaws.{bytes_below, bytes16_of_word, word32_of_bytes, word_at_bytes}
use Rattle.base.proofs.Cases.{clash, by_cases}
use Rattle.base.proofs.Choices.{on_true, on_false, chosen, by_test, passed}
use Rattle.base.proofs.WritingLaws.{no_size, buffer_kept, size_is, bytes_stand, behind_kept, room_kept}
use Rattle.frames.specs.Claims.{Whole, FieldsFit, ReadAs, frame_in, Filled, Untouched, WrittenAgain, joined, AllRight, Reads, none, next, Wrong, read_of_0, write_of_0, WriteTurned, gives_21, gives_18, accepts}
use Rattle.frames.specs.Messages.{kind_of, fields_of, first_of, second_of, spelt, body_of, frame_of, wrong_message, known, fields_in, number_of, kind_numbered, message_with}
use Rattle.frames.specs.Reader.{stated_length, version_in, kind_byte, end_of, field_at, checked, formed_by, formed, parsed, frame_refusal, behind_start, behind_of}
use Rattle.frames.specs.Writer.{write_refusal, written_size, written_buffer}
use Rattle.frames.specs.declared.Kind.{Kind}
use Rattle.frames.specs.declared.Kind.TheVariants as kinds
use Rattle.frames.specs.declared.Message.{Message}
use Rattle.frames.specs.declared.Message.TheVariants.{ReadRequest, WriteRequest, ReadAnswer, Outranked, Taken, NotTaken}
use Rattle.frames.proofs.KindLaws.{numbered_means}
use Rattle.frames.proofs.MessageLaws.{fields_few, frame_size, checked_right, checked_wrong, checked_means}
use Rattle.frames.proofs.ReaderLaws.{gives_message, accepted_means, start_accepted, behind_accepted}

-- ---- kinds by number
known_kind : (m : Message) → known (kind_of m) ≡ true
unfolding known when◌then◌else◌
known_kind (ReadRequest r) = refl
known_kind (WriteRequest r v) = refl
known_kind (ReadAnswer w v) = refl
known_kind Outranked = refl
known_kind Taken = refl
known_kind NotTaken = refl

-- the message of a kind's number and two fields; past the kinds the last one
of_number : (kind first second : ℕ) → Message
of_number kind first second =
    when eqb kind 1 then ReadRequest first
    else when eqb kind 2 then WriteRequest first second
    else when eqb kind 3 then ReadAnswer first second
    else when eqb kind 4 then Outranked
    else when eqb kind 5 then Taken
    else NotTaken

formed_known : (m : Message) (first second : ℕ) → formed (kind_of m) first second ≡ checked (of_number (kind_of m) first second)
unfolding kind_numbered of_number when◌then◌else◌
formed_known (ReadRequest r) first second = refl
formed_known (WriteRequest r v) first second = refl
formed_known (ReadAnswer w v) first second = refl
formed_known Outranked first second = refl
formed_known Taken first second = refl
formed_known NotTaken first second = refl

number_named : (m : Message) → of_number (kind_of m) (first_of m) (second_of m) ≡ m
unfolding of_number when◌then◌else◌
number_named (ReadRequest r) = refl
number_named (WriteRequest r v) = refl
number_named (ReadAnswer w v) = refl
number_named Outranked = refl
number_named Taken = refl
number_named NotTaken = refl

pub formed_named : (m : Message) → formed (kind_of m) (first_of m) (second_of m) ≡ checked m
formed_named m = formed_known m (first_of m) (second_of m) ∙ ap checked (number_named m)

-- ---- a frame with anything behind it, number by number
field_within : (s : List ℕ) (at : ℕ) → at + 4 ≤ length s → field_at s at ≡ word_at s at
unfolding field_at
field_within s at h = chosen _ (le-leb (at + 4) (length s) h) refl

field_is : (s : List ℕ) (at : ℕ) {x : ℕ} → at + 4 ≤ length s → word_at s at ≡ x → field_at s at ≡ x
field_is s at h e = field_within s at h ∙ e

module _ (t : List ℕ) where
  frame_stated : (m : Message) → stated_length (frame_of m ++ t) ≡ 2 + 4 * fields_in (kind_of m)
  unfolding frame_of body_of fields_in when◌then◌else◌
  frame_stated (ReadRequest r) = refl
  frame_stated (WriteRequest r v) = refl
  frame_stated (ReadAnswer w v) = refl
  frame_stated Outranked = refl
  frame_stated Taken = refl
  frame_stated NotTaken = refl

  frame_version : (m : Message) → version_in (frame_of m ++ t) ≡ 1
  unfolding frame_of body_of
  frame_version m = refl

  frame_kind : (m : Message) → kind_byte (frame_of m ++ t) ≡ kind_of m
  unfolding frame_of body_of
  frame_kind m = refl

  frame_length : (m : Message) → length (frame_of m ++ t) ≡ 4 + 4 * fields_in (kind_of m) + length t
  frame_length m = length-append (frame_of m) t ∙ ap (λ (k : ℕ). k + length t) (frame_size m)

  frame_ends : (m : Message) → end_of (frame_of m ++ t) ≡ length (frame_of m)
  frame_ends m = omega (arith, frame_stated m, frame_size m)

  -- so the message is told by the bytes
  frame_told : (m : Message) → of_number (kind_byte (frame_of m ++ t)) (field_at (frame_of m ++ t) 4) (field_at (frame_of m ++ t) 8) ≡ m
  unfolding frame_of body_of word_at of_number when◌then◌else◌
  frame_told (ReadRequest r) = ap ReadRequest (field_is _ 4 (omega arith) (word32_of_bytes r))
  frame_told (WriteRequest r v) =
      ap₂ WriteRequest (field_is _ 4 (omega arith) (word32_of_bytes r)) (field_is _ 8 (omega arith) (word32_of_bytes v))
  frame_told (ReadAnswer w v) =
      ap₂ ReadAnswer (field_is _ 4 (omega arith) (word32_of_bytes w)) (field_is _ 8 (omega arith) (word32_of_bytes v))
  frame_told Outranked = refl
  frame_told Taken = refl
  frame_told NotTaken = refl

  -- and what stands behind too
  behind_told : (m : Message) → drop (end_of (frame_of m ++ t)) (frame_of m ++ t) ≡ t
  behind_told m = rw (frame_ends m) (drop-append_seam (frame_of m) t)

  -- it is whole, and parsed as its message, if that is not turned away
  frame_whole : (m : Message) → Whole (frame_of m ++ t)
  frame_whole m =
      let size = frame_length m in
      let told = frame_stated m in
      record {
        stated = omega arith;
        within = omega arith;
        kinded = omega arith;
        own = λ _. rw (frame_kind m) told;
      }

  frame_parsed : (m : Message) → parsed (frame_of m ++ t) ≡ checked m
  frame_parsed m =
      gives_message (frame_of m ++ t) (frame_whole m) (frame_version m)
      ∙ rw (frame_kind m) (formed_known m (field_at (frame_of m ++ t) 4) (field_at (frame_of m ++ t) 8))
      ∙ ap checked (rw (frame_kind m) at (frame_told m))

-- two messages never share a frame, and no frame begins another
pub frame_begins : (m o : Message) (t u : List ℕ) → frame_of m ++ t ≡ frame_of o ++ u → (m ≡ o) × (t ≡ u)
frame_begins m o t u e = (
  sym (frame_told t m) ∙ ap (λ (s : List ℕ). of_number (kind_byte s) (field_at s 4) (field_at s 8)) e ∙ frame_told u o,
  sym (behind_told t m) ∙ ap (λ (s : List ℕ). drop (end_of s) s) e ∙ behind_told u o,
)

pub frame_apart : (m o : Message) → frame_of m ≡ frame_of o → m ≡ o
frame_apart m o e = (frame_begins m o [] [] (ap (λ (s : List ℕ). s ++ []) e)).0

-- ---- what is turned away, and what is not
pub frame_zero : (m : Message) (t : List ℕ) → wrong_message m ≡ true → parsed (frame_of m ++ t) ≡ Err refusal.Message
frame_zero m t e = frame_parsed t m ∙ checked_wrong m e

pub frame_back : (m : Message) (t : List ℕ) → wrong_message m ≡ false → ReadAs (frame_of m ++ t) m t
frame_back m t e =
    let accepted = frame_parsed t m ∙ checked_right m e in
    record { message = accepted; behind = sym (behind_accepted (frame_of m ++ t) (ap number_in accepted)) ∙ behind_told t m }

-- ---- a message that was formed of a kind's number and two fields
record Formed (kind first second : ℕ) (m : Message) : Type 0 where
  pub kind_is : kind ≡ kind_of m
  pub fields_are : fields_of m ≡ take (fields_in kind) (first ∷ second ∷ [])
  pub right : wrong_message m ≡ false

module _ (first second : ℕ) where
  -- the number of a message that was formed of a kind, and its fields
  kind_made : (k : Kind) → number_of k ≡ kind_of (message_with k first second)
  kind_made kinds.ReadRequest = refl
  kind_made kinds.WriteRequest = refl
  kind_made kinds.ReadAnswer = refl
  kind_made kinds.Outranked = refl
  kind_made kinds.Taken = refl
  kind_made kinds.NotTaken = refl

  fields_made : (k : Kind) → fields_of (message_with k first second) ≡ take (fields_in (number_of k)) (first ∷ second ∷ [])
  unfolding fields_in when◌then◌else◌
  fields_made kinds.ReadRequest = refl
  fields_made kinds.WriteRequest = refl
  fields_made kinds.ReadAnswer = refl
  fields_made kinds.Outranked = refl
  fields_made kinds.Taken = refl
  fields_made kinds.NotTaken = refl

  module _ (kind : ℕ) (m : Message) where
    made_means : (r : Result Kind Refusal) → kind_numbered kind ≡ r → formed_by first second r ≡ Ok m → Formed kind first second m
    made_means (Err r) n e = absurd cc
    made_means (Ok k) n e =
        let c = checked_means _ m e in
        let number = numbered_means kind k n in
        record { kind_is = number ∙ kind_made k ∙ ap kind_of c.0; fields_are = ap fields_of (sym c.0) ∙ rw number (fields_made k); right = c.1 }

    formed_means : formed kind first second ≡ Ok m → Formed kind first second m
    formed_means = made_means (kind_numbered kind) refl

unknown_not : (kind j : ℕ) → known kind ≡ false → known j ≡ true → eqb kind j ≡ false
unknown_not kind j u k = by_cases (eqb kind j) (λ t. absurd (true≢false (sym k ∙ ap known (sym (eqb-true kind j t)) ∙ u))) (λ t. t)

pub formed_unknown : (kind first second : ℕ) → known kind ≡ false → formed kind first second ≡ Err refusal.Message
unfolding kind_numbered known when◌then◌else◌
formed_unknown kind first second u =
    ap (formed_by first second) (sym (on_false _ (unknown_not kind 1 u refl) (on_false _ (unknown_not kind 2 u refl) (on_false _ (unknown_not kind 3 u refl)
    (on_false _ (unknown_not kind 4 u refl) (on_false _ (unknown_not kind 5 u refl) (on_false _ (unknown_not kind 6 u refl) refl)))))))

-- the kinds are 1 to 6
pub known_means : (kind : ℕ) → known kind ≡ true → (1 ≤ kind) × (kind ≤ 6)
unfolding known
known_means kind = by_test (λ (t : Bool). t ≡ true → (1 ≤ kind) × (kind ≤ 6)) (ltb kind 1) _ _ (λ _ e. clash e refl) (λ h e. (ltb-false kind 1 h, leb-true kind 6 e))

-- what turns a message away
pub wrong_means : (m : Message) → wrong_message m ≡ true → Wrong m
wrong_means (ReadRequest r) e = subst (λ (x : ℕ). Wrong (ReadRequest x)) (sym (eqb-true r 0 e)) read_of_0
wrong_means (WriteRequest r v) e = subst (λ (x : ℕ). Wrong (WriteRequest x v)) (sym (eqb-true r 0 e)) write_of_0
wrong_means (ReadAnswer w v) e = clash e refl
wrong_means Outranked e = clash e refl
wrong_means Taken e = clash e refl
wrong_means NotTaken e = clash e refl

pub wrong_holds : (m : Message) → Wrong m → wrong_message m ≡ true
wrong_holds _ read_of_0 = refl
wrong_holds _ write_of_0 = refl

-- ---- an accepted input, byte by byte
module _ (s : List ℕ) (b : Bytes s) where
  -- its first four bytes
  head_bytes : 4 ≤ length s → take 4 s ≡ bytes16 (stated_length s) ++ (version_in s ∷ kind_byte s ∷ [])
  head_bytes h =
      let h₀ : 0 < length s = omega arith in
      let h₁ : 1 < length s = omega arith in
      let h₂ : 2 < length s = omega arith in
      let h₃ : 3 < length s = omega arith in
      let four : take 4 (drop 0 s) ≡ get_or s 0 0 ∷ get_or s 1 0 ∷ get_or s 2 0 ∷ get_or s 3 0 ∷ [] = rw (drop-cons s 0 0 h₀, drop-cons s 1 0 h₁, drop-cons s 2 0 h₂, drop-cons s 3 0 h₃) in
      four ∙ ap (λ (l : List ℕ). l ++ (version_in s ∷ kind_byte s ∷ [])) (sym (bytes16_of_word (get_or s 0 0) (get_or s 1 0) (bytes_below s b 1)))

  field_bytes : (at : ℕ) → at + 4 ≤ length s → bytes32 (field_at s at) ≡ take 4 (drop at s)
  field_bytes at h = rw (field_within s at h) (word_at_bytes s b at h)

  -- the fields behind them
  fields_bytes : (k : ℕ) → k ≤ 2 → 4 + 4 * k ≤ length s → spelt (take k (field_at s 4 ∷ field_at s 8 ∷ [])) ≡ take (4 * k) (drop 4 s)
  fields_bytes zero h l = refl
  fields_bytes (suc zero) h l = field_bytes 4 (omega arith)
  fields_bytes (suc (suc zero)) h l =
      ap₂ ◌++◌ (field_bytes 4 (omega arith)) (field_bytes 8 (omega arith))
      ∙ ap (λ (r : List ℕ). take 4 (drop 4 s) ++ take 4 r) (sym (drop-drop 4 4 s))
      ∙ sym (take-add 4 4 (drop 4 s))
  fields_bytes (suc (suc (suc k))) h l = absurd (omega arith)

  module _ (m : Message) (e : parsed s ≡ Ok m) where
    unrefused : frame_refusal s ≡ 0
    unrefused = ap number_in e

    form : Formed (kind_byte s) (field_at s 4) (field_at s 8) m
    form = formed_means (field_at s 4) (field_at s 8) (kind_byte s) m (sym (accepted_means s unrefused).1.1 ∙ e)

    -- the length is that of the message's frame
    stated_own : stated_length s ≡ 2 + 4 * fields_in (kind_byte s)
    stated_own = (accepted_means s unrefused).0.own (ap known form.kind_is ∙ known_kind m)

    pub end_is : end_of s ≡ length (frame_of m)
    end_is =
        let same : fields_in (kind_byte s) ≡ fields_in (kind_of m) = ap fields_in form.kind_is in
        omega (arith, stated_own, frame_size m)

    body_length : length (body_of m) ≡ stated_length s
    unfolding frame_of
    body_length = omega (arith, end_is)

    pub frame_taken : take (end_of s) s ≡ frame_of m
    unfolding frame_of body_of
    frame_taken =
        let within = (accepted_means s unrefused).0.within in
        let k = fields_in (kind_byte s) in
        let size : end_of s ≡ 4 + 4 * k = omega (arith, stated_own) in
        let head = head_bytes (omega arith) in
        let rest = fields_bytes k (fields_few (kind_byte s)) (omega arith) in
        rw (size, take-add 4 (4 * k) s, head, ← rest, ← form.fields_are, form.kind_is, (accepted_means s unrefused).1.0, ← body_length)

    pub accepted_exactly : s ≡ frame_of m ++ behind_of s
    accepted_exactly = sym (take-append-drop (end_of s) s) ∙ ap₂ ◌++◌ frame_taken (behind_accepted s unrefused)

pub accepted_right : (s : List ℕ) (m : Message) → parsed s ≡ Ok m → wrong_message m ≡ false
accepted_right s m e =
    (formed_means (field_at s 4) (field_at s 8) (kind_byte s) m (sym (accepted_means s (ap number_in e)).1.1 ∙ e)).right

-- ---- one frame after the other
pub stream_read : (ms : List Message) (t : List ℕ) → AllRight ms → Reads (joined ms ++ t) ms t
stream_read [] t a = none
stream_read (m ∷ ms) t a =
    let r = frame_back m (joined ms ++ t) a.0 in
    let rest : Reads (behind_of (frame_of m ++ (joined ms ++ t))) ms t = rw r.behind (stream_read ms t a.1) in
    rw (append_assoc (frame_of m) (joined ms) t) (next r.message rest)

bytes_behind : (l r : List ℕ) → Bytes (l ++ r) → Bytes r
bytes_behind [] r b = b
bytes_behind (x ∷ l) r b = bytes_behind l r b.1

pub stream_is : (s : List ℕ) (ms : List Message) (t : List ℕ) → Bytes s → Reads s ms t → s ≡ joined ms ++ t
stream_is s [] t b none = refl
stream_is s (m ∷ ms) t b (next e r) =
    let here = accepted_exactly s b m e in
    here ∙ ap (λ (l : List ℕ). frame_of m ++ l) (stream_is (behind_of s) ms t (bytes_behind (frame_of m) (behind_of s) (rw here at b)) r) ∙ sym (append_assoc (frame_of m) (joined ms) t)

-- ---- the writer
module _ (room : ℕ) (m : Message) where
  pub write_means : write_refusal room m ≡ 0 → (wrong_message m ≡ false) × (length (frame_of m) ≤ room)
  unfolding write_refusal
  write_means e =
      let a = passed _ _ _ e (omega arith) in
      let c = passed _ _ _ a.1 (omega arith) in
      (a.0, ltb-false room (length (frame_of m)) c.0)

  pub write_holds : wrong_message m ≡ false → length (frame_of m) ≤ room → write_refusal room m ≡ 0
  unfolding write_refusal
  write_holds t h = sym (on_false _ t (on_false _ (le-ltb room (length (frame_of m)) h) refl))

  write_short : wrong_message m ≡ false → room < length (frame_of m) → write_refusal room m ≡ 18
  unfolding write_refusal
  write_short t h = sym (on_false _ t (on_true _ (lt-ltb room (length (frame_of m)) h) refl))

  -- which refusal applies
  pub write_turned : WriteTurned room m (write_refusal room m)
  unfolding write_refusal
  write_turned =
      by_test (WriteTurned room m) (wrong_message m) _ _ (λ e. gives_21 (wrong_means m e)) (λ e.
      let right : ¬ Wrong m = λ w. clash (wrong_holds m w) e in
      by_test (WriteTurned room m) (ltb room (length (frame_of m))) _ _ (λ h. gives_18 right (ltb-true room (length (frame_of m)) h)) (λ h. accepts right (ltb-false room (length (frame_of m)) h)))

module _ (b : List ℕ) (m : Message) where
  pub left_untouched : ¬ (write_refusal (length b) m ≡ 0) → Untouched b m
  unfolding written_size written_buffer
  left_untouched f = record { size = no_size _ (frame_of m) b f; kept = buffer_kept _ (frame_of m) b f }

  module _ (e : write_refusal (length b) m ≡ 0) where
    pub left_filled : Filled b m
    unfolding written_size written_buffer
    left_filled = record {
      size = size_is _ (frame_of m) b e;
      frame = bytes_stand _ (frame_of m) b e;
      behind = behind_kept _ (frame_of m) b e;
      room = room_kept _ (frame_of m) b e (write_means (length b) m e).1;
    }

    pub written_back : (t : List ℕ) → ReadAs (frame_in b m ++ t) m t
    written_back t = rw left_filled.frame (frame_back m t (write_means (length b) m e).0)

-- an accepted input, written again
module _ (s b : List ℕ) (m : Message) (bytes : Bytes s) (e : parsed s ≡ Ok m) where
  start_is : behind_start s ≡ length (frame_of m)
  start_is = sym (start_accepted s (ap number_in e)) ∙ end_is s bytes m e

  pub writes_again : behind_start s ≤ length b → WrittenAgain b s m
  writes_again h =
      let accepted = write_holds (length b) m (accepted_right s m e) (rw start_is at h) in
      let filled = left_filled b m accepted in
      record {
        accepted = accepted;
        size = filled.size ∙ sym start_is;
        same = filled.frame ∙ sym (frame_taken s bytes m e) ∙ ap (λ (k : ℕ). take k s) (start_accepted s (ap number_in e));
      }

  pub writes_short : length b < behind_start s → write_refusal (length b) m ≡ 18
  writes_short h = write_short (length b) m (accepted_right s m e) (rw start_is at h)

-- fields of 32 bits make bytes
pub frame_bytes : (m : Message) → FieldsFit (fields_of m) → Bytes (frame_of m)
unfolding frame_of body_of
frame_bytes (ReadRequest r) f = omega arith
frame_bytes (WriteRequest r v) f = omega arith
frame_bytes (ReadAnswer w v) f = omega arith
frame_bytes Outranked f = omega arith
frame_bytes Taken f = omega arith
frame_bytes NotTaken f = omega arith
