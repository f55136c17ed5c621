-- A request served: what the functions go by, and that it is the box call of that request.
use Prim.Native.Nat.{ℕ}
use native.Mathlib.Omega.{arith}
use mathlib.Core.Path.{◌≡◌, refl, sym, ap, ◌∙◌}
use mathlib.Core.Bool.{false}
use mathlib.Core.List.{List}
use lib.Dec.{eqb, ltb}
use lib.ListN.{length, drop}
use borrow.Author.Tests.{eqb-true, eqb-false, eq-eqb, ne_eqb}
use Rattle.std.specs.Prelude.{Result, Ok, Err}
use Rattle.suits.specs.Suits.{single}
use Rattle.base.specs.Refusals.{number}
use Rattle.base.specs.declared.Refusal.{Refusal}
use Rattle.base.specs.declared.Refusal.TheVariants.{Length}
use Rattle.base.specs.Bytes.{Bytes}
use Rattle.base.specs.Choice.{when◌then◌else◌}
use Rattle.base.proofs.Cases.{by_cases}
use Rattle.base.proofs.Choices.{on_true, on_false, by_test}
use Rattle.base.proofs.WritingLaws.{no_size, buffer_kept, size_is, buffer_is}
use Rattle.register.specs.Register.{is_held, rank_in, value_in, rmw_read, rmw_write}
use Rattle.register.specs.declared.Register.{Register}
use Rattle.register.specs.declared.ReadDone.{ReadDone}
use Rattle.register.specs.declared.WriteDone.{WriteDone}
use Rattle.register.proofs.RegisterLaws.{outranked_kept, write_refused, write_answers}
use Rattle.frames.specs.Messages.{frame_of, wrong_message}
use Rattle.frames.specs.Reader.{parsed}
use Rattle.frames.specs.Writer.{write_refusal, written_size, written_buffer}
use Rattle.frames.specs.declared.Message.{Message}
use Rattle.frames.specs.declared.Message.TheVariants.{ReadRequest, WriteRequest, ReadAnswer, Outranked, Taken, NotTaken}
use Rattle.frames.proofs.FrameLaws.{frame_back, write_means}
use Rattle.firmware.specs.Claims.{IsRequest, Kept, Answered, replied, noted}
use Rattle.firmware.specs.Firmware.{encode, decode, read_answer, record_after_read, reply_after_read, write_answer, record_after_write}
use Rattle.firmware.specs.Serve.{answer_to_read, answer_to_write, loaded, served_by, served_of, serving, answer_in, record_in, buffer_in, size_in, serve_answer, record_after_serve, buffer_after_serve, size_after_serve}
use Rattle.firmware.specs.declared.serve.Served.{Served}
use Rattle.firmware.proofs.BoxRecordLaws.{encode_decode, reply_words}
use Rattle.firmware.proofs.CallLaws.{this, other, read_0, read_100, read_kept, read_record, read_reply, write_0, write_100, write_kept, write_record}

-- ---- the register of a record, and of nothing else
module _ (s : List ℕ) where
  none_loaded : (length s ≡ 12 → ⊥) → loaded s ≡ Err Length
  unfolding loaded
  none_loaded n = sym (on_true _ (other (length s) 12 n) refl)

  one_loaded : length s ≡ 12 → loaded s ≡ Ok (decode s)
  unfolding loaded
  one_loaded h = sym (on_false _ (this (length s) 12 h) refl)

  loaded_twelve : (x : Register) → loaded s ≡ Ok x → length s ≡ 12
  loaded_twelve x e = by_cases (eqb (length s) 12) (λ t. eqb-true (length s) 12 t) (λ t. absurd (cc (none_loaded (eqb-false (length s) 12 t))))

-- what was served was served on 12 bytes
module _ (s : List ℕ) (y : Served) where
  by_twelve : (routine : Register → Served) (x : Result Register Refusal) → loaded s ≡ x → served_by routine x ≡ Ok y → length s ≡ 12
  by_twelve routine (Ok x) l e = loaded_twelve s x l
  by_twelve routine (Err r) l e = absurd cc

  twelve : (m : Message) → served_of s m ≡ Ok y → length s ≡ 12
  twelve (ReadRequest r) e = by_twelve _ (loaded s) refl e
  twelve (WriteRequest r v) e = by_twelve _ (loaded s) refl e
  twelve (ReadAnswer w v) e = absurd cc
  twelve Outranked e = absurd cc
  twelve Taken e = absurd cc
  twelve NotTaken e = absurd cc

  -- so that the register is stored
  pub stored : (m : Message) → served_of s m ≡ Ok y → (when eqb (length s) 12 then encode y.register else s) ≡ encode y.register
  stored m e = sym (on_true _ (eq-eqb (length s) 12 (twelve m e)) refl)

-- ---- which number turns a request away
module _ (s input : List ℕ) (room : ℕ) where
  pub says_unread : (r : Refusal) → parsed input ≡ Err r → serve_answer s input room ≡ number r
  unfolding serve_answer
  says_unread r e = rw e

  by_message : (m : Message) → parsed input ≡ Ok m → (x : Result Served Refusal) → served_of s m ≡ x → serve_answer s input room ≡ answer_in room x
  unfolding serve_answer
  by_message m e x f = rw (e, f)

  pub says_no_request : (m : Message) → parsed input ≡ Ok m → ¬ IsRequest m → serve_answer s input room ≡ 21
  says_no_request (ReadRequest r) e n = absurd (n (omega arith))
  says_no_request (WriteRequest r v) e n = absurd (n (omega arith))
  says_no_request (ReadAnswer w v) e n = by_message _ e _ refl
  says_no_request Outranked e n = by_message _ e _ refl
  says_no_request Taken e n = by_message _ e _ refl
  says_no_request NotTaken e n = by_message _ e _ refl

  pub says_16 : (m : Message) → parsed input ≡ Ok m → IsRequest m → ¬ (length s ≡ 12) → serve_answer s input room ≡ 16
  says_16 (ReadRequest r) e n h = by_message _ e _ (ap (served_by _) (none_loaded s h))
  says_16 (WriteRequest r v) e n h = by_message _ e _ (ap (served_by _) (none_loaded s h))
  says_16 (ReadAnswer w v) e n h = absurd (omega arith)
  says_16 Outranked e n h = absurd (omega arith)
  says_16 Taken e n h = absurd (omega arith)
  says_16 NotTaken e n h = absurd (omega arith)

-- so a request that is not turned away is served on 12 bytes
on_twelve : (s input : List ℕ) (room : ℕ) (m : Message) → parsed input ≡ Ok m → IsRequest m → serve_answer s input room ≡ 0 → length s ≡ 12
on_twelve s input room m e q z =
    by_cases (eqb (length s) 12)
    (λ t. eqb-true (length s) 12 t)
    (λ t. absurd (let k : ◌≡◌ {A = ℕ} 16 0 = sym (says_16 s input room m e q (eqb-false (length s) 12 t)) ∙ z in omega arith))

-- an answer is none that the writer turns away
read_right : (d : ReadDone) → wrong_message (answer_to_read d) ≡ false
unfolding answer_to_read
read_right d = by_test (λ (m : Message). wrong_message m ≡ false) _ _ _ (λ _. refl) (λ _. refl)

write_right : (d : WriteDone) → wrong_message (answer_to_write d) ≡ false
unfolding answer_to_write
write_right d = by_test (λ (m : Message). wrong_message m ≡ false) _ _ _ (λ _. refl) (λ _. refl)

room_alone : (room : ℕ) (m : Message) → wrong_message m ≡ false → write_refusal room m ≡ (when ltb room (length (frame_of m)) then 18 else 0)
unfolding write_refusal
room_alone room m t = sym (on_false _ t refl)

-- ---- a request m that was read, and served as y says
module _ (s input : List ℕ) (m : Message) (e : parsed input ≡ Ok m) (y : Served) (f : served_of s m ≡ Ok y) where
  said_room : (room : ℕ) → wrong_message y.answer ≡ false → serve_answer s input room ≡ (when ltb room (length (frame_of y.answer)) then 18 else 0)
  said_room room t = by_message s input room m e (Ok y) f ∙ room_alone room y.answer t

  said_answered : (b : List ℕ) → serve_answer s input (length b) ≡ 0 → Answered s input b y.register y.answer
  unfolding record_after_serve buffer_after_serve size_after_serve written_size written_buffer
  said_answered b z =
      let none = sym (by_message s input (length b) m e (Ok y) f) ∙ z in
      record {
        leaves = rw (e, f) (sym (on_true _ (eq-eqb (write_refusal (length b) y.answer) 0 none) refl));
        size = rw (e, f) (size_is _ (frame_of y.answer) b none);
        frame = rw (e, f, buffer_is _ (frame_of y.answer) b none) (frame_back y.answer (drop (length (frame_of y.answer)) b) (write_means (length b) y.answer none).0);
      }

module _ (s input : List ℕ) (r : ℕ) (e : parsed input ≡ Ok (ReadRequest r)) where
  pub says_read_room : (room : ℕ) → length s ≡ 12 → serve_answer s input room ≡ (when ltb room (length (frame_of (answer_to_read (rmw_read (decode s) r)))) then 18 else 0)
  says_read_room room h = said_room s input _ e _ (ap (served_by _) (one_loaded s h)) room (read_right _)

  pub serves_read : (b : List ℕ) → serve_answer s input (length b) ≡ 0 → Answered s input b (rmw_read (decode s) r).register (answer_to_read (rmw_read (decode s) r))
  serves_read b z = said_answered s input _ e _ (ap (served_by _) (one_loaded s (on_twelve s input (length b) (ReadRequest r) e (omega arith) z))) b z

module _ (s input : List ℕ) (r v : ℕ) (e : parsed input ≡ Ok (WriteRequest r v)) where
  pub says_write_room : (room : ℕ) → length s ≡ 12 → serve_answer s input room ≡ (when ltb room (length (frame_of (answer_to_write (rmw_write (decode s) r (single v))))) then 18 else 0)
  says_write_room room h = said_room s input _ e _ (ap (served_by _) (one_loaded s h)) room (write_right _)

  pub serves_write : (b : List ℕ) → serve_answer s input (length b) ≡ 0 → Answered s input b (rmw_write (decode s) r (single v)).register (answer_to_write (rmw_write (decode s) r (single v)))
  serves_write b z = said_answered s input _ e _ (ap (served_by _) (one_loaded s (on_twelve s input (length b) (WriteRequest r v) e (omega arith) z))) b z

-- ---- turned away, nothing is changed
module _ (s b : List ℕ) where
  kept_by : (x : Result Served Refusal) → ¬ (answer_in (length b) x ≡ 0) → (record_in s (length b) x ≡ s) × ((buffer_in b x ≡ b) × (size_in (length b) x ≡ 0))
  unfolding written_size written_buffer
  kept_by (Err r) n = (refl, (refl, refl))
  kept_by (Ok y) n =
      (sym (on_false _ (ne_eqb (write_refusal (length b) y.answer) 0 n) refl), (buffer_kept _ (frame_of y.answer) b n, no_size _ (frame_of y.answer) b n))

pub turned_kept : (s input b : List ℕ) → ¬ (serve_answer s input (length b) ≡ 0) → Kept s input b
unfolding serve_answer record_after_serve buffer_after_serve size_after_serve
turned_kept s input b n = let k = kept_by s b (serving s input) n in record { record_kept = k.0; buffer_kept = k.1.0; no_size = k.1.1 }

-- ---- the box calls do the same
module _ (s : List ℕ) (r : ℕ) (b : Bytes s) (h : length s ≡ 12) (n : ¬ (r ≡ 0)) where
  pub as_box_read : (p : List ℕ) → length p ≡ 8
      → (encode (rmw_read (decode s) r).register ≡ record_after_read s r p) × (answer_to_read (rmw_read (decode s) r) ≡ replied (read_answer s r p) (reply_after_read s r p))
  unfolding answer_to_read
  as_box_read p l =
      by_cases (is_held (rmw_read (decode s) r).answer)
      (λ t.
      let e = read_0 s r p h l n t in
      let words = reply_words (rank_in (rmw_read (decode s) r).answer) (value_in (rmw_read (decode s) r).answer).r0 in
      (read_record s r p e, sym (on_true _ t refl) ∙ on_true _ (eq-eqb (read_answer s r p) 0 (sym e)) (rw (← (read_reply s r p h l n), words.0, words.1))))
      (λ t.
      let e = read_100 s r p h l n t in (
        ap encode (outranked_kept (decode s) r t) ∙ encode_decode s b h ∙ read_kept s r p 100 refl e,
        sym (on_false _ t refl) ∙ on_false _ (ap (λ (x : ℕ). eqb x 0) (sym e)) refl,
      ))

  pub as_box_write : (v : ℕ) → (encode (rmw_write (decode s) r (single v)).register ≡ record_after_write s r v) × (answer_to_write (rmw_write (decode s) r (single v)) ≡ noted (write_answer s r v))
  unfolding answer_to_write
  as_box_write v =
      by_cases (rmw_write (decode s) r (single v)).taken
      (λ t. let e = write_0 s r v h n t in (write_record s r v e, sym (on_true _ t refl) ∙ on_true _ (eq-eqb (write_answer s r v) 0 (sym e)) refl))
      (λ t.
      let e = write_100 s r v h n t in (
        ap (λ (d : WriteDone). encode d.register) (write_refused (decode s) r (single v) (sym (write_answers (decode s) r (single v)) ∙ t)) ∙ encode_decode s b h ∙ write_kept s r v 100 refl e,
        sym (on_false _ t refl) ∙ on_false _ (ap (λ (x : ℕ). eqb x 0) (sym e)) refl,
      ))
