-- What the two calls answer and leave, case by case. The cases exclude each other and leave none out: 16 stands before 17, and each is
-- given for no other cause. After a call that is not refused the record holds the register that the routine by value gives.
use mathlib.Core.Path.{◌≡◌, refl, sym, ◌∙◌, ap}
use mathlib.Core.Logic.{◌⊎◌, ⊎_elim}
use mathlib.Core.Bool.{Bool, true, false, not, ◌||◌, false≢true}
use mathlib.Core.List.{List}
use Prim.Native.Nat.{ℕ, ◌<◌, ◌^◌}
use native.Mathlib.Omega.{arith}
use lib.Dec.{eqb}
use lib.ListN.{length, replicate}
use Rattle.std.proofs.Common.{Option, Some, None}
use borrow.Author.Tests.{eq-eqb, ne_eqb}
use Rattle.std.proofs.lemmas.Bool.{or_from, or_left, or_right}
use Rattle.suits.specs.Suits.{single}
use Rattle.base.specs.Bytes.{Bytes}
use Rattle.base.proofs.Choices.{on_true, on_false, by_test}
use Rattle.register.specs.Register.{outranks, is_held, number_in, rank_in, value_in, rmw_read, takes, rmw_write}
use Rattle.register.proofs.RegisterLaws.{ReadCase, outranked, answered, read_case, write_refused, write_answers}
use Rattle.register.specs.declared.Register.{Register}
use Rattle.register.specs.declared.Answer.{Answer}
use Rattle.register.specs.declared.ReadDone.{ReadDone}
use Rattle.register.specs.declared.WriteDone.{WriteDone}
use Rattle.firmware.specs.Firmware.{encode, decode, reply_of, read_answer, record_after_read, reply_after_read, write_answer, record_after_write}
use Rattle.firmware.specs.Claims.{Fits32}
use Rattle.firmware.proofs.BoxRecordLaws.{decode_encode, encode_bytes, decode_fits}

-- the tests of the refusals: a length that is this number, or another
pub this : (x k : ℕ) → x ≡ k → not (eqb x k) ≡ false
this x k e = ap not (eq-eqb x k e)

pub other : (x k : ℕ) → (x ≡ k → ⊥) → not (eqb x k) ≡ true
other x k n = ap not (ne_eqb x k n)

-- the routine keeps a register's fields within 32 bits
module _ (x : Register) (r : ℕ) (f : Fits32 x) (g : r < 2 ^ 32) where
  fits_after : {d : ReadDone} → ReadCase x r d → Fits32 d.register
  fits_after (outranked h) = f
  fits_after (answered h k) = record { read = g; write = f.write; value = f.value }

  pub read_fits : Fits32 (rmw_read x r).register
  read_fits = fits_after (read_case x r)

  pub write_fits : (v : ℕ) → v < 2 ^ 32 → Fits32 (rmw_write x r (single v)).register
  unfolding rmw_write
  write_fits v k =
      by_test (λ (d : WriteDone). Fits32 d.register) (takes x r) _ _ (λ _. record { read = f.read; write = g; value = k }) (λ _. f)

-- a read changes the read rank alone
pub read_keeps : (x : Register) (r : ℕ) → record { read = (rmw_read x r).register.read; write = x.write; value = x.value } ≡ (rmw_read x r).register
unfolding rmw_read
read_keeps x r =
    by_test (λ (d : ReadDone). record { read = d.register.read; write = x.write; value = x.value } ≡ d.register) (outranks x r) _ _ (λ _. refl) (λ _. refl)

-- the numbers of a read's answer
held_number : (a : Option Answer) → is_held a ≡ true → 0 ≡ number_in a
held_number (Some x) t = refl
held_number None t = absurd (false≢true t)

outranked_number : (a : Option Answer) → is_held a ≡ false → 100 ≡ number_in a
outranked_number (Some x) t = absurd (false≢true (sym t))
outranked_number None t = refl

-- ---- a read of record s with rank r and reply p
module _ (s : List ℕ) (r : ℕ) (p : List ℕ) where
  pub read_16 : (length s ≡ 12 → ⊥) ⊎ (length p ≡ 8 → ⊥) → 16 ≡ read_answer s r p
  unfolding read_answer
  read_16 h = on_true _ (⊎_elim (λ n. or_left _ _ (other _ 12 n)) (λ n. or_right _ _ (other _ 8 n)) h) refl

  module _ (hs : length s ≡ 12) (hp : length p ≡ 8) where
    lengths : (not (eqb (length s) 12) || not (eqb (length p) 8)) ≡ false
    lengths = or_from _ _ (this _ 12 hs) (this _ 8 hp)

    pub read_17 : r ≡ 0 → 17 ≡ read_answer s r p
    unfolding read_answer
    read_17 e = on_false _ lengths (on_true _ (eq-eqb r 0 e) refl)

    module _ (n : r ≡ 0 → ⊥) where
      pub read_0 : is_held (rmw_read (decode s) r).answer ≡ true → 0 ≡ read_answer s r p
      unfolding read_answer
      read_0 t = on_false _ lengths (on_false _ (ne_eqb r 0 n) (held_number (rmw_read (decode s) r).answer t))

      pub read_100 : is_held (rmw_read (decode s) r).answer ≡ false → 100 ≡ read_answer s r p
      unfolding read_answer
      read_100 t = on_false _ lengths (on_false _ (ne_eqb r 0 n) (outranked_number (rmw_read (decode s) r).answer t))

  -- the record stays as it is after any other answer than 0: refused or outranked
  pub read_kept : (a : ℕ) → eqb a 0 ≡ false → a ≡ read_answer s r p → s ≡ record_after_read s r p
  unfolding record_after_read
  read_kept a n e = on_false _ (ap (λ (x : ℕ). eqb x 0) (sym e) ∙ n) refl

  -- "record and reply stay unchanged" after any other answer than 0 and 100
  pub read_refused : (a : ℕ) → eqb a 0 ≡ false → eqb a 100 ≡ false → a ≡ read_answer s r p → (s ≡ record_after_read s r p) × (p ≡ reply_after_read s r p)
  unfolding reply_after_read
  read_refused a n m e =
      (read_kept a n e, on_false _ (ap (λ (x : ℕ). eqb x 0) (sym e) ∙ n) (on_false _ (ap (λ (x : ℕ). eqb x 100) (sym e) ∙ m) refl))

  -- after answer 100 the reply is zeroed
  pub read_zeroed : 100 ≡ read_answer s r p → replicate 8 0 ≡ reply_after_read s r p
  unfolding reply_after_read
  read_zeroed e = on_false _ (ap (λ (x : ℕ). eqb x 0) (sym e)) (on_true _ (ap (λ (x : ℕ). eqb x 100) (sym e)) refl)

  -- after answer 0 the record is that of the register after the read, and the reply that of its answer
  module _ (e : 0 ≡ read_answer s r p) where
    zero_read : eqb (read_answer s r p) 0 ≡ true
    zero_read = ap (λ (x : ℕ). eqb x 0) (sym e)

    pub read_record : encode (rmw_read (decode s) r).register ≡ record_after_read s r p
    unfolding record_after_read
    read_record = on_true _ zero_read refl

    read_filled : reply_of (rank_in (rmw_read (decode s) r).answer) (value_in (rmw_read (decode s) r).answer).r0 ≡ reply_after_read s r p
    unfolding reply_after_read
    read_filled = on_true _ zero_read refl

  module _ (hs : length s ≡ 12) (hp : length p ≡ 8) (n : r ≡ 0 → ⊥) where
    abbrev done : ReadDone
    done = rmw_read (decode s) r

    -- the record then holds the register that the routine by value gives, outranked or not, and the reply the answer's rank and value
    record Called (d : ReadDone) : Type 0 where
      routine : decode (record_after_read s r p) ≡ d.register
      reply : reply_of (rank_in d.answer) (value_in d.answer).r0 ≡ reply_after_read s r p

    called : {d : ReadDone} → done ≡ d → ReadCase (decode s) r d → Called d
    unfolding reply_of
    called q (outranked h) =
        let e = read_100 hs hp n (ap (λ (y : ReadDone). is_held y.answer) q) in
        record { routine = ap decode (sym (read_kept 100 refl e)); reply = read_zeroed e }
    called q (answered h k) =
        let e = read_0 hs hp n (ap (λ (y : ReadDone). is_held y.answer) q) in
        record {
          routine = ap decode (sym (read_record e)) ∙ decode_encode _ ∙ ap (λ (y : ReadDone). y.register) q;
          reply = ap (λ (y : ReadDone). reply_of (rank_in y.answer) (value_in y.answer).r0) (sym q) ∙ read_filled e;
        }

    pub read_routine : decode (record_after_read s r p) ≡ done.register
    read_routine = (called refl (read_case (decode s) r)).routine

    pub read_reply : reply_of (rank_in done.answer) (value_in done.answer).r0 ≡ reply_after_read s r p
    read_reply = (called refl (read_case (decode s) r)).reply

  -- record and reply stay lists of bytes
  module _ (b : Bytes s) where
    pub read_bytes : r < 2 ^ 32 → Bytes (record_after_read s r p)
    unfolding record_after_read
    read_bytes g = by_test Bytes _ _ _ (λ _. encode_bytes _ (read_fits (decode s) r (decode_fits s b) g)) (λ _. b)

    answer_bytes : {d : ReadDone} → ReadCase (decode s) r d → Bytes (reply_of (rank_in d.answer) (value_in d.answer).r0)
    unfolding reply_of
    answer_bytes (outranked h) = omega arith
    answer_bytes (answered h k) = let f = decode_fits s b in omega arith

    pub reply_bytes : Bytes p → Bytes (reply_after_read s r p)
    unfolding reply_after_read
    reply_bytes c = by_test Bytes _ _ _ (λ _. answer_bytes (read_case (decode s) r)) (λ _. by_test Bytes _ _ _ (λ _. omega arith) (λ _. c))

-- ---- a write of revision v to record s with rank r
module _ (s : List ℕ) (r v : ℕ) where
  pub write_16 : (length s ≡ 12 → ⊥) → 16 ≡ write_answer s r v
  unfolding write_answer
  write_16 n = on_true _ (other _ 12 n) refl

  pub write_17 : length s ≡ 12 → r ≡ 0 → 17 ≡ write_answer s r v
  unfolding write_answer
  write_17 h e = on_false _ (this _ 12 h) (on_true _ (eq-eqb r 0 e) refl)

  -- the record stays as it is after any other answer than 0: refused or not taken
  pub write_kept : (a : ℕ) → eqb a 0 ≡ false → a ≡ write_answer s r v → s ≡ record_after_write s r v
  unfolding record_after_write
  write_kept a n e = on_false _ (ap (λ (x : ℕ). eqb x 0) (sym e) ∙ n) refl

  -- after answer 0 it is that of the register after the write
  pub write_record : 0 ≡ write_answer s r v → encode (rmw_write (decode s) r (single v)).register ≡ record_after_write s r v
  unfolding record_after_write
  write_record e = on_true _ (ap (λ (x : ℕ). eqb x 0) (sym e)) refl

  module _ (h : length s ≡ 12) (n : r ≡ 0 → ⊥) where
    pub write_0 : (rmw_write (decode s) r (single v)).taken ≡ true → 0 ≡ write_answer s r v
    unfolding write_answer
    write_0 t = on_false _ (this _ 12 h) (on_false _ (ne_eqb r 0 n) (on_true _ t refl))

    pub write_100 : (rmw_write (decode s) r (single v)).taken ≡ false → 100 ≡ write_answer s r v
    unfolding write_answer
    write_100 t = on_false _ (this _ 12 h) (on_false _ (ne_eqb r 0 n) (on_false _ t refl))

    -- the record decodes to the register that the routine by value gives, taken or not
    pub write_routine : decode (record_after_write s r v) ≡ (rmw_write (decode s) r (single v)).register
    write_routine = by_taken (rmw_write (decode s) r (single v)).taken refl
      where
        by_taken : (t : Bool) → (rmw_write (decode s) r (single v)).taken ≡ t → decode (record_after_write s r v) ≡ (rmw_write (decode s) r (single v)).register
        by_taken true t = ap decode (sym (write_record (write_0 t))) ∙ decode_encode _
        by_taken false t = ap decode (sym (write_kept 100 refl (write_100 t))) ∙ sym (ap (λ (y : WriteDone). y.register) (write_refused (decode s) r (single v) (sym (write_answers (decode s) r (single v)) ∙ t)))

  -- the record stays a list of bytes
  pub write_bytes : Bytes s → r < 2 ^ 32 → v < 2 ^ 32 → Bytes (record_after_write s r v)
  unfolding record_after_write
  write_bytes b g k = by_test Bytes _ _ _ (λ _. encode_bytes _ (write_fits (decode s) r (decode_fits s b) g v k)) (λ _. b)
