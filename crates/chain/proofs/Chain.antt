-- The chain from a box record in C, and from a frame, to the floor: the C calls on a register's bytes, and the accepted serve that does the
-- same.
use Prim.Native.Nat.{ℕ, suc, ◌≤◌, ◌<◌}
use native.Mathlib.Omega.{arith}
use mathlib.Core.Path.{◌≡◌, refl, sym, ap, subst, ◌∙◌}
use mathlib.Core.Bool.{Bool, true, false}
use mathlib.Core.List.{List, [], ◌++◌}
use borrow.Author.Tests.{le-ltb, ne_eqb}
use lib.Dec.{ltb}
use lib.ListN.{length, get_or, drop}
use lib.Seq.{get_or-set_same}
use Rattle.suits.specs.declared.Suit.{Suit}
use Rattle.base.specs.Choice.{when◌then◌else◌}
use Rattle.base.specs.Bytes.{Bytes}
use Rattle.base.specs.Records.{AllRecords}
use Rattle.base.proofs.Choices.{on_true, on_false}
use Rattle.register.specs.Register.{register_of, is_held, rank_in, value_in, rmw_read, rmw_write}
use Rattle.register.specs.declared.Register.{Register}
use Rattle.register.specs.declared.ReadDone.{ReadDone}
use Rattle.register.specs.declared.WriteDone.{WriteDone}
use Rattle.register.proofs.DepartmentLaws.{box_own}
use Rattle.register.proofs.RegisterLaws.{outranked_kept, write_refused, write_answers}
use Rattle.frames.specs.Claims.{ReadAs}
use Rattle.frames.specs.Messages.{kind_of, frame_of}
use Rattle.frames.specs.declared.Message.{Message}
use Rattle.frames.specs.declared.Message.TheVariants.{ReadRequest, WriteRequest}
use Rattle.frames.proofs.MessageLaws.{fields_few, frame_size}
use Rattle.frames.proofs.FrameLaws.{frame_back}
use Rattle.firmware.specs.Serve.{answer_to_read, answer_to_write, serve_answer, record_after_serve, buffer_after_serve}
use Rattle.firmware.proofs.ServeLaws.{says_read_room, says_write_room, serves_read, serves_write}
use Rattle.firmware.specs.Firmware.{encode, decode, reply_of, read_answer, record_after_read, reply_after_read, write_answer, record_after_write}
use Rattle.firmware.proofs.BoxRecordLaws.{decode_encode, encode_length, encode_bytes}
use Rattle.firmware.proofs.CallLaws.{read_0, read_100, read_record, read_kept, read_reply, write_0, write_100, write_record, write_kept}
use Rattle.requests.specs.Requests.{slot0, slot_at, of_phase}
use Rattle.requests.specs.declared.Phase.{Phase}
use Rattle.requests.specs.declared.Phase.TheVariants.{Read, Write}
use Rattle.requests.specs.declared.Slot.{Slot}
use Rattle.commands.specs.Outcomes.{is_refused}
use Rattle.commands.specs.declared.Command.{Command}
use Rattle.commands.specs.declared.Command.TheVariants.{Serve}
use Rattle.commands.specs.declared.Outcome.TheVariants as said
use Rattle.attempts.specs.Rows.{row_department, answer0, answer_of, row_served, register_served}
use Rattle.register.specs.declared.Answer.{Answer}
use Rattle.attempts.specs.declared.Row.{Row}
use Rattle.floor.specs.Floors.{box_at, row_at, register_at}
use Rattle.floor.specs.Effects.{served_by}
use Rattle.floor.proofs.UseLaws.{in_use_most}
use Rattle.floor.specs.Step.{step_of}
use Rattle.floor.specs.Runs.{floor_at, said_at}
use Rattle.floor.specs.Soundness.{Sound}
use Rattle.floor.specs.Meanings.{ServedBy}
use Rattle.floor.specs.declared.Floor.{Floor}
use Rattle.floor.specs.declared.Stepped.{Stepped}
use Rattle.floor.proofs.StepCases.{StepCase, turned, served, step_case}
use Rattle.floor.proofs.Outcomes.{served_row, served_box}
use Rattle.floor.proofs.EmptyFloors.{new_sound}
use Rattle.floor.proofs.ListLaws.{sound_at}
use Rattle.base.proofs.Cases.{clash}
use Rattle.floor.specs.Runs.{command_at}
use Rattle.floor.specs.Floors.{first_floor}
use Rattle.chain.specs.Chain.{bytes_at, answer_at, InC, request_at, answered_at, FramedInC, ServedInC, Chain}
use Rattle.agreement.proofs.Positions.{means_at, rank_positive}
use Rattle.agreement.proofs.Safety.{served_at}
use Rattle.floor.proofs.Reached.{New, new_floor_lem, lengths_at}
use Rattle.chain.proofs.Widths.{FloorFits, fits_at, new_fits}

-- a call on the 12 bytes of a register does what the routine by value does to it
module _ (x : Register) (r : ℕ) (n : ¬ (r ≡ 0)) where
  module _ (p : List ℕ) (h : length p ≡ 8) where
    abbrev got : ReadDone
    got = rmw_read x r

    same_read : rmw_read (decode (encode x)) r ≡ got
    same_read = ap (λ (y : Register). rmw_read y r) (decode_encode x)

    record Asked : Type 0 where
      returns : read_answer (encode x) r p ≡ (when is_held got.answer then 0 else 100)
      changes : record_after_read (encode x) r p ≡ encode got.register

    asked : (t : Bool) → is_held got.answer ≡ t → Asked
    asked true t =
        let e = read_0 (encode x) r p (encode_length x) h n (ap (λ (y : ReadDone). is_held y.answer) same_read ∙ t) in
        record {
          returns = sym e ∙ on_true _ t refl;
          changes = sym (read_record (encode x) r p e) ∙ ap (λ (y : ReadDone). encode y.register) same_read;
        }
    asked false t =
        let e = read_100 (encode x) r p (encode_length x) h n (ap (λ (y : ReadDone). is_held y.answer) same_read ∙ t) in
        record {
          returns = sym e ∙ on_false _ t refl;
          changes = sym (read_kept (encode x) r p 100 refl e) ∙ ap encode (sym (outranked_kept x r t));
        }

    read_answers : reply_after_read (encode x) r p ≡ reply_of (rank_in got.answer) (value_in got.answer).r0
    read_answers =
        sym (read_reply (encode x) r p (encode_length x) h n)
        ∙ ap (λ (y : ReadDone). reply_of (rank_in y.answer) (value_in y.answer).r0) same_read

  module _ (v : Suit) where
    abbrev done : WriteDone
    done = rmw_write x r v

    same : rmw_write (decode (encode x)) r v ≡ done
    same = ap (λ (y : Register). rmw_write y r v) (decode_encode x)

    record Called : Type 0 where
      returns : write_answer (encode x) r v.r0 ≡ (when done.taken then 0 else 100)
      changes : record_after_write (encode x) r v.r0 ≡ encode done.register

    called : (t : Bool) → done.taken ≡ t → Called
    called true t =
        let e = write_0 (encode x) r v.r0 (encode_length x) n (ap (λ (y : WriteDone). y.taken) same ∙ t) in
        record {
          returns = sym e ∙ on_true _ t refl;
          changes = sym (write_record (encode x) r v.r0 e) ∙ ap (λ (y : WriteDone). encode y.register) same;
        }
    called false t =
        let e = write_100 (encode x) r v.r0 (encode_length x) n (ap (λ (y : WriteDone). y.taken) same ∙ t) in
        record {
          returns = sym e ∙ on_false _ t refl;
          changes = sym (write_kept (encode x) r v.r0 100 refl e) ∙ ap (λ (y : WriteDone). encode y.register) (sym (write_refused x r v (sym (write_answers x r v) ∙ t)));
        }

-- a request's frame served on the 12 bytes of a register: what the routine by value gives, `after` and the answer
record Framed (x : Register) (request : Message) (after : Register) (answer : Message) (behind buffer : List ℕ) : Type 0 where
  returns : serve_answer (encode x) (frame_of request ++ behind) (length buffer) ≡ 0
  changes : record_after_serve (encode x) (frame_of request ++ behind) (length buffer) ≡ encode after
  answers : ReadAs (buffer_after_serve (encode x) (frame_of request ++ behind) buffer) answer (drop (length (frame_of answer)) buffer)

-- a buffer of 12 bytes has room for any message
room : (m : Message) (k : ℕ) → 12 ≤ k → ltb k (length (frame_of m)) ≡ false
room m k h = le-ltb k (length (frame_of m)) (omega (arith, frame_size m, fields_few (kind_of m)))

module _ (x : Register) (r : ℕ) (n : ¬ (r ≡ 0)) (behind buffer : List ℕ) (h : 12 ≤ length buffer) where
  read_framed : Framed x (ReadRequest r) (rmw_read x r).register (answer_to_read (rmw_read x r)) behind buffer
  read_framed =
      let input = frame_of (ReadRequest r) ++ behind in
      let e = (frame_back (ReadRequest r) behind (ne_eqb r 0 n)).message in
      let none = says_read_room (encode x) input r e (length buffer) (encode_length x) ∙ sym (on_false _ (room (answer_to_read (rmw_read (decode (encode x)) r)) (length buffer) h) refl) in
      let a = rw (decode_encode x) at (serves_read (encode x) input r e buffer none) in
      record { returns = none; changes = a.leaves; answers = a.frame }

  write_framed : (v : Suit) → Framed x (WriteRequest r v.r0) (rmw_write x r v).register (answer_to_write (rmw_write x r v)) behind buffer
  write_framed v =
      let input = frame_of (WriteRequest r v.r0) ++ behind in
      let e = (frame_back (WriteRequest r v.r0) behind (ne_eqb r 0 n)).message in
      let none = says_write_room (encode x) input r v.r0 e (length buffer) (encode_length x) ∙ sym (on_false _ (room (answer_to_write (rmw_write (decode (encode x)) r v)) (length buffer) h) refl) in
      let a = rw (decode_encode x) at (serves_write (encode x) input r v.r0 e buffer none) in
      record { returns = none; changes = a.leaves; answers = a.frame }

-- an accepted serve says served
says_served : {f : Floor} (p : Phase) (a b : ℕ) {y : Stepped} → StepCase f (Serve p a b) y → is_refused y.outcome ≡ false → y.outcome ≡ said.Served a
says_served p a b (turned k t) e = clash refl e
says_served p a b (served z d) e = refl

module _ (f : Floor) (l : List (List ℕ)) (new : New f) (z : Sound f) (a i : ℕ) (e : said_at f l i ≡ said.Served a) where
  abbrev g : Floor
  g = floor_at f l i

  abbrev w : Row
  w = row_at g a

  abbrev x : ServedBy g (command_at l i) (floor_at f l (suc i)) a
  x = means_at f l new i (said.Served a) e

  abbrev b : ℕ
  b = x.box

  abbrev held : Register
  held = served_by g a b

  not_zero : ¬ (w.rank ≡ 0)
  not_zero q = omega (arith, rank_positive f l new i a x.may.used, q)

  place : b < 9
  place = omega (arith, x.may.box, (sound_at f l z i).box_most)

  row_place_lem : a < 128
  row_place_lem = in_use_most g (sound_at f l z i) a x.may.used

  -- the box's next record for the attempt's department
  stored : register_at (floor_at f l (suc i)) (row_department a) b ≡ register_served x.phase w held
  stored = ap (register_of (row_department a)) (served_box (lengths_at f l new i) x) ∙ box_own (row_department a) (box_at g b) _ (box_at g b).away

  -- a read: the box's next register, the answer then on the way, and whether that is a yes
  module _ (q : x.phase ≡ Read) where
    read_register : register_at (floor_at f l (suc i)) (row_department a) b ≡ (rmw_read held w.rank).register
    read_register = stored ∙ ap (λ (p : Phase). register_served p w held) q

    read_answer_lem : answer_at f l a b (suc i) ≡ answer_of (rmw_read held w.rank)
    read_answer_lem =
        ap (λ (v : Row). get_or v.answers b answer0) (served_row (lengths_at f l new i) x) ∙ ap (λ (p : Phase). get_or (row_served p w held b).answers b answer0) q
        ∙ get_or-set_same w.answers b _ answer0 (omega (arith, place, (lengths_at f l new i).answers a row_place_lem))

    read_ok : (slot_at (row_at (floor_at f l (suc i)) a).read b).ok ≡ is_held (rmw_read held w.rank).answer
    read_ok =
        ap (λ (v : Row). (slot_at v.read b).ok) (served_row (lengths_at f l new i) x) ∙ ap (λ (p : Phase). (slot_at (row_served p w held b).read b).ok) q
        ∙ ap (λ (v : Slot). v.ok) (get_or-set_same w.read.slots b _ slot0 (omega (arith, place, (lengths_at f l new i).slots Read a row_place_lem)))

  -- the same of a write
  module _ (q : x.phase ≡ Write) where
    write_register : register_at (floor_at f l (suc i)) (row_department a) b ≡ (rmw_write held w.rank w.written).register
    write_register = stored ∙ ap (λ (p : Phase). register_served p w held) q

    write_ok : (slot_at (row_at (floor_at f l (suc i)) a).write b).ok ≡ (rmw_write held w.rank w.written).taken
    write_ok =
        ap (λ (v : Row). (slot_at v.write b).ok) (served_row (lengths_at f l new i) x) ∙ ap (λ (p : Phase). (slot_at (row_served p w held b).write b).ok) q
        ∙ ap (λ (v : Slot). v.ok) (get_or-set_same w.write.slots b _ slot0 (omega (arith, place, (lengths_at f l new i).slots Write a row_place_lem)))

  call : (p : Phase) → x.phase ≡ p → InC f l p w.rank a b i
  call Read q = λ reply h.
      let c = asked held w.rank not_zero reply h _ refl in
      record {
        returns = c.returns ∙ ap (λ (u : Bool). when u then 0 else 100) (sym (read_ok q));
        changes = c.changes ∙ ap encode (sym (read_register q));
        answers = read_answers held w.rank not_zero reply h ∙ ap (λ (v : Answer). reply_of v.rank v.value.r0) (sym (read_answer_lem q));
      }
  call Write q =
      let c = called held w.rank not_zero w.written _ refl in
      record {
        returns = c.returns ∙ ap (λ (t : Bool). when t then 0 else 100) (sym (write_ok q));
        changes = c.changes ∙ ap encode (sym (write_register q));
      }

  -- the answer on the way, as a message
  said_answer : (p : Phase) → x.phase ≡ p → answered_at f l p a b (suc i) ≡ of_phase p (answer_to_read (rmw_read held w.rank)) (answer_to_write (rmw_write held w.rank w.written))
  unfolding answer_to_read answer_to_write
  said_answer Read q = rw (read_ok q, read_answer_lem q)
  said_answer Write q = rw (write_ok q)

  framed : (p : Phase) → x.phase ≡ p → (behind buffer : List ℕ) → 12 ≤ length buffer → FramedInC f l (request_at f l p w.rank a i) (answered_at f l p a b (suc i)) a b i behind buffer
  framed Read q behind buffer h =
      let c = read_framed held w.rank not_zero behind buffer h in
      rw (said_answer Read q) (record { returns = c.returns; changes = c.changes ∙ ap encode (sym (read_register q)); answers = c.answers })
  framed Write q behind buffer h =
      let c = write_framed held w.rank not_zero behind buffer h w.written in
      rw (said_answer Write q) (record { returns = c.returns; changes = c.changes ∙ ap encode (sym (write_register q)); answers = c.answers })

  bytes : FloorFits f → (k : ℕ) → AllRecords l → Bytes (bytes_at f l a b k)
  bytes fits k y = encode_bytes _ ((fits_at f l fits y k).boxes (row_department a) b)

  served_in_c : FloorFits f → ServedInC f l x.phase a b i
  served_in_c fits = record {
    rank = w.rank;
    served = served_at f l new (row_department a) i w.rank b (record { attempt = a; of = refl; used = x.may.used; rank = refl; phase = x.phase; asked = x.command; accepted = e });
    call = call x.phase refl;
    framed = framed x.phase refl;
    bytes = λ y. (bytes fits i y, bytes fits (suc i) y);
  }

pub chain : Chain
chain n m ds l p a b i c ok =
    let f = first_floor n m ds in
    let new = new_floor_lem n m ds in
    let e = says_served p a b (subst (λ (d : Command). StepCase (floor_at f l i) d (step_of (floor_at f l i) (get_or l i []))) c (step_case (floor_at f l i) (get_or l i []))) ok in
    let x = means_at f l new i (said.Served a) e in
    let q : Serve p a b ≡ Serve x.phase a x.box = sym c ∙ x.command in
    let eb : x.box ≡ b = cc in
    let ep : x.phase ≡ p = cc in
    subst (λ (y : ℕ). ServedInC f l p a y i) eb (subst (λ (y : Phase). ServedInC f l y a x.box i) ep (served_in_c f l new (new_sound n m ds) a i e (new_fits n m ds)))
