-- Document 02, wish 3: a request served on a record s of 12 bytes, by the reader of frames, the box routine and the writer of frames, one after
-- the other.
use Rattle.std.specs.Prelude.{ℕ, not, List, eqb, length, Result, Ok, Err}
use Rattle.suits.specs.Suits.{single}
use Rattle.base.specs.Choice.{when◌then◌else◌}
use Rattle.base.specs.Refusals.{number}
use Rattle.base.specs.declared.Refusal.{Refusal}
use Rattle.base.specs.declared.Refusal.TheVariants.{Length}
use Rattle.base.specs.declared.Refusal.TheVariants as refusal
use Rattle.register.specs.Register.{is_held, rank_in, value_in, rmw_read, rmw_write}
use Rattle.register.specs.declared.Register.{Register}
use Rattle.register.specs.declared.ReadDone.{ReadDone}
use Rattle.register.specs.declared.WriteDone.{WriteDone}
use Rattle.frames.specs.Reader.{parsed}
use Rattle.frames.specs.Writer.{write_refusal, written_size, written_buffer}
use Rattle.frames.specs.declared.Message.{Message}
use Rattle.frames.specs.declared.Message.TheVariants.{ReadRequest, WriteRequest, ReadAnswer, Outranked, Taken, NotTaken}
use Rattle.firmware.specs.Firmware.{encode, decode}
use Rattle.firmware.specs.declared.serve.Served.{Served}

-- the answer of a read as a message, "3 read answer (write rank, value)" or "4 outranked"; that of a write, "5 taken" or "6 not taken"
unfoldable pub answer_to_read : (d : ReadDone) → Message
answer_to_read d = when is_held d.answer then ReadAnswer (rank_in d.answer) (value_in d.answer).r0 else Outranked

unfoldable pub answer_to_write : (d : WriteDone) → Message
answer_to_write d = when d.taken then Taken else NotTaken

-- what the routine did, with the answer as a message
abbrev pub read_done : (d : ReadDone) → Served
read_done d = record { register = d.register; answer = answer_to_read d }

abbrev pub write_done : (d : WriteDone) → Served
write_done d = record { register = d.register; answer = answer_to_write d }

-- the register that the record holds; "16. A box call whose record is not 12 bytes"
unfoldable pub loaded : (s : List ℕ) → Result Register Refusal
loaded s = when not (eqb (length s) 12) then Err Length else Ok (decode s)

-- the box routine on that register, if there is one
abbrev pub served_by : (routine : Register → Served) (x : Result Register Refusal) → Result Served Refusal
served_by routine (Ok x) = Ok (routine x)
served_by routine (Err r) = Err r

abbrev pub read_served : (s : List ℕ) (rank : ℕ) → Result Served Refusal
read_served s rank = served_by (λ x. read_done (rmw_read x rank)) (loaded s)

abbrev pub write_served : (s : List ℕ) (rank revision : ℕ) → Result Served Refusal
write_served s rank revision = served_by (λ x. write_done (rmw_write x rank (single revision))) (loaded s)

-- a message that is no request is turned away with 21, as an unknown kind is: to a box only 1 and 2 are kinds of request
abbrev pub served_of : (s : List ℕ) (m : Message) → Result Served Refusal
served_of s (ReadRequest rank) = read_served s rank
served_of s (WriteRequest rank revision) = write_served s rank revision
served_of s (ReadAnswer rank value) = Err refusal.Message
served_of s Outranked = Err refusal.Message
served_of s Taken = Err refusal.Message
served_of s NotTaken = Err refusal.Message

-- what the reader made of the input
abbrev pub served_in : (s : List ℕ) (p : Result Message Refusal) → Result Served Refusal
served_in s (Err r) = Err r
served_in s (Ok m) = served_of s m

abbrev pub serving : (s input : List ℕ) → Result Served Refusal
serving s input = served_in s (parsed input)

-- the answer of the call, and what it leaves: then it is the writer's turn, whose 18 leaves the record as it was too
abbrev pub answer_in : (room : ℕ) (x : Result Served Refusal) → ℕ
answer_in room (Err r) = number r
answer_in room (Ok y) = write_refusal room y.answer

abbrev pub record_in : (s : List ℕ) (room : ℕ) (x : Result Served Refusal) → List ℕ
record_in s room (Err r) = s
record_in s room (Ok y) = when eqb (write_refusal room y.answer) 0 then encode y.register else s

abbrev pub buffer_in : (buffer : List ℕ) (x : Result Served Refusal) → List ℕ
buffer_in buffer (Err r) = buffer
buffer_in buffer (Ok y) = written_buffer buffer y.answer

abbrev pub size_in : (room : ℕ) (x : Result Served Refusal) → ℕ
size_in room (Err r) = 0
size_in room (Ok y) = written_size room y.answer

-- for a record, an input and a buffer, or its number of bytes: 19, 20 or 21 of the reader, 16 of the routine, 18 of the writer, 0 where it is served
unfoldable pub serve_answer : (s input : List ℕ) (room : ℕ) → ℕ
serve_answer s input room = answer_in room (serving s input)

unfoldable pub record_after_serve : (s input : List ℕ) (room : ℕ) → List ℕ
record_after_serve s input room = record_in s room (serving s input)

unfoldable pub buffer_after_serve : (s input buffer : List ℕ) → List ℕ
buffer_after_serve s input buffer = buffer_in buffer (serving s input)

unfoldable pub size_after_serve : (s input : List ℕ) (room : ℕ) → ℕ
size_after_serve s input room = size_in room (serving s input)
