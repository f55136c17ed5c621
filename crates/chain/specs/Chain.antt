-- The chain from a box record in C, and from a frame on the wire, to the floor of demand 3, in one statement: on every floor that a list
-- reaches, an accepted serve changes the box's record of the attempt's department, written as its 12 bytes, as the C calls change them, and its answer is theirs. The
-- proof is `chain` in proofs/Chain.
use Rattle.std.specs.Prelude.{ℕ, suc, ◌≤◌, ◌≡◌, false, List, ◌++◌, length, get_or, drop}
use Rattle.base.specs.Choice.{when◌then◌else◌}
use Rattle.base.specs.Bytes.{Bytes}
use Rattle.base.specs.Records.{AllRecords}
use Rattle.frames.specs.Claims.{ReadAs}
use Rattle.frames.specs.Messages.{frame_of}
use Rattle.frames.specs.declared.Message.{Message}
use Rattle.frames.specs.declared.Message.TheVariants.{ReadRequest, WriteRequest, ReadAnswer, Outranked, Taken, NotTaken}
use Rattle.firmware.specs.Firmware.{encode, reply_of, read_answer, record_after_read, reply_after_read, write_answer, record_after_write}
use Rattle.firmware.specs.Serve.{serve_answer, record_after_serve, buffer_after_serve}
use Rattle.requests.specs.Requests.{slot_at}
use Rattle.requests.specs.declared.Phase.{Phase}
use Rattle.requests.specs.declared.Phase.TheVariants.{Read, Write}
use Rattle.commands.specs.Outcomes.{is_refused}
use Rattle.commands.specs.declared.Command.TheVariants.{Serve}
use Rattle.attempts.specs.Rows.{answer0, row_department}
use Rattle.register.specs.declared.Answer.{Answer}
use Rattle.floor.specs.Floors.{row_at, register_at}
use Rattle.floor.specs.Runs.{floor_at, said_at}
use Rattle.floor.specs.declared.Floor.{Floor}
use Rattle.floor.specs.Runs.{command_at}
use Rattle.agreement.specs.Words.{ServedAt}
use Rattle.agreement.specs.Demand.{trace_of}
use Rattle.floor.specs.Floors.{first_floor}

module _ (f : Floor) (l : List (List ℕ)) where
  -- "a record of 12 bytes: read rank, write rank, value, each big-endian": that of the box b before the step at i, for the department of the
  -- attempt a. Wish 6 of document 02: "Each box keeps one record a department".
  abbrev pub bytes_at : (a b i : ℕ) → List ℕ
  bytes_at a b i = encode (register_at (floor_at f l i) (row_department a) b)

  -- what the attempt a was answered to its read at the box b, before the step at i
  abbrev pub answer_at : (a b i : ℕ) → Answer
  answer_at a b i = get_or (row_at (floor_at f l i) a).answers b answer0

  -- A read with the rank r, of any reply of 8 bytes: the call leaves the box's next record, fills the reply with the numbers of the answer
  -- that is then on the way, and returns 0, or 100 where that answer is "outranked".
  pub record ReadInC (r a b i : ℕ) (reply : List ℕ) : Type 0 where
    pub returns : read_answer (bytes_at a b i) r reply ≡ (when (slot_at (row_at (floor_at f l (suc i)) a).read b).ok then 0 else 100)
    pub changes : record_after_read (bytes_at a b i) r reply ≡ bytes_at a b (suc i)
    pub answers : reply_after_read (bytes_at a b i) r reply ≡ reply_of (answer_at a b (suc i)).rank (answer_at a b (suc i)).value.r0

  -- A write with the rank r of the attempt's revision: the call leaves the box's next record, and returns 0 where the answer on the way
  -- says "taken" and 100 where it does not.
  pub record WriteInC (r a b i : ℕ) : Type 0 where
    pub returns : write_answer (bytes_at a b i) r (row_at (floor_at f l i) a).written.r0 ≡ (when (slot_at (row_at (floor_at f l (suc i)) a).write b).ok then 0 else 100)
    pub changes : record_after_write (bytes_at a b i) r (row_at (floor_at f l i) a).written.r0 ≡ bytes_at a b (suc i)

  abbrev pub InC : (phase : Phase) (r a b i : ℕ) → Type 0
  InC Read r a b i = (reply : List ℕ) → length reply ≡ 8 → ReadInC r a b i reply
  InC Write r a b i = WriteInC r a b i

  -- the request that the serve at i serves, and the answer that is then on the way, as messages
  abbrev pub request_at : (phase : Phase) (r a i : ℕ) → Message
  request_at Read r a i = ReadRequest r
  request_at Write r a i = WriteRequest r (row_at (floor_at f l i) a).written.r0

  abbrev pub answered_at : (phase : Phase) (a b i : ℕ) → Message
  answered_at Read a b i = when (slot_at (row_at (floor_at f l i) a).read b).ok then ReadAnswer (answer_at a b i).rank (answer_at a b i).value.r0 else Outranked
  answered_at Write a b i = when (slot_at (row_at (floor_at f l i) a).write b).ok then Taken else NotTaken

  -- The request's frame handed to `box_serve`, with anything behind it: the call leaves the box's next record, and in the buffer a frame that
  -- is read as the answer; behind that stands what stood there.
  pub record FramedInC (request answer : Message) (a b i : ℕ) (behind buffer : List ℕ) : Type 0 where
    pub returns : serve_answer (bytes_at a b i) (frame_of request ++ behind) (length buffer) ≡ 0
    pub changes : record_after_serve (bytes_at a b i) (frame_of request ++ behind) (length buffer) ≡ bytes_at a b (suc i)
    pub answers : ReadAs (buffer_after_serve (bytes_at a b i) (frame_of request ++ behind) buffer) answer (drop (length (frame_of answer)) buffer)

  -- the accepted serve at i, with the rank of its attempt
  pub record ServedInC (phase : Phase) (a b i : ℕ) : Type 0 where
    pub rank : ℕ
    pub served : ServedAt (trace_of f l) (row_department a) rank b i
    pub call : InC phase rank a b i
    pub framed : (behind buffer : List ℕ) → 12 ≤ length buffer → FramedInC (request_at phase rank a i) (answered_at phase a b (suc i)) a b i behind buffer
    -- where the list's records are of 8 bytes each, the box's record before and after is 12 bytes
    pub bytes : AllRecords l → Bytes (bytes_at a b i) × Bytes (bytes_at a b (suc i))

abbrev pub Chain : Type 0
Chain = (n m : ℕ) (departments : List ℕ) (l : List (List ℕ)) (phase : Phase) (a b i : ℕ) → command_at l i ≡ Serve phase a b
    → is_refused (said_at (first_floor n m departments) l i) ≡ false → ServedInC (first_floor n m departments) l phase a b i
