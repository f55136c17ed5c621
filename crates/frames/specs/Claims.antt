-- What is claimed of frames, of their reader and of their writer. The proof is `frame_claims` in proofs/Claims.
use Rattle.std.specs.Prelude.{ℕ, ◌+◌, ◌*◌, ◌^◌, ◌≤◌, ◌<◌, ◌≡◌, true, false, List, [], ◌∷◌, ◌++◌, length, take, drop, Ok, Err}
use Rattle.base.specs.Bytes.{Bytes}
use Rattle.base.specs.declared.Refusal.{Refusal}
use Rattle.base.specs.declared.Refusal.TheVariants.{FrameLength, FrameVersion}
use Rattle.base.specs.declared.Refusal.TheVariants as refusal
use Rattle.frames.specs.Messages.{kind_of, fields_of, first_of, second_of, frame_of, wrong_message, known, fields_in}
use Rattle.frames.specs.Reader.{stated_length, version_in, kind_byte, end_of, field_at, checked, formed, kind_in, first_in, second_in, parsed, behind_start, behind_of}
use Rattle.frames.specs.Writer.{write_refusal, written_size, written_buffer}
use Rattle.frames.specs.declared.Message.{Message}
use Rattle.frames.specs.declared.Message.TheVariants.{ReadRequest, WriteRequest}

-- an input that 19 does not turn away: it has a length, which does not pass it, is long enough for a kind, and is the kind's own
pub record Whole (s : List ℕ) : Type 0 where
  pub stated : 2 ≤ length s
  pub within : end_of s ≤ length s
  pub kinded : 2 ≤ stated_length s
  pub own : known (kind_byte s) ≡ true → stated_length s ≡ 2 + 4 * fields_in (kind_byte s)

-- fields of 32 bits: what the enum holds
abbrev pub FieldsFit : (fields : List ℕ) → Type 0
FieldsFit [] = Unit {0}
FieldsFit (x ∷ fields) = (x < 2 ^ 32) × FieldsFit fields

-- an input is read as this message, and this is the part behind its frame
pub record ReadAs (s : List ℕ) (m : Message) (t : List ℕ) : Type 0 where
  pub message : parsed s ≡ Ok m
  pub behind : behind_of s ≡ t

-- the bytes that a caller takes for the frame: as many of the buffer's first as the writer says
abbrev pub frame_in : (buffer : List ℕ) (m : Message) → List ℕ
frame_in buffer m = take (written_size (length buffer) m) (written_buffer buffer m)

-- the writer: "returns the size; bytes behind .. are unchanged"
pub record Filled (buffer : List ℕ) (m : Message) : Type 0 where
  pub size : written_size (length buffer) m ≡ length (frame_of m)
  pub frame : frame_in buffer m ≡ frame_of m
  pub behind : drop (written_size (length buffer) m) (written_buffer buffer m) ≡ drop (written_size (length buffer) m) buffer
  pub room : length (written_buffer buffer m) ≡ length buffer

-- "a refused buffer [is] unchanged"
pub record Untouched (buffer : List ℕ) (m : Message) : Type 0 where
  pub size : written_size (length buffer) m ≡ 0
  pub kept : written_buffer buffer m ≡ buffer

-- the message m of an accepted input s, written: the bytes of its frame in the input
pub record WrittenAgain (buffer s : List ℕ) (m : Message) : Type 0 where
  pub accepted : write_refusal (length buffer) m ≡ 0
  pub size : written_size (length buffer) m ≡ behind_start s
  pub same : frame_in buffer m ≡ take (behind_start s) s

-- frames joined end to end
abbrev pub joined : (ms : List Message) → List ℕ
joined [] = []
joined (m ∷ ms) = frame_of m ++ joined ms

abbrev pub AllRight : (ms : List Message) → Type 0
AllRight [] = Unit {0}
AllRight (m ∷ ms) = (wrong_message m ≡ false) × AllRight ms

-- reading one frame after the other: s gives the messages ms, in order, and t is what is left
pub data Reads : (s : List ℕ) (ms : List Message) (t : List ℕ) → Type 0 where
  none : {s : List ℕ} → Reads s [] s
  next : {s t : List ℕ} {m : Message} {ms : List Message} → parsed s ≡ Ok m → Reads (behind_of s) ms t → Reads s (m ∷ ms) t

-- 21 of a message: "a rank .. of 0 in a request", whatever its revision (wish 7)
pub data Wrong : Message → Type 0 where
  read_of_0 : Wrong (ReadRequest 0)
  write_of_0 : {revision : ℕ} → Wrong (WriteRequest 0 revision)

-- Which number turns the writer back, for which cause, and that none before it applies: "The writer gives 21, then 18", and 0 where neither does.
pub data WriteTurned (room : ℕ) (m : Message) : ℕ → Type 0 where
  gives_21 : Wrong m → WriteTurned room m 21
  gives_18 : ¬ Wrong m → room < length (frame_of m) → WriteTurned room m 18
  accepts : ¬ Wrong m → length (frame_of m) ≤ room → WriteTurned room m 0

pub record FrameClaims : Type 0 where
  -- "two messages never share a frame", and no frame begins another: what stands behind is the same too
  pub apart : (m o : Message) → frame_of m ≡ frame_of o → m ≡ o
  pub begins : (m o : Message) (t u : List ℕ) → frame_of m ++ t ≡ frame_of o ++ u → (m ≡ o) × (t ≡ u)
  -- a frame has 4 bytes and 4 for each field, and fields of 32 bits make bytes
  pub size : (m : Message) → length (frame_of m) ≡ 4 + 4 * fields_in (kind_of m)
  pub bytes : (m : Message) → FieldsFit (fields_of m) → Bytes (frame_of m)
  -- which of the three numbers turns an input away; the cases exclude each other and leave none out
  pub gives_19 : (s : List ℕ) → ¬ Whole s → parsed s ≡ Err FrameLength
  pub gives_20 : (s : List ℕ) → Whole s → ¬ (version_in s ≡ 1) → parsed s ≡ Err FrameVersion
  pub gives_message : (s : List ℕ) → Whole s → version_in s ≡ 1 → parsed s ≡ formed (kind_byte s) (field_at s 4) (field_at s 8)
  -- 21 by kind and fields: an unknown kind, or a message that is turned away
  pub unknown : (kind first second : ℕ) → known kind ≡ false → formed kind first second ≡ Err refusal.Message
  pub known_means : (kind : ℕ) → known kind ≡ true → (1 ≤ kind) × (kind ≤ 6)
  pub wrong_means : (m : Message) → wrong_message m ≡ true → Wrong m
  pub wrong_holds : (m : Message) → Wrong m → wrong_message m ≡ true
  pub named : (m : Message) → formed (kind_of m) (first_of m) (second_of m) ≡ checked m
  pub zero : (m : Message) (t : List ℕ) → wrong_message m ≡ true → parsed (frame_of m ++ t) ≡ Err refusal.Message
  -- what is refused has no kind and no fields
  pub refused_blank : (r : Refusal) → (kind_in (Err r) ≡ 0) × (first_in (Err r) ≡ 0) × (second_in (Err r) ≡ 0)
  -- what is written reads back, with anything behind it, and hands back exactly that
  pub back : (m : Message) (t : List ℕ) → wrong_message m ≡ false → ReadAs (frame_of m ++ t) m t
  -- an accepted input is the frame of its message and the part behind it, and the message is one that the writer takes
  pub exactly : (s : List ℕ) (m : Message) → Bytes s → parsed s ≡ Ok m → s ≡ frame_of m ++ behind_of s
  pub right : (s : List ℕ) (m : Message) → parsed s ≡ Ok m → wrong_message m ≡ false
  -- a stream: frames joined end to end, read one after the other, give their messages in order; and what gave messages is their frames
  pub stream : (ms : List Message) (t : List ℕ) → AllRight ms → Reads (joined ms ++ t) ms t
  pub streamed : (s : List ℕ) (ms : List Message) (t : List ℕ) → Bytes s → Reads s ms t → s ≡ joined ms ++ t
  -- the writer: written exactly where neither 21 nor 18 applies
  pub writable : (room : ℕ) (m : Message) → write_refusal room m ≡ 0 → (wrong_message m ≡ false) × (length (frame_of m) ≤ room)
  pub writes : (room : ℕ) (m : Message) → wrong_message m ≡ false → length (frame_of m) ≤ room → write_refusal room m ≡ 0
  pub turned : (room : ℕ) (m : Message) → WriteTurned room m (write_refusal room m)
  pub filled : (buffer : List ℕ) (m : Message) → write_refusal (length buffer) m ≡ 0 → Filled buffer m
  pub untouched : (buffer : List ℕ) (m : Message) → ¬ (write_refusal (length buffer) m ≡ 0) → Untouched buffer m
  pub written_back : (buffer : List ℕ) (m : Message) (t : List ℕ) → write_refusal (length buffer) m ≡ 0 → ReadAs (frame_in buffer m ++ t) m t
  -- what the reader accepts, written again, is the same bytes; 18 where the buffer is shorter than they are
  pub again : (s buffer : List ℕ) (m : Message) → Bytes s → parsed s ≡ Ok m → behind_start s ≤ length buffer → WrittenAgain buffer s m
  pub short : (s buffer : List ℕ) (m : Message) → Bytes s → parsed s ≡ Ok m → length buffer < behind_start s → write_refusal (length buffer) m ≡ 18
