-- What is claimed of the calls for C. The proofs are `firmware_claims` and `serve_claims` in proofs/Claims.
use Rattle.std.specs.Prelude.{ℕ, ◌+◌, ◌*◌, ◌≤◌, ◌<◌, ◌^◌, ◌≡◌, ◌⊎◌, true, false, List, eqb, ltb, length, drop, replicate, Ok, Err}
use Rattle.suits.specs.Suits.{single}
use Rattle.base.specs.Refusals.{number}
use Rattle.base.specs.declared.Refusal.{Refusal}
use Rattle.base.specs.Bytes.{Bytes, word_at}
use Rattle.base.specs.Choice.{when◌then◌else◌}
use Rattle.register.specs.Register.{is_held, rank_in, value_in, rmw_read, rmw_write}
use Rattle.register.specs.declared.Register.{Register}
use Rattle.frames.specs.Claims.{ReadAs}
use Rattle.frames.specs.Messages.{kind_of, frame_of, fields_in}
use Rattle.frames.specs.Reader.{parsed, formed}
use Rattle.frames.specs.declared.Message.{Message}
use Rattle.frames.specs.declared.Message.TheVariants.{ReadRequest, WriteRequest, ReadAnswer, Outranked, Taken, NotTaken}
use Rattle.firmware.specs.Firmware.{decode, encode, reply_of, read_answer, record_after_read, reply_after_read, write_answer, record_after_write}
use Rattle.firmware.specs.Serve.{answer_to_read, answer_to_write, serve_answer, record_after_serve, buffer_after_serve, size_after_serve}
use Rattle.firmware.specs.Wire.{refusal_for}

-- a register of 32-bit numbers: what the struct holds
pub record Fits32 (x : Register) : Type 0 where
  pub read : x.read < 2 ^ 32
  pub write : x.write < 2 ^ 32
  pub value : x.value.r0 < 2 ^ 32

pub record FirmwareClaims : Type 0 where
  -- a register's 12 bytes give it back, and 12 bytes are those of the register that they give
  pub decodes : (x : Register) → decode (encode x) ≡ x
  pub twelve : (x : Register) → length (encode x) ≡ 12
  pub encodes : (s : List ℕ) → Bytes s → length s ≡ 12 → encode (decode s) ≡ s
  pub fits : (s : List ℕ) → Bytes s → Fits32 (decode s)
  pub reply : (rank value : ℕ) → (word_at (reply_of rank value) 0 ≡ rank) × (word_at (reply_of rank value) 4 ≡ value)
  -- the answers of a read of record s with rank r and reply p
  pub read_16 : (s : List ℕ) (r : ℕ) (p : List ℕ) → (length s ≡ 12 → ⊥) ⊎ (length p ≡ 8 → ⊥) → 16 ≡ read_answer s r p
  pub read_17 : (s : List ℕ) (r : ℕ) (p : List ℕ) → length s ≡ 12 → length p ≡ 8 → r ≡ 0 → 17 ≡ read_answer s r p
  pub read_0 : (s : List ℕ) (r : ℕ) (p : List ℕ) → length s ≡ 12 → length p ≡ 8 → (r ≡ 0 → ⊥) → is_held (rmw_read (decode s) r).answer ≡ true → 0 ≡ read_answer s r p
  pub read_100 : (s : List ℕ) (r : ℕ) (p : List ℕ) → length s ≡ 12 → length p ≡ 8 → (r ≡ 0 → ⊥) → is_held (rmw_read (decode s) r).answer ≡ false → 100 ≡ read_answer s r p
  -- it does to the record what the routine by value does to the register, outranked or not
  pub read_routine : (s : List ℕ) (r : ℕ) (p : List ℕ) → length s ≡ 12 → length p ≡ 8 → (r ≡ 0 → ⊥) → decode (record_after_read s r p) ≡ (rmw_read (decode s) r).register
  -- and the reply has the answer's rank and value; outranked all 8 bytes are 0
  pub read_reply : (s : List ℕ) (r : ℕ) (p : List ℕ) → length s ≡ 12 → length p ≡ 8 → (r ≡ 0 → ⊥)
      → reply_of (rank_in (rmw_read (decode s) r).answer) (value_in (rmw_read (decode s) r).answer).r0 ≡ reply_after_read s r p
  pub read_zeroed : (s : List ℕ) (r : ℕ) (p : List ℕ) → 100 ≡ read_answer s r p → replicate 8 0 ≡ reply_after_read s r p
  -- the same of a write of any revision v
  pub write_16 : (s : List ℕ) (r v : ℕ) → (length s ≡ 12 → ⊥) → 16 ≡ write_answer s r v
  pub write_17 : (s : List ℕ) (r v : ℕ) → length s ≡ 12 → r ≡ 0 → 17 ≡ write_answer s r v
  pub write_0 : (s : List ℕ) (r v : ℕ) → length s ≡ 12 → (r ≡ 0 → ⊥) → (rmw_write (decode s) r (single v)).taken ≡ true → 0 ≡ write_answer s r v
  pub write_100 : (s : List ℕ) (r v : ℕ) → length s ≡ 12 → (r ≡ 0 → ⊥) → (rmw_write (decode s) r (single v)).taken ≡ false → 100 ≡ write_answer s r v
  pub write_routine : (s : List ℕ) (r v : ℕ) → length s ≡ 12 → (r ≡ 0 → ⊥)
      → decode (record_after_write s r v) ≡ (rmw_write (decode s) r (single v)).register
  -- record and reply stay lists of bytes
  pub read_bytes : (s : List ℕ) (r : ℕ) (p : List ℕ) → Bytes s → r < 2 ^ 32 → Bytes (record_after_read s r p)
  pub reply_bytes : (s : List ℕ) (r : ℕ) (p : List ℕ) → Bytes s → Bytes p → Bytes (reply_after_read s r p)
  pub write_bytes : (s : List ℕ) (r v : ℕ) → Bytes s → r < 2 ^ 32 → v < 2 ^ 32 → Bytes (record_after_write s r v)

-- ---- Frames for C and serving

-- a request is one of the kinds 1 and 2
abbrev pub IsRequest : (m : Message) → Type 0
IsRequest m = kind_of m ≤ 2

-- a kind's number and a first field of which the writer makes a frame: one of the six kinds, and no request with rank 0
pub record Sendable (kind first : ℕ) : Type 0 where
  pub known : (1 ≤ kind) × (kind ≤ 6)
  pub ranked : ¬ ((kind ≤ 2) × (first ≡ 0))

-- Which number turns `frame_write` back, for which cause, and that none before it applies: 21, then 18, and 0 where neither does.
pub data FrameTurned (room kind first : ℕ) : ℕ → Type 0 where
  gives_21 : ¬ Sendable kind first → FrameTurned room kind first 21
  gives_18 : Sendable kind first → room < 4 + 4 * fields_in kind → FrameTurned room kind first 18
  accepts : Sendable kind first → 4 + 4 * fields_in kind ≤ room → FrameTurned room kind first 0

-- a request that is turned away, one whose answer has no room too, leaves record and buffer as they were
pub record Kept (s input buffer : List ℕ) : Type 0 where
  pub record_kept : record_after_serve s input (length buffer) ≡ s
  pub buffer_kept : buffer_after_serve s input buffer ≡ buffer
  pub no_size : size_after_serve s input (length buffer) ≡ 0

-- what a request that was served leaves: the register after the routine in the record; in the buffer a frame that is read as the answer, and
-- behind it what stood there
pub record Answered (s input buffer : List ℕ) (after : Register) (answer : Message) : Type 0 where
  pub leaves : record_after_serve s input (length buffer) ≡ encode after
  pub size : size_after_serve s input (length buffer) ≡ length (frame_of answer)
  pub frame : ReadAs (buffer_after_serve s input buffer) answer (drop (length (frame_of answer)) buffer)

-- the answer of a box call as a message: of a read, what `box_read` returns and its reply; of a write, what `box_write` returns
abbrev pub replied : (answer : ℕ) (reply : List ℕ) → Message
replied answer reply = when eqb answer 0 then ReadAnswer (word_at reply 0) (word_at reply 4) else Outranked

abbrev pub noted : (answer : ℕ) → Message
noted answer = when eqb answer 0 then Taken else NotTaken

pub record ServeClaims : Type 0 where
  -- the writer of frames
  pub frame_turned : (room kind first second : ℕ) → FrameTurned room kind first (refusal_for room (formed kind first second))
  -- which number turns a request away: the reader's; 21 where the message is no request; 16; 18. The cases exclude each other and leave none out
  pub unread : (s input : List ℕ) (room : ℕ) (r : Refusal) → parsed input ≡ Err r → serve_answer s input room ≡ number r
  pub no_request : (s input : List ℕ) (room : ℕ) (m : Message) → parsed input ≡ Ok m → ¬ IsRequest m → serve_answer s input room ≡ 21
  pub serve_16 : (s input : List ℕ) (room : ℕ) (m : Message) → parsed input ≡ Ok m → IsRequest m → ¬ (length s ≡ 12) → serve_answer s input room ≡ 16
  pub read_room : (s input : List ℕ) (room r : ℕ) → parsed input ≡ Ok (ReadRequest r) → length s ≡ 12
      → serve_answer s input room ≡ (when ltb room (length (frame_of (answer_to_read (rmw_read (decode s) r)))) then 18 else 0)
  pub write_room : (s input : List ℕ) (room r v : ℕ) → parsed input ≡ Ok (WriteRequest r v) → length s ≡ 12
      → serve_answer s input room ≡ (when ltb room (length (frame_of (answer_to_write (rmw_write (decode s) r (single v))))) then 18 else 0)
  -- turned away, nothing is changed
  pub kept : (s input buffer : List ℕ) → ¬ (serve_answer s input (length buffer) ≡ 0) → Kept s input buffer
  -- served, it is the box routine's doing
  pub read : (s input buffer : List ℕ) (r : ℕ) → parsed input ≡ Ok (ReadRequest r) → serve_answer s input (length buffer) ≡ 0
      → Answered s input buffer (rmw_read (decode s) r).register (answer_to_read (rmw_read (decode s) r))
  pub write : (s input buffer : List ℕ) (r v : ℕ) → parsed input ≡ Ok (WriteRequest r v) → serve_answer s input (length buffer) ≡ 0
      → Answered s input buffer (rmw_write (decode s) r (single v)).register (answer_to_write (rmw_write (decode s) r (single v)))
  -- which is that of the box calls
  pub as_read : (s : List ℕ) (r : ℕ) (p : List ℕ) → Bytes s → length s ≡ 12 → length p ≡ 8 → ¬ (r ≡ 0)
      → (encode (rmw_read (decode s) r).register ≡ record_after_read s r p) × (answer_to_read (rmw_read (decode s) r) ≡ replied (read_answer s r p) (reply_after_read s r p))
  pub as_write : (s : List ℕ) (r v : ℕ) → Bytes s → length s ≡ 12 → ¬ (r ≡ 0)
      → (encode (rmw_write (decode s) r (single v)).register ≡ record_after_write s r v) × (answer_to_write (rmw_write (decode s) r (single v)) ≡ noted (write_answer s r v))
