-- Document 02, wish 3: the reader of frames. It reads the frame at the start of an input of any bytes, s, and hands back what stands behind.
use Rattle.std.specs.Prelude.{ℕ, ◌+◌, ◌*◌, Bool, true, false, not, List, [], eqb, leb, ltb, length, get_or, drop, Result, Ok, Err}
use Rattle.base.specs.Choice.{when◌then◌else◌}
use Rattle.base.specs.Bytes.{word16, word_at}
use Rattle.base.specs.Refusals.{number_in}
use Rattle.base.specs.declared.Refusal.{Refusal}
use Rattle.base.specs.declared.Refusal.TheVariants.{FrameLength, FrameVersion}
use Rattle.base.specs.declared.Refusal.TheVariants as refusal
use Rattle.frames.specs.Messages.{kind_of, first_of, second_of, wrong_message, known, fields_in, kind_numbered, message_with}
use Rattle.frames.specs.declared.Message.{Message}
use Rattle.frames.specs.declared.Kind.{Kind}

-- "a 2-byte length of the rest, version byte 1, a kind byte". A byte past the end reads 0.
abbrev pub stated_length : (s : List ℕ) → ℕ
stated_length s = word16 (get_or s 0 0) (get_or s 1 0)

abbrev pub version_in : (s : List ℕ) → ℕ
version_in s = get_or s 2 0

abbrev pub kind_byte : (s : List ℕ) → ℕ
kind_byte s = get_or s 3 0

-- where the frame ends: behind its length and the rest
abbrev pub end_of : (s : List ℕ) → ℕ
end_of s = 2 + stated_length s

-- a field, the number whose 4 bytes stand from a place on; past the input 0, where no field of a whole frame stands
unfoldable pub field_at : (s : List ℕ) (at : ℕ) → ℕ
field_at s at = when leb (at + 4) (length s) then word_at s at else 0

-- a length that is "not the kind's": not that of version, kind and the kind's fields. Of "an unknown kind .. any length of 2 or more within the
-- input is right".
unfoldable pub wrong_for : (kind stated : ℕ) → Bool
wrong_for kind stated = when known kind then not (eqb stated (2 + 4 * fields_in kind)) else false

-- "19 for a length missing, not the kind's or past the input, or a frame too short for a kind"
unfoldable pub wrong_length : (s : List ℕ) → Bool
wrong_length s =
    when ltb (length s) 2 then true
    else when ltb (length s) (end_of s) then true
    else when ltb (stated_length s) 2 then true
    else wrong_for (kind_byte s) (stated_length s)

-- "then 20 for another version"
unfoldable pub wrong_version : (s : List ℕ) → Bool
wrong_version s = not (eqb (version_in s) 1)

-- the message, if it is not one that is turned away: "then 21 for .. a rank .. of 0 in a request"
unfoldable pub checked : (m : Message) → Result Message Refusal
checked m = when wrong_message m then Err refusal.Message else Ok m

-- the message of a kind, given by its number, with these fields; a field that the kind does not have is not looked at. "then 21 for an
-- unknown kind".
abbrev pub formed_by : (first second : ℕ) (kind : Result Kind Refusal) → Result Message Refusal
formed_by first second (Ok kind) = checked (message_with kind first second)
formed_by first second (Err r) = Err r

abbrev pub formed : (kind first second : ℕ) → Result Message Refusal
formed kind first second = formed_by first second (kind_numbered kind)

-- the answer in numbers: the kind and its fields, 0 where there are none
abbrev pub kind_in : (p : Result Message Refusal) → ℕ
kind_in (Err r) = 0
kind_in (Ok m) = kind_of m

abbrev pub first_in : (p : Result Message Refusal) → ℕ
first_in (Err r) = 0
first_in (Ok m) = first_of m

abbrev pub second_in : (p : Result Message Refusal) → ℕ
second_in (Err r) = 0
second_in (Ok m) = second_of m

-- "Turned away: 19 ..; then 20 ..; then 21"; otherwise the message
unfoldable pub parsed : (s : List ℕ) → Result Message Refusal
parsed s =
    when wrong_length s then Err FrameLength
    else when wrong_version s then Err FrameVersion
    else formed (kind_byte s) (field_at s 4) (field_at s 8)

-- the number that an input is turned away with, 0 where it is not
abbrev pub frame_refusal : (s : List ℕ) → ℕ
frame_refusal s = number_in (parsed s)

-- "The reader hands back the part behind the frame, empty when refused": at which byte of the input it starts, and its bytes. The empty
-- part of a refused input lies at its start.
unfoldable pub behind_start : (s : List ℕ) → ℕ
behind_start s = when eqb (frame_refusal s) 0 then end_of s else 0

unfoldable pub behind_of : (s : List ℕ) → List ℕ
behind_of s = when eqb (frame_refusal s) 0 then drop (end_of s) s else []
