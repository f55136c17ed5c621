-- Document 02, wish 3, "Frames on the wire": the messages between stations and boxes, and the frame of each.
use Rattle.std.specs.Prelude.{ℕ, Bool, false, List, [], ◌∷◌, ◌++◌, eqb, leb, ltb, length, get_or, Result, Ok, Err}
use Rattle.base.specs.Choice.{when◌then◌else◌}
use Rattle.base.specs.Bytes.{bytes16, bytes32}
use Rattle.base.specs.declared.Refusal.{Refusal}
use Rattle.base.specs.declared.Refusal.TheVariants as refusal
use Rattle.frames.specs.declared.Kind.{Kind}
use Rattle.frames.specs.declared.Kind.TheVariants as kinds
use Rattle.frames.specs.declared.Message.{Message}
use Rattle.frames.specs.declared.Message.TheVariants.{ReadRequest, WriteRequest, ReadAnswer, Outranked, Taken, NotTaken}

-- "Kinds: 1 read request (rank), 2 write request (rank, revision), 3 read answer (write rank, value); without fields 4 outranked, 5 taken, 6
-- not taken."
abbrev pub kind_of : (m : Message) → ℕ
kind_of (ReadRequest rank) = 1
kind_of (WriteRequest rank revision) = 2
kind_of (ReadAnswer rank value) = 3
kind_of Outranked = 4
kind_of Taken = 5
kind_of NotTaken = 6

abbrev pub fields_of : (m : Message) → List ℕ
fields_of (ReadRequest rank) = rank ∷ []
fields_of (WriteRequest rank revision) = rank ∷ revision ∷ []
fields_of (ReadAnswer rank value) = rank ∷ value ∷ []
fields_of Outranked = []
fields_of Taken = []
fields_of NotTaken = []

-- its first and its second field, 0 where it has none
abbrev pub first_of : (m : Message) → ℕ
first_of m = get_or (fields_of m) 0 0

abbrev pub second_of : (m : Message) → ℕ
second_of m = get_or (fields_of m) 1 0

-- "4-byte fields, all big-endian"
abbrev pub spelt : (fields : List ℕ) → List ℕ
spelt [] = []
spelt (x ∷ fields) = bytes32 x ++ spelt fields

-- "version byte 1, a kind byte and 4-byte fields": what a frame has behind its length
unfoldable pub body_of : (m : Message) → List ℕ
body_of m = 1 ∷ kind_of m ∷ spelt (fields_of m)

-- "A frame is a 2-byte length of the rest", and that rest
unfoldable pub frame_of : (m : Message) → List ℕ
frame_of m = bytes16 (length (body_of m)) ++ body_of m

-- 21: "a rank .. of 0 in a request". Wish 7: it "stop[s] looking at the revision". A read answer may hold zeros.
abbrev pub wrong_message : (m : Message) → Bool
wrong_message (ReadRequest rank) = eqb rank 0
wrong_message (WriteRequest rank revision) = eqb rank 0
wrong_message (ReadAnswer rank value) = false
wrong_message Outranked = false
wrong_message Taken = false
wrong_message NotTaken = false

-- the kinds by their numbers: 1 to 6, and how many fields each has
unfoldable pub known : (kind : ℕ) → Bool
known kind = when ltb kind 1 then false else leb kind 6

unfoldable pub fields_in : (kind : ℕ) → ℕ
fields_in kind =
    when eqb kind 1 then 1
    else when eqb kind 2 then 2
    else when eqb kind 3 then 2
    else 0

-- the kinds by name, and each by its number
abbrev pub number_of : (kind : Kind) → ℕ
number_of kinds.ReadRequest = 1
number_of kinds.WriteRequest = 2
number_of kinds.ReadAnswer = 3
number_of kinds.Outranked = 4
number_of kinds.Taken = 5
number_of kinds.NotTaken = 6

-- 21: "an unknown kind"
unfoldable pub kind_numbered : (number : ℕ) → Result Kind Refusal
kind_numbered number =
    when eqb number 1 then Ok kinds.ReadRequest
    else when eqb number 2 then Ok kinds.WriteRequest
    else when eqb number 3 then Ok kinds.ReadAnswer
    else when eqb number 4 then Ok kinds.Outranked
    else when eqb number 5 then Ok kinds.Taken
    else when eqb number 6 then Ok kinds.NotTaken
    else Err refusal.Message

-- the message of a kind with these fields; a field that the kind does not have is not looked at
abbrev pub message_with : (kind : Kind) (first second : ℕ) → Message
message_with kinds.ReadRequest first second = ReadRequest first
message_with kinds.WriteRequest first second = WriteRequest first second
message_with kinds.ReadAnswer first second = ReadAnswer first second
message_with kinds.Outranked first second = Outranked
message_with kinds.Taken first second = Taken
message_with kinds.NotTaken first second = NotTaken
