-- Document 01, "Steps" and "The drill file": a step as it is asked for, and its 8-byte record.
use Rattle.std.specs.Prelude.{ℕ, List, [], ◌∷◌, ◌++◌, Bool, get_or, drop, replicate, eqb}
use Rattle.std.specs.List.{list_all}
use Rattle.base.specs.Choice.{when◌then◌else◌}
use Rattle.base.specs.Bytes.{word16, word32, bytes16, bytes32}
use Rattle.suits.specs.Suits.{single}
use Rattle.requests.specs.Requests.{of_phase}
use Rattle.requests.specs.declared.Phase.TheVariants.{Read, Write}
use Rattle.commands.specs.declared.Command.{Command}
use Rattle.commands.specs.declared.Command.TheVariants.{Begin, Serve, Deliver, Stop, Leave, Return, Malformed}

-- all bytes are 0
unfoldable pub all_zero : (bytes : List ℕ) → Bool
all_zero bytes = list_all (λ x. eqb x 0) bytes

-- the command c, of a record whose bytes behind its fields are `spare`; 7: "or a byte that should be zero is not"
unfoldable pub spared : (spare : List ℕ) (c : Command) → Command
spared spare c = when all_zero spare then c else Malformed

-- "Record: kind (1 to 7 as above). Begin: station, round (2 bytes), revision (4). Kinds 2 to 5: attempt, box, five zero bytes.
-- Stop: box, six zero bytes. Gone: station, six zero bytes." The kinds: "1 Begin", "2, 3 Serve a read (2) or a write (3)",
-- "4, 5 Deliver a read answer (4) or a write answer (5)", "6 Stop", "7 Gone". Wish 8 of document 02: "Kind 8 puts a box away and kind 9
-- brings it back, both laid out .. as kind 6", and "Kind 6 is read as kind 8". `Malformed` is refusal 7: the kind is not 1 to 9 (wish 8:
-- "Refusals 7 and 13 read accordingly"), "or a byte that should be zero is not."
unfoldable pub command_of : (r : List ℕ) → Command
command_of r =
    when eqb (get_or r 0 0) 1 then
    Begin (get_or r 1 0) (word16 (get_or r 2 0) (get_or r 3 0)) (single (word32 (get_or r 4 0) (get_or r 5 0) (get_or r 6 0) (get_or r 7 0)))
    else when eqb (get_or r 0 0) 2 then spared (drop 3 r) (Serve Read (get_or r 1 0) (get_or r 2 0))
    else when eqb (get_or r 0 0) 3 then spared (drop 3 r) (Serve Write (get_or r 1 0) (get_or r 2 0))
    else when eqb (get_or r 0 0) 4 then spared (drop 3 r) (Deliver Read (get_or r 1 0) (get_or r 2 0))
    else when eqb (get_or r 0 0) 5 then spared (drop 3 r) (Deliver Write (get_or r 1 0) (get_or r 2 0))
    else when eqb (get_or r 0 0) 6 then spared (drop 2 r) (Stop (get_or r 1 0))
    else when eqb (get_or r 0 0) 7 then spared (drop 2 r) (Leave (get_or r 1 0))
    else when eqb (get_or r 0 0) 8 then spared (drop 2 r) (Stop (get_or r 1 0))
    else when eqb (get_or r 0 0) 9 then spared (drop 2 r) (Return (get_or r 1 0))
    else Malformed

-- the record of a command, in the same layout, a stop's of kind 8, which the writer of files passes; that of `Malformed` is of kind 0
abbrev pub encode_of : (c : Command) → List ℕ
encode_of (Begin s round v) = 1 ∷ s ∷ (bytes16 round ++ bytes32 v.r0)
encode_of (Serve p a b) = of_phase p 2 3 ∷ a ∷ b ∷ 0 ∷ 0 ∷ 0 ∷ 0 ∷ 0 ∷ []
encode_of (Deliver p a b) = of_phase p 4 5 ∷ a ∷ b ∷ 0 ∷ 0 ∷ 0 ∷ 0 ∷ 0 ∷ []
encode_of (Stop b) = 8 ∷ b ∷ 0 ∷ 0 ∷ 0 ∷ 0 ∷ 0 ∷ 0 ∷ []
encode_of (Leave s) = 7 ∷ s ∷ 0 ∷ 0 ∷ 0 ∷ 0 ∷ 0 ∷ 0 ∷ []
encode_of (Return b) = 9 ∷ b ∷ 0 ∷ 0 ∷ 0 ∷ 0 ∷ 0 ∷ 0 ∷ []
encode_of Malformed = replicate 8 0
