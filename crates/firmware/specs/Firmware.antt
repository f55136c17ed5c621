-- Document 01, "The box routine (Figure 3)", and wish 2 of document 02, as box firmware in C calls it, with refusals 16 and 17 of "Turned
-- back, in checking order".
use Rattle.std.specs.Prelude.{ℕ, not, ◌||◌, List, ◌++◌, eqb, length, replicate}
use Rattle.suits.specs.Suits.{single}
use Rattle.base.specs.Choice.{when◌then◌else◌}
use Rattle.base.specs.Bytes.{bytes32, word_at}
use Rattle.register.specs.Register.{number_in, rank_in, value_in, rmw_read, rmw_write}
use Rattle.register.specs.declared.Register.{Register}

-- "a record of 12 bytes: read rank, write rank, value, each big-endian"
unfoldable pub encode : (x : Register) → List ℕ
encode x = bytes32 x.read ++ (bytes32 x.write ++ bytes32 x.value.r0)

-- "Any record contents are accepted": the register that a record's bytes give, whatever they are
unfoldable pub decode : (s : List ℕ) → Register
decode s = record { read = word_at s 0; write = word_at s 4; value = single (word_at s 8) }

-- "an 8-byte reply with write rank and value"
unfoldable pub reply_of : (rank value : ℕ) → List ℕ
reply_of rank value = bytes32 rank ++ bytes32 value

-- "A read fills an 8-byte reply .. and returns 0", and wish 2: outranked "from C it returns 100", of record s with rank r and reply p. Before
-- that "16. A box call whose record is not 12 bytes or whose reply is not 8", then "17. A box call with rank 0".
unfoldable pub read_answer : (s : List ℕ) (r : ℕ) (p : List ℕ) → ℕ
read_answer s r p =
    when not (eqb (length s) 12) || not (eqb (length p) 8) then 16
    else when eqb r 0 then 17
    else number_in (rmw_read (decode s) r).answer

-- "A write returns 0 for taken and 100 for not taken", of record s with rank r and revision v. Before that 16 (a write has no reply), then
-- "17. A box call with rank 0"; wish 7: it "stop[s] looking at the revision".
unfoldable pub write_answer : (s : List ℕ) (r v : ℕ) → ℕ
write_answer s r v =
    when not (eqb (length s) 12) then 16
    else when eqb r 0 then 17
    else when (rmw_write (decode s) r (single v)).taken then 0
    else 100

-- The record and the reply after a call. "Floor, record and reply stay unchanged" where it was refused; a read that is outranked and a
-- write that is not taken change no record: only after answer 0 the record is that of the register after the routine.
unfoldable pub record_after_read : (s : List ℕ) (r : ℕ) (p : List ℕ) → List ℕ
record_after_read s r p = when eqb (read_answer s r p) 0 then encode (rmw_read (decode s) r).register else s

-- outranked it "zeroes the reply"
unfoldable pub reply_after_read : (s : List ℕ) (r : ℕ) (p : List ℕ) → List ℕ
reply_after_read s r p =
    when eqb (read_answer s r p) 0 then reply_of (rank_in (rmw_read (decode s) r).answer) (value_in (rmw_read (decode s) r).answer).r0
    else when eqb (read_answer s r p) 100 then replicate 8 0
    else p

unfoldable pub record_after_write : (s : List ℕ) (r v : ℕ) → List ℕ
record_after_write s r v = when eqb (write_answer s r v) 0 then encode (rmw_write (decode s) r (single v)).register else s
