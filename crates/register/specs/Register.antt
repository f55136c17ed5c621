-- Document 01, "The box routine (Figure 3)", and wish 2 of document 02: one ranked register, its read and its write; and the box that
-- keeps one for each department (wish 6).
use Rattle.std.specs.Prelude.{ℕ, max, Bool, true, false, eqb, leb, ltb, Option, Some, None, is_some, unwrap_or}
use Rattle.base.specs.Choice.{when◌then◌else◌}
use Rattle.suits.specs.Suits.{suit0}
use Rattle.suits.specs.declared.Suit.{Suit}
use Rattle.register.specs.declared.Department.{Department}
use Rattle.register.specs.declared.Department.TheVariants.{Sails, Canvas}
use Rattle.register.specs.declared.ByDepartment.{ByDepartment}
use Rattle.register.specs.declared.Register.{Register}
use Rattle.register.specs.declared.StorageBox.{StorageBox}
use Rattle.register.specs.declared.Answer.{Answer}
use Rattle.register.specs.declared.ReadDone.{ReadDone}
use Rattle.register.specs.declared.WriteDone.{WriteDone}

-- of two things, the one that belongs to the department
abbrev pub of_department : {A : Type 0} (department : Department) (sails canvas : A) → A
of_department Sails sails canvas = sails
of_department Canvas sails canvas = canvas

-- what both have, with that of the department replaced: that of the other stays
abbrev pub departments_with : {A : Type 0} (department : Department) (x : A) (both : ByDepartment A) → ByDepartment A
departments_with department x both =
    record { sails = of_department department x both.sails; canvas = of_department department both.canvas x }

-- whether two departments are the same
abbrev pub is_of : (department other : Department) → Bool
is_of Sails Sails = true
is_of Sails Canvas = false
is_of Canvas Sails = false
is_of Canvas Canvas = true

-- "A box keeps a read rank, a write rank and a value, 32 bits each, all 0 at first, and whether it has stopped." Wish 6 of document 02:
-- "Each box keeps one record a department"; wish 8: whether it is away. It is also what a read past the end of an array gives by the
-- language's own rule.
abbrev pub register0 : Register
register0 = record { read = 0; write = 0; value = suit0 }

abbrev pub box0 : StorageBox
box0 = record { registers = record { sails = register0; canvas = register0 }; away = false }

-- the record of the department
abbrev pub register_of : (department : Department) (x : StorageBox) → Register
register_of department x = of_department department x.registers.sails x.registers.canvas

-- the box x with the record of the department and whether it is away replaced: the record of the other stays
abbrev pub box_with : (department : Department) (x : StorageBox) (register : Register) (away : Bool) → StorageBox
box_with department x register away =
    record { registers = departments_with department register x.registers; away = away }

-- Wish 2: "A box with a read or write rank above r". Equal ranks are not above.
unfoldable pub outranks : (x : Register) (rank : ℕ) → Bool
outranks x rank = when ltb rank x.read then true else ltb rank x.write

-- "Read with rank r: the read rank becomes the larger of itself and r. The answer is the write rank and the value." (rmw-read) Wish 2: "A
-- box with a read or write rank above r answers a read "outranked" and changes nothing".
unfoldable pub rmw_read : (x : Register) (rank : ℕ) → ReadDone
rmw_read x rank =
    when outranks x rank then record { register = x; answer = None }
    else record { register = record { read = max x.read rank; write = x.write; value = x.value }; answer = Some (record { rank = x.write; value = x.value }) }

abbrev pub is_held : (answer : Option Answer) → Bool
is_held answer = is_some answer

-- A read's answer in numbers: what it "returns" from C, and the write rank and the value of the reply. Wish 2: outranked "it returns 100 and
-- zeroes the reply". An answer of zeros is also what a read past the end of an array gives by the language's own rule.
abbrev pub number_in : (answer : Option Answer) → ℕ
number_in (Some a) = 0
number_in None = 100

abbrev pub answer0 : Answer
answer0 = record { rank = 0; value = suit0 }

abbrev pub rank_in : (answer : Option Answer) → ℕ
rank_in answer = (unwrap_or answer answer0).rank

abbrev pub value_in : (answer : Option Answer) → Suit
value_in answer = (unwrap_or answer answer0).value

-- "if read rank ≤ r and write rank < r"
unfoldable pub takes : (x : Register) (rank : ℕ) → Bool
takes x rank = when leb x.read rank then ltb x.write rank else false

-- "Write with rank r, revision v: if read rank ≤ r and write rank < r, the write rank becomes r, the value v, and the answer is
-- "taken". Otherwise nothing changes and the answer is "not taken". A write never changes the read rank." (rmw-write)
unfoldable pub rmw_write : (x : Register) (rank : ℕ) (revision : Suit) → WriteDone
rmw_write x rank revision =
    when takes x rank then record { register = record { read = x.read; write = rank; value = revision }; taken = true }
    else record { register = x; taken = false }

-- Wish 7: "A box holds nothing exactly while its write rank is 0", whatever its value: the paper's undefined value. The one place that says
-- so, of a box or of its answer, by the write rank.
abbrev pub holds_nothing : (rank : ℕ) → Bool
holds_nothing rank = eqb rank 0
