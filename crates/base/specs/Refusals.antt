-- Document 01, "Turned back, in checking order": the number of each refusal; those above 15 are document 02's.
use Rattle.std.specs.Prelude.{ℕ, ◌-◌, List, [], ◌∷◌, get_or, Option, Some, None, Result, Ok, Err}
use Rattle.base.specs.declared.Refusal.{Refusal}
use Rattle.base.specs.declared.Refusal.TheVariants.{FileSize, Version, Sizes, Label, Records, Unsound, Kind, Unknown, Gone, Busy, Round, NoRow, Away, NotDue, TooFew, Length, RankZero, Room, FrameLength, FrameVersion, Message, Departments, NotAway}

abbrev pub number : (r : Refusal) → ℕ
number FileSize = 1
number Version = 2
number Sizes = 3
number Label = 4
number Records = 5
number Unsound = 6
number Kind = 7
number Unknown = 8
number Gone = 9
number Busy = 10
number Round = 11
number NoRow = 12
number Away = 13
number NotDue = 14
number TooFew = 15
number Length = 16
number RankZero = 17
number Room = 18
number FrameLength = 19
number FrameVersion = 20
number Message = 21
number Departments = 22
number NotAway = 23

-- all of them, by their numbers from 1 on, and the one with a number; what it is of a number that none has says nothing
abbrev pub refusals : List Refusal
refusals =
    FileSize ∷ Version ∷ Sizes ∷ Label ∷ Records ∷ Unsound ∷ Kind ∷ Unknown ∷ Gone ∷ Busy ∷ Round ∷ NoRow ∷ Away ∷ NotDue ∷ TooFew ∷ Length ∷ RankZero ∷ Room ∷ FrameLength ∷ FrameVersion ∷ Message ∷ Departments ∷ NotAway ∷ []

abbrev pub named : (k : ℕ) → Refusal
named k = get_or refusals (k - 1) Unsound

-- "A refusal gives its number", 0 where nothing is refused
abbrev pub number_if : (r : Option Refusal) → ℕ
number_if None = 0
number_if (Some r) = number r

abbrev pub number_in : {A : Type 0} → (x : Result A Refusal) → ℕ
number_in (Ok a) = 0
number_in (Err r) = number r

-- what a writer says of a size: that of what was written, 0 where it was refused
abbrev pub size_in : (x : Result ℕ Refusal) → ℕ
size_in (Ok size) = size
size_in (Err r) = 0
