-- Document 01, "Solo finish": the round that it picks, the boxes that it asks, and the list of its steps.
use Rattle.std.specs.Prelude.{ℕ, zero, suc, ◌+◌, List, [], ◌∷◌, ◌++◌, get_or, take}
use Rattle.suits.specs.declared.Suit.{Suit}
use Rattle.base.specs.Choice.{when◌then◌else◌}
use Rattle.base.specs.Numbers.{quorum}
use Rattle.register.specs.Register.{box0}
use Rattle.register.specs.declared.StorageBox.{StorageBox}
use Rattle.requests.specs.declared.Phase.TheVariants.{Read, Write}
use Rattle.commands.specs.Commands.{encode_of}
use Rattle.commands.specs.declared.Command.TheVariants.{Begin}
use Rattle.plans.specs.Plans.{round_above, exchanges}
use Rattle.floor.specs.Floors.{department_at, highest_of}
use Rattle.floor.specs.Effects.{row_taken}
use Rattle.floor.specs.declared.Floor.{Floor}

-- "every rank begun on the floor": the highest of them, which wish 5 of document 02 has the floor keep, the start rank where none was begun.
-- Wish 6: "the solo finish outranks its own only", the department of its station.
abbrev pub highest_begun : (f : Floor) (station : ℕ) → ℕ
highest_begun f station = highest_of f (department_at f station)

-- "it picks the smallest round, at least 1, whose rank passes every rank begun on the floor"; wish 5: "The solo finish goes by the highest
-- rank begun alone". That it is the smallest is the claim `Smallest` in specs/Claims
abbrev pub round_of : (f : Floor) (station : ℕ) → ℕ
round_of f station = round_above (highest_begun f station) station

-- of k boxes from box b on, the numbers of those that are not away, in ascending order. Wish 8 of document 02:
-- ""Answering" means not away"
unfoldable pub answering_from : (k b : ℕ) (boxes : List StorageBox) → List ℕ
answering_from zero b boxes = []
answering_from (suc k) b boxes =
    when (get_or boxes b box0).away then answering_from k (b + 1) boxes
    else b ∷ answering_from k (b + 1) boxes

abbrev pub answering : (f : Floor) → List ℕ
answering f = answering_from f.n 0 f.boxes

-- "the q lowest-numbered answering boxes" of the first n; fewer where no more answer
unfoldable pub lowest : (q : ℕ) (boxes : List StorageBox) (n : ℕ) → List ℕ
lowest q boxes n = take q (answering_from n 0 boxes)

-- those of a floor: a quorum
abbrev pub asked_of : (f : Floor) → List ℕ
asked_of f = lowest (quorum f.n) f.boxes f.n

-- "It begins, serves and delivers the read at the q lowest-numbered answering boxes, one box after the other, then the write
-- likewise": the record of its begin, and those behind it. The attempt is the row that a begin of the station takes on the floor handed in, and the boxes
-- are those that answer there.
abbrev pub begin_of : (f : Floor) (station : ℕ) (revision : Suit) → List ℕ
begin_of f station revision = encode_of (Begin station (round_of f station) revision)

unfoldable pub exchanges_of : (f : Floor) (station : ℕ) → List (List ℕ)
exchanges_of f station = exchanges Read (row_taken f station) (asked_of f) ++ exchanges Write (row_taken f station) (asked_of f)

-- the list of its steps
abbrev pub plan_of : (f : Floor) (station : ℕ) (revision : Suit) → List (List ℕ)
plan_of f station revision = begin_of f station revision ∷ exchanges_of f station
