-- Document 01, "The box routine": "A tally takes a lent run of box records and returns how many have not stopped and the highest
-- write rank among those; a run with none of these, or empty, gives 0 and 0." Wish 6 of document 02: "Each box keeps one record a
-- department, and the tally is told which." Wish 8: ""Answering" means not away, in the tally too."
use Rattle.std.specs.Prelude.{ℕ, max, List, [], ◌∷◌, length}
use Rattle.base.specs.Choice.{when◌then◌else◌}
use Rattle.register.specs.Register.{register_of}
use Rattle.register.specs.declared.Department.{Department}
use Rattle.register.specs.declared.StorageBox.{StorageBox}
use Rattle.tally.specs.declared.Tally.{Tally}

-- the boxes of a run that are not away, whichever the department. Wish 6: "Only box stops, n and m are shared."
unfoldable pub not_away : (run : List StorageBox) → List StorageBox
not_away [] = []
not_away (y ∷ ys) = when y.away then not_away ys else y ∷ not_away ys

-- the highest write rank of the department's records in some boxes, 0 where there are none
unfoldable pub highest_write : (department : Department) (run : List StorageBox) → ℕ
highest_write d [] = 0
highest_write d (y ∷ ys) = max (highest_write d ys) (register_of d y).write

-- "how many have not stopped and the highest write rank among those": the tally of the department
unfoldable pub tally_of : (department : Department) (run : List StorageBox) → Tally
tally_of d ys = record { count = length (not_away ys); highest = highest_write d (not_away ys) }
