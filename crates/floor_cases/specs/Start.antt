-- A case on a floor: its bytes are laid out as a drill file, be this refused or not.
use Rattle.std.specs.Prelude.{ℕ, ◌+◌, List, eqb, get_or, take, drop, replicate}
use Rattle.base.specs.Choice.{when◌then◌else◌}
use Rattle.floor.specs.Floors.{new_floor_of}
use Rattle.floor.specs.declared.NewFloor.{NewFloor}

-- how many department bytes it has, one a station in version 2, none else
unfoldable pub told_count : (file : List ℕ) → ℕ
told_count file = when eqb (get_or file 2 0) 2 then get_or file 4 0 else 0

-- what stands behind its label
abbrev pub behind_label : (file : List ℕ) → List ℕ
behind_label file = drop (get_or file 5 0 + 6) file

-- its records, behind the department bytes
abbrev pub records_behind : (file : List ℕ) → List ℕ
records_behind file = drop (told_count file) (behind_label file)

-- the new floor of its sizes and departments, all sails where it has no department bytes
unfoldable pub start_of : (file : List ℕ) → NewFloor
start_of file =
    new_floor_of (get_or file 3 0) (get_or file 4 0)
    (when eqb (told_count file) 0 then take (get_or file 4 0) (replicate 16 0) else take (told_count file) (behind_label file))
