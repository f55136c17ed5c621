-- Refusal 6: "A handed-in floor has n or m outside 3, more than 64 rows, or a row whose station is not below m."
use Rattle.std.specs.Prelude.{ℕ, zero, suc, ◌+◌, List, Bool, true, false, get_or, ltb}
use Rattle.base.specs.Choice.{when◌then◌else◌}
use Rattle.base.specs.Numbers.{sizes_right}
use Rattle.register.specs.declared.Department.{Department}
use Rattle.register.specs.declared.Department.TheVariants.{Sails, Canvas}
use Rattle.attempts.specs.Rows.{row0, first_row}
use Rattle.attempts.specs.declared.Row.{Row}
use Rattle.floor.specs.Floors.{used_of}
use Rattle.floor.specs.declared.Floor.{Floor}

-- each of the k rows from `first` on has a station below m
unfoldable pub stations_below : (rows : List Row) (m first k : ℕ) → Bool
stations_below rows m first zero = true
stations_below rows m first (suc k) = when ltb (get_or rows (first + k) row0).station m then stations_below rows m first k else false

-- the rows that the department uses: not more than 64, each with a station below m
unfoldable pub share_sound : (f : Floor) (department : Department) → Bool
share_sound f department =
    when ltb 64 (used_of f department) then false else stations_below f.rows f.m (first_row department) (used_of f department)

-- refusal 6 does not apply; wish 6 of document 02: "each counted (refusals 6 and 12)"
unfoldable pub sound_of : (f : Floor) → Bool
sound_of f =
    when sizes_right f.n f.m then
    (when share_sound f Sails then share_sound f Canvas else false)
    else false
