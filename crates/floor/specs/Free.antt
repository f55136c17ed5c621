-- Document 02, wishes 5 and 6: when a row is free, and the row that a begin takes in its department.
use Rattle.std.specs.Prelude.{ℕ, zero, suc, ◌+◌, Bool, true, false, ltb, Option, Some, None}
use Rattle.base.specs.Choice.{when◌then◌else◌}
use Rattle.register.specs.declared.Department.{Department}
use Rattle.commands.specs.declared.Command.{Command}
use Rattle.commands.specs.declared.Command.TheVariants.{Begin, Serve, Deliver, Stop, Leave, Return, Malformed}
use Rattle.attempts.specs.Stations.{is_active}
use Rattle.attempts.specs.Rows.{first_row, waits_at}
use Rattle.attempts.specs.declared.State.{State}
use Rattle.attempts.specs.declared.Row.{Row}
use Rattle.places.specs.Search.{lower_in}
use Rattle.places.specs.declared.Lowest.{Lowest}
use Rattle.floor.specs.Floors.{row_at, owner_at, used_of, end_of}
use Rattle.floor.specs.declared.Floor.{Floor}

-- one box more
unfoldable pub still_served : (before waits : Bool) → Bool
still_served before waits = when waits then false else before

-- Wish 8: "served at every box, away or not": at none of the first k boxes one of the issued requests waits
unfoldable pub all_served : (w : Row) (k : ℕ) → Bool
all_served w zero = true
all_served w (suc k) = still_served (all_served w k) (waits_at w k)

-- Wish 5: "An attempt is over when its station no longer reads or writes in it: decided, aborted or gone." Wish 8: "Rows are now free only
-- when served at every box, away or not." The row w of the attempt a, whose station is in that state.
unfoldable pub free_in : (w : Row) (state : State) (n a : ℕ) → Bool
free_in w state n a = when is_active state a then false else all_served w n

-- the row a of a floor
abbrev pub is_free : (f : Floor) (a : ℕ) → Bool
is_free f a = free_in (row_at f a) (owner_at f a).state f.n a

-- the better of the row found so far and the row a: that, if it is free and its rank is smaller
unfoldable pub better_in : (x : Option Lowest) (w : Row) (state : State) (n a : ℕ) → Option Lowest
better_in x w state n a =
    when lower_in x w.rank then (when free_in w state n a then Some (record { row = a; rank = w.rank }) else x)
    else x

-- "the free row with the smallest rank, of equals the lowest", among the first k rows of the department, if one of them is free
unfoldable pub free_below : (f : Floor) (department : Department) (k : ℕ) → Option Lowest
free_below f department zero = None
free_below f department (suc k) =
    better_in (free_below f department k) (row_at f (first_row department + k)) (owner_at f (first_row department + k)).state f.n
    (first_row department + k)

-- the number of the row found, 128 where there is none
abbrev pub row_in : (x : Option Lowest) → ℕ
row_in (Some x) = x.row
row_in None = 128

-- the row that a begin of the department takes: the next, and "With all 64 used .. the free row with the smallest rank"; 128 where no row is
-- unused or free. Wish 6: "each counted (refusals 6 and 12) and freed alone"
unfoldable pub next_row : (f : Floor) (department : Department) → ℕ
next_row f department = when ltb (used_of f department) 64 then end_of f department else row_in (free_below f department 64)

-- Internal, of a step: only a begin takes a row
abbrev pub taken_by : (f : Floor) (department : Department) (c : Command) → ℕ
taken_by f department (Begin s round v) = next_row f department
taken_by f department (Serve p a b) = 0
taken_by f department (Deliver p a b) = 0
taken_by f department (Stop b) = 0
taken_by f department (Leave s) = 0
taken_by f department (Return b) = 0
taken_by f department Malformed = 0
