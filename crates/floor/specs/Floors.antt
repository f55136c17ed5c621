-- Document 01, "The floor", and wish 6 of document 02: what stands at a place, what each department has of the floor, the floor with one
-- place stored, a new floor, and refusals 3 and 22.
use Rattle.std.specs.Prelude.{ℕ, zero, suc, ◌+◌, ◌<◌, List, [], eqb, length, get_or, set, replicate, Some, None}
use Rattle.base.specs.Choice.{when◌then◌else◌}
use Rattle.base.specs.Numbers.{sizes_right}
use Rattle.base.specs.Departments.{departments_wrong}
use Rattle.base.specs.Refusals.{named}
use Rattle.register.specs.Register.{of_department, departments_with, box0, register_of, box_with}
use Rattle.register.specs.declared.ByDepartment.{ByDepartment}
use Rattle.register.specs.declared.Department.{Department}
use Rattle.register.specs.declared.Department.TheVariants.{Sails, Canvas}
use Rattle.register.specs.declared.Register.{Register}
use Rattle.register.specs.declared.StorageBox.{StorageBox}
use Rattle.attempts.specs.Stations.{station0}
use Rattle.attempts.specs.Rows.{row0, unused_row, row_department, first_row}
use Rattle.attempts.specs.declared.State.TheVariants.{Idle}
use Rattle.attempts.specs.declared.Station.{Station}
use Rattle.attempts.specs.declared.Row.{Row}
use Rattle.floor.specs.declared.Share.{Share}
use Rattle.floor.specs.declared.Floor.{Floor}
use Rattle.floor.specs.declared.NewFloor.{NewFloor}

-- what stands at a place of the floor
abbrev pub box_at : (f : Floor) (b : ℕ) → StorageBox
box_at f b = get_or f.boxes b box0

abbrev pub station_at : (f : Floor) (s : ℕ) → Station
station_at f s = get_or f.stations s station0

abbrev pub row_at : (f : Floor) (a : ℕ) → Row
row_at f a = get_or f.rows a row0

-- the station of the row a
abbrev pub owner_at : (f : Floor) (a : ℕ) → Station
owner_at f a = station_at f (row_at f a).station

-- Wish 6: "Each box keeps one record a department": that of the department in the box b
abbrev pub register_at : (f : Floor) (department : Department) (b : ℕ) → Register
register_at f department b = register_of department (box_at f b)

-- the department of the station s
abbrev pub department_at : (f : Floor) (s : ℕ) → Department
department_at f s = (station_at f s).department

-- "Sails own rows 0 to 63 and canvas 64 to 127, each counted": how many of its rows a department uses, and its highest rank begun
abbrev pub share_of : (department : Department) (f : Floor) → Share
share_of department f = of_department department f.shares.sails f.shares.canvas

abbrev pub used_of : (f : Floor) (department : Department) → ℕ
used_of f department = (share_of department f).used

abbrev pub highest_of : (f : Floor) (department : Department) → ℕ
highest_of f department = (share_of department f).highest

-- the row behind those that the department uses
abbrev pub end_of : (f : Floor) (department : Department) → ℕ
end_of f department = first_row department + used_of f department

-- the row a is in use: its attempt is begun in its department, which is that of its number
abbrev pub InUse : (f : Floor) (a : ℕ) → Type 0
InUse f a = a < end_of f (row_department a)

-- the floor f with one array, or the share of a department replaced
abbrev pub with_boxes : (f : Floor) (boxes : List StorageBox) → Floor
with_boxes f boxes = record { n = f.n; m = f.m; shares = f.shares; boxes = boxes; stations = f.stations; rows = f.rows }

abbrev pub with_stations : (f : Floor) (stations : List Station) → Floor
with_stations f stations = record { n = f.n; m = f.m; shares = f.shares; boxes = f.boxes; stations = stations; rows = f.rows }

abbrev pub with_rows : (f : Floor) (rows : List Row) → Floor
with_rows f rows = record { n = f.n; m = f.m; shares = f.shares; boxes = f.boxes; stations = f.stations; rows = rows }

abbrev pub shares_with : (department : Department) (f : Floor) (x : Share) → ByDepartment Share
shares_with department f x = departments_with department x f.shares

abbrev pub with_share : (department : Department) (f : Floor) (x : Share) → Floor
with_share department f x =
    record { n = f.n; m = f.m; shares = shares_with department f x; boxes = f.boxes; stations = f.stations; rows = f.rows }

-- the floor f with one box, one record of a box, one station or one row stored: all else stays
abbrev pub with_box : (f : Floor) (b : ℕ) (x : StorageBox) → Floor
with_box f b x = with_boxes f (set f.boxes b x)

abbrev pub with_register : (department : Department) (f : Floor) (b : ℕ) (x : Register) → Floor
with_register department f b x = with_box f b (box_with department (box_at f b) x (box_at f b).away)

abbrev pub with_station : (f : Floor) (s : ℕ) (x : Station) → Floor
with_station f s x = with_stations f (set f.stations s x)

abbrev pub with_row : (f : Floor) (a : ℕ) (w : Row) → Floor
with_row f a w = with_rows f (set f.rows a w)

-- "one byte a station: 0 sails, 1 canvas"
unfoldable pub department_from : (byte : ℕ) → Department
department_from byte = when eqb byte 0 then Sails else Canvas

-- a station of that department that has begun nothing and decided nothing
abbrev pub new_station : (department : Department) → Station
new_station department = record { department = department; state = Idle; last = 0; decided = None }

-- the stations of a new floor, the first k of them told their departments; the others are sails
unfoldable pub stations_told : (departments : List ℕ) (k : ℕ) → List Station
stations_told departments zero = replicate 16 station0
stations_told departments (suc k) = set (stations_told departments k) k (new_station (department_from (get_or departments k 0)))

-- a floor of n boxes and m stations of these departments on which nothing has happened
abbrev pub empty_floor : (n m : ℕ) (departments : List ℕ) → Floor
empty_floor n m departments =
    record {
      n = n;
      m = m;
      shares = record { sails = record { used = 0; highest = 0 }; canvas = record { used = 0; highest = 0 } };
      boxes = replicate 9 box0;
      stations = stations_told departments (length departments);
      rows = replicate 128 unused_row;
    }

-- "3. n is not 1 to 9 or m is not 1 to 16 (also when a new floor is made)"; "a call with no floor to hand back gives the new
-- floor of one box and one station". Wish 6: a new floor is told the departments, and 22 comes behind 3.
unfoldable pub new_floor_of : (n m : ℕ) (departments : List ℕ) → NewFloor
new_floor_of n m departments =
    when sizes_right n m then
    (when departments_wrong m departments then record { floor = empty_floor 1 1 []; refusal = Some (named 22) }
    else record { floor = empty_floor n m departments; refusal = None })
    else record { floor = empty_floor 1 1 []; refusal = Some (named 3) }

-- Document 01, "The list of demand 3": "It .. starts from a new floor of any n and m", told the departments of its stations (wish 6). Where
-- these are not right that is the floor of one box and one station, sails.
abbrev pub first_floor : (n m : ℕ) (departments : List ℕ) → Floor
first_floor n m departments = (new_floor_of n m departments).floor
