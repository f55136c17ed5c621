-- A step on its parts: what it reads and stores is the step of the floor; and the run from its command on, by what it left and said.
use Prim.Native.Nat.{ℕ, ◌+◌, ◌-◌, ◌*◌, ◌<◌}
use mathlib.Core.Path.{◌≡◌, refl, sym, ap, ap₂, subst, ◌∙◌}
use mathlib.Core.Bool.{Bool, true, false}
use mathlib.Core.List.{List}
use lib.Dec.{leb}
use lib.ListN.{set}
use borrow.Author.Tests.{leb-false, le-leb}
use native.Mathlib.Omega.{arith}
use Rattle.base.specs.Choice.{when◌then◌else◌}
use Rattle.base.specs.Records.{record_at, records_from}
use Rattle.base.proofs.Choices.{chosen, both_false}
use Rattle.commands.specs.Commands.{command_of}
use Rattle.commands.specs.Outcomes.{is_refused, is_end}
use Rattle.commands.specs.declared.Command.{Command}
use Rattle.commands.specs.declared.Outcome.{Outcome}
use Rattle.register.specs.Register.{departments_with}
use Rattle.register.specs.declared.Department.{Department}
use Rattle.register.specs.declared.Register.{Register}
use Rattle.register.specs.declared.ByDepartment.{ByDepartment}
use Rattle.attempts.specs.Rows.{first_row}
use Rattle.runs.specs.Runs.{stops_by}
use Rattle.runs.specs.declared.Until.{Until}
use Rattle.runs.proofs.RunLaws.{run_refused, run_over, run_goes_on}
use Rattle.floor.specs.Floors.{box_at, station_at, row_at, register_at, department_at, share_of}
use Rattle.floor.specs.Departments.{belonging, department_with}
use Rattle.floor.specs.Effects.{stepped}
use Rattle.floor.specs.declared.Stepped.{Stepped}
use Rattle.floor.specs.declared.Share.{Share}
use Rattle.places.specs.Places.{place_in, attempt_in, box_in, station_in}
use Rattle.parts.specs.Parts.{turned_back, change_in}
use Rattle.parts.specs.declared.Parts.{Parts}
use Rattle.parts.specs.declared.Changed.{Changed}
use Rattle.floor.specs.Step.{apply_of}
use Rattle.floor.specs.Free.{taken_by}
use Rattle.floor.specs.Runs.{stops_at, ran_with, run_from}
use Rattle.floor.specs.Soundness.{Sound}
use Rattle.floor.specs.declared.Floor.{Floor}
use Rattle.floor.proofs.Joins.{step_department, parts_at, stored_at, row_place, station_place, look, put, Joined, change_join}
use Rattle.floor.proofs.Keeps.{refused_same, apply_keeps}

-- What a step did: on the sound floor f, for the command c, which belongs to the department d and takes the row `next`, it read the places
-- i, b and j, and made y of what stands there.
pub record Turn (f : Floor) (c : Command) (d : Department) (next i b j : ℕ) (y : Changed) : Type 0 where
  pub sound : Sound f
  pub department : d ≡ step_department f c
  pub taken : next ≡ taken_by f d c
  pub row : i ≡ place_in 128 (attempt_in next c)
  pub storage : b ≡ place_in 9 (box_in c)
  pub station : j ≡ place_in 16 (station_in (row_at f i).station c)
  pub change : y ≡ change_in (parts_at f d next i b j) c

-- from what the code asked for: of the department its first row, its share and its record of the box
pub turn_of : (f : Floor) (c : Command) {near next i b j first : ℕ} {d : Department} {share : Share} {register : Register} {y : Changed} → Sound f
    → near ≡ place_in 16 (station_in 0 c) → d ≡ department_with (department_at f near) (belonging (department_at f near) c) → share ≡ share_of d f → next ≡ taken_by f d c
    → i ≡ place_in 128 (attempt_in next c) → b ≡ place_in 9 (box_in c) → j ≡ place_in 16 (station_in (row_at f i).station c)
    → first ≡ first_row d → register ≡ register_at f d b
    → let x : Parts = record {
      n = f.n;
      m = f.m;
      first = first;
      used = share.used;
      next = next;
      highest = share.highest;
      row = row_at f i;
      register = register;
      away = (box_at f b).away;
      station = station_at f j;
    } in y ≡ (when leb f.n 9 then change_in x c else turned_back x 6)
    → Turn f c d next i b j y
turn_of f c z en ed es ex ei eb ej e₁ e₂ ey = record {
  sound = z;
  department = ed ∙ ap (λ (k : ℕ). let own = department_at f k in department_with own (belonging own c)) en;
  taken = ex;
  row = ei;
  storage = eb;
  station = ej;
  change = chosen _ (le-leb _ _ z.box_most) ey ∙ rw (e₁, es, e₂) refl;
}

module _ {f : Floor} {c : Command} {d : Department} {next i b j : ℕ} {y : Changed} (t : Turn f c d next i b j y) where
  next_named : next ≡ taken_by f (step_department f c) c
  next_named = t.taken ∙ ap (λ (x : Department). taken_by f x c) t.department

  row_named : i ≡ row_place f c
  row_named = t.row ∙ ap (λ (x : ℕ). place_in 128 (attempt_in x c)) next_named

  station_named : j ≡ station_place f c
  station_named = t.station ∙ ap (λ (x : ℕ). place_in 16 (station_in (row_at f x).station c)) row_named

  looked : parts_at f d next i b j ≡ look f c
  looked = rw (station_named, row_named, next_named, t.storage, t.department) refl

  stored : (x : Parts) → stored_at f d i b j x ≡ put f c x
  stored x = rw (station_named, row_named, t.storage, t.department) refl

  joined : Joined f t.sound c y
  joined = subst (Joined f t.sound c) (sym (t.change ∙ ap (λ (x : Parts). change_in x c) looked)) (change_join f t.sound c)

  said_same : {o : Bool} → is_refused y.outcome ≡ o → is_refused (apply_of f c).outcome ≡ o
  said_same e = ap is_refused (sym joined.said) ∙ e

  -- it is the step: refused, it leaves the floor, and accepted, it stored the registers of the box and the shares that it made
  pub turn_refused : is_refused y.outcome ≡ true → stepped f y.outcome ≡ apply_of f c
  turn_refused e = ap₂ stepped (sym (refused_same f c (said_same e))) joined.said

  pub turn_accepted : {registers : ByDepartment Register} {shares : ByDepartment Share} → is_refused y.outcome ≡ false
      → registers ≡ departments_with d y.parts.register (box_at f b).registers
      → shares ≡ departments_with d (record { used = y.parts.used; highest = y.parts.highest }) f.shares
      → stepped (record {
        n = f.n;
        m = f.m;
        shares = shares;
        boxes = set f.boxes b (record { registers = registers; away = y.parts.away });
        stations = set f.stations j y.parts.station;
        rows = set f.rows i y.parts.row;
      }) y.outcome ≡ apply_of f c
  turn_accepted e er es = rw (er, es) (ap₂ stepped (stored y.parts ∙ joined.left e) joined.said)

-- The run from a step on, by what the step left and said.
module _ (f : Floor) (c : Command) {g : Floor} {o : Outcome} (e : stepped g o ≡ apply_of f c) where
  says : {t : Bool} → is_refused o ≡ t → is_refused (apply_of f c).outcome ≡ t
  says h = ap (λ (s : Stepped). is_refused s.outcome) (sym e) ∙ h

  of_said : (k : ℕ) → ran_with g k o ≡ ran_with (apply_of f c).floor k (apply_of f c).outcome
  of_said k = ap (λ (s : Stepped). ran_with s.floor k s.outcome) e

  pub turn_sound : Sound f → Sound g
  turn_sound z = subst Sound (sym (ap (λ (s : Stepped). s.floor) e)) (apply_keeps f c z)

  pub ran_refused : (until : Until) (k : ℕ) (rs : List (List ℕ)) → is_refused o ≡ true → ran_with g k o ≡ run_from until k f c rs
  ran_refused until k rs h =
      of_said k ∙ ap (λ (x : Floor). ran_with x k (apply_of f c).outcome) (refused_same f c (says h))
      ∙ run_refused is_refused is_end command_of _ _ ran_with until k f c rs (says h) (refused_same f c (says h))

  -- it was accepted; k steps were before it, and count - k records of the bytes l are left. The loop asked of what it said whether it ends an
  -- attempt, and so whether the run is over.
  module _ (h : is_refused o ≡ false) (until : Until) (count k : ℕ) {ends over : Bool} (ee : ends ≡ is_end o)
      (ev : over ≡ (when leb (count - k) 0 then true else stops_by until false ends)) where
    over_says : over ≡ (when leb (count - k) 0 then true else stops_at until (apply_of f c).outcome)
    over_says =
        ev ∙ ap₂ (λ (s t : Bool). when leb (count - k) 0 then true else stops_by until s t) (sym (says h)) (ee ∙ ap (λ (s : Stepped). is_end s.outcome) e)

    pub ran_over : (l : List ℕ) → over ≡ true → ran_with g (k + 1) o ≡ run_from until k f c (records_from (count - k) l (8 * k))
    ran_over l q = of_said (k + 1) ∙ run_over is_refused is_end command_of _ _ ran_with until k f c (count - k) l (8 * k) (says h) (sym over_says ∙ q)

    -- a record is left where the run goes on
    pub ran_left : over ≡ false → k < count
    ran_left q = let n = leb-false (count - k) 0 (both_false _ _ (sym ev ∙ q)).0 in omega arith

    pub ran_on : (l : List ℕ) → over ≡ false → (c₂ : Command) → c₂ ≡ command_of (record_at l (8 * k))
        → run_from until (k + 1) g c₂ (records_from (count - (k + 1)) l (8 * (k + 1))) ≡ run_from until k f c (records_from (count - k) l (8 * k))
    ran_on l q c₂ ec =
        let fewer : count - (k + 1) ≡ count - k - 1 = omega arith in
        let next : 8 * (k + 1) ≡ 8 * k + 8 = omega arith in
        let left : g ≡ (apply_of f c).floor = ap (λ (s : Stepped). s.floor) e in
        rw (fewer, next, left, ec) (run_goes_on is_refused is_end command_of _ _ ran_with until k f c (count - k) l (8 * k) (sym over_says ∙ q))
