-- A step that does not belong to a department leaves all of it as it was.
use Prim.Native.Nat.{ℕ}
use mathlib.Core.Path.{◌≡◌, refl, sym, ap, ◌∙◌}
use mathlib.Core.Logic.{inl, inr}
use mathlib.Core.Bool.{Bool, true, false}
use mathlib.Core.List.{List, []}
use lib.ListN.{get_or, set}
use lib.Seq.{get_or-set_other}
use Rattle.base.proofs.Cases.{clash}
use Rattle.base.proofs.Stores.{set_all}
use Rattle.register.specs.Register.{is_of, box0, register_of}
use Rattle.register.specs.declared.Department.{Department}
use Rattle.register.specs.declared.StorageBox.{StorageBox}
use Rattle.register.proofs.DepartmentLaws.{same_is, box_other, register_moved}
use Rattle.commands.specs.Commands.{command_of}
use Rattle.commands.specs.declared.Command.{Command}
use Rattle.commands.specs.declared.Outcome.TheVariants.{Begun}
use Rattle.attempts.specs.Stations.{station0}
use Rattle.attempts.specs.Rows.{row0, row_department, new_row}
use Rattle.attempts.specs.declared.Station.{Station}
use Rattle.attempts.specs.declared.Row.{Row}
use Rattle.floor.specs.Floors.{box_at, station_at, row_at, register_at, department_at, InUse, with_box, with_station, with_row, new_floor_of}
use Rattle.floor.specs.Effects.{row_taken, share_after, beginner, with_away}
use Rattle.floor.specs.Step.{apply_of, step_of}
use Rattle.floor.specs.Soundness.{Lengths}
use Rattle.floor.specs.Departments.{department_of, is_only, SameFor, Owned, DepartmentClaims}
use Rattle.floor.specs.declared.Floor.{Floor}
use Rattle.floor.specs.declared.Stepped.{Stepped}
use Rattle.floor.proofs.UseLaws.{share_other}
use Rattle.floor.proofs.FreeLaws.{next_own}
use Rattle.floor.proofs.StepCases.{StepCase, turned, began, served, heard, issued, decided, aborted, stopped, left, returned, apply_case}
use Rattle.floor.proofs.Outcomes.{apply_means, begun_row}
use Rattle.floor.proofs.EmptyFloors.{empty_unused, new_floor_by}
use Rattle.floor.proofs.RowLaws.{apply_in_use, row_same}
use Rattle.floor.proofs.StationLaws.{department_stays}

-- what is not of the department d
not_of : (d e : Department) → is_of d e ≡ false → ¬ (e ≡ d)
not_of d e h q = clash (same_is d e (sym q)) h

-- a place of a list where another is stored
module _ (d : Department) (f : Floor) where
  rows_kept : (a : ℕ) (w : Row) → ¬ (row_department a ≡ d) → (j : ℕ) → row_department j ≡ d → get_or (set f.rows a w) j row0 ≡ row_at f j
  rows_kept a w n j e = get_or-set_other f.rows a j w row0 (λ q. n (ap row_department (sym q) ∙ e))

  stations_kept : (s : ℕ) (x : Station) → ¬ (department_at f s ≡ d) → (j : ℕ) → department_at f j ≡ d → get_or (set f.stations s x) j station0 ≡ station_at f j
  stations_kept s x n j e = get_or-set_other f.stations s j x station0 (λ q. n (ap (department_at f) (sym q) ∙ e))

  departments_kept : (s : ℕ) (x : Station) → x.department ≡ department_at f s → (j : ℕ) → (get_or (set f.stations s x) j station0).department ≡ department_at f j
  departments_kept s x e = set_all station0 (λ (j : ℕ) (y : Station). y.department ≡ department_at f j) f.stations s x (λ j. refl) e

  registers_kept : (b : ℕ) (x : StorageBox) → register_of d x ≡ register_at f d b → (j : ℕ) → register_of d (get_or (set f.boxes b x) j box0) ≡ register_at f d j
  registers_kept b x e = set_all box0 (λ (j : ℕ) (y : StorageBox). register_of d y ≡ register_at f d j) f.boxes b x (λ j. refl) e

  -- a box is put away or brought back
  box_untouched : (b : ℕ) (t : Bool) → SameFor d f (with_box f b (with_away t (box_at f b)))
  box_untouched b t = record { registers = registers_kept b _ (register_moved d (box_at f b) t); share = refl; rows = λ a _. refl; stations = λ s _. refl; departments = λ s. refl }

  -- an answer is received, and its station goes on
  delivery_untouched : (a : ℕ) (w : Row) (x : Station) → Owned f → InUse f a → is_of d (row_department a) ≡ false → x.department ≡ department_at f (row_at f a).station
      → SameFor d f (with_station (with_row f a w) (row_at f a).station x)
  delivery_untouched a w x o u h e =
      let n = not_of d (row_department a) h in
      record {
        registers = λ b. refl;
        share = refl;
        rows = rows_kept a w n;
        stations = stations_kept (row_at f a).station x (λ q. n (sym (o a u) ∙ q));
        departments = departments_kept (row_at f a).station x e;
      }

  same_as : SameFor d f f
  same_as = record { registers = λ b. refl; share = refl; rows = λ a _. refl; stations = λ s _. refl; departments = λ s. refl }

pub case_untouched : {f : Floor} {c : Command} {x : Stepped} → StepCase f c x → (d : Department) → Owned f → is_only d (department_of f c) ≡ false → SameFor d f x.floor
case_untouched {f} (turned k t) d o e = same_as d f
case_untouched {f} (began {s = s} {round = r} {v = v} z y) d o e =
    let n = not_of d (department_at f s) e in
    record {
      registers = λ b. refl;
      share = share_other (department_at f s) d f (share_after f s r) (λ q. n (sym q));
      rows = rows_kept d f (row_taken f s) _ (λ q. n (sym (next_own f (department_at f s) y.row) ∙ q));
      stations = stations_kept d f s _ n;
      departments = departments_kept d f s (beginner f s r) refl;
    }
case_untouched {f} (served {p = p} {a = a} {b = b} z y) d o e =
    let n = not_of d (row_department a) e in
    record {
      registers = registers_kept d f b _ (box_other (row_department a) d (box_at f b) _ (box_at f b).away (λ q. n (sym q)));
      share = refl;
      rows = rows_kept d f a _ n;
      stations = λ s _. refl;
      departments = λ s. refl;
    }
case_untouched {f} (heard {a = a} z y q) d o e =
    record { registers = λ b. refl; share = refl; rows = rows_kept d f a _ (not_of d (row_department a) e); stations = λ s _. refl; departments = λ s. refl }
case_untouched {f} (issued {a = a} z y r q t) d o e = delivery_untouched d f a _ _ o y.used e refl
case_untouched {f} (decided {a = a} z y r q t) d o e = delivery_untouched d f a _ _ o y.used e refl
case_untouched {f} (aborted {a = a} z y r q t) d o e = delivery_untouched d f a _ _ o y.used e refl
case_untouched {f} (stopped {b = b} z y) d o e = box_untouched d f b true
case_untouched {f} (left {s = s} z y) d o e =
    record {
      registers = λ b. refl;
      share = refl;
      rows = λ a _. refl;
      stations = stations_kept d f s _ (not_of d (department_at f s) e);
      departments = departments_kept d f s _ refl;
    }
case_untouched {f} (returned {b = b} z y) d o e = box_untouched d f b false

pub apply_untouched : (f : Floor) (c : Command) (d : Department) → Owned f → is_only d (department_of f c) ≡ false → SameFor d f (apply_of f c).floor
apply_untouched f c = case_untouched (apply_case f c)

-- the row begun is of its station's department
begun_owned : (f : Floor) (c : Command) → Lengths f → (a : ℕ) → (apply_of f c).outcome ≡ Begun a → department_at f (row_at (apply_of f c).floor a).station ≡ row_department a
unfolding new_row
begun_owned f c y a e =
    let m = apply_means f c (Begun a) e in
    ap (λ (w : Row). department_at f w.station) (ap (row_at (apply_of f c).floor) m.next ∙ begun_row y m)
    ∙ sym (ap row_department m.next ∙ next_own f (department_at f m.station) m.may.row)

pub apply_owned : (f : Floor) (c : Command) → Lengths f → Owned f → Owned (apply_of f c).floor
apply_owned f c y o a h =
    let g = (apply_of f c).floor in
    elim (apply_in_use f c a h) [
      | inl e ↦ department_stays f c (row_at g a).station ∙ begun_owned f c y a e
      | inr u ↦ department_stays f c (row_at g a).station ∙ ap (department_at f) (row_same f c a u.1).station ∙ o a u.0
    ]

pub step_owned : (f : Floor) (r : List ℕ) → Lengths f → Owned f → Owned (step_of f r).floor
unfolding step_of
step_owned f r = apply_owned f (command_of r)

pub new_owned : (n m : ℕ) (l : List ℕ) → Owned (new_floor_of n m l).floor
new_owned n m l = new_floor_by Owned n m l (λ _ _ a h. absurd (empty_unused n m l a h)) (λ a h. absurd (empty_unused 1 1 [] a h))

pub department_claims : DepartmentClaims
unfolding step_of
department_claims = record { new_owned = new_owned; owned = step_owned; untouched = λ f r. apply_untouched f (command_of r) }
