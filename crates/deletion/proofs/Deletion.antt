-- Of an accepted run, the steps of one department and the box stops alone.
use Prim.Native.Nat.{ℕ, zero, suc, ◌≤◌, ◌<◌}
use native.Mathlib.Omega.{arith}
use mathlib.Core.Path.{◌≡◌, refl, sym, ap, ap₂, subst, ◌∙◌}
use mathlib.Core.Bool.{Bool, true, false}
use mathlib.Core.List.{List, [], ◌∷◌}
use lib.ListN.{length, get_or}
use Rattle.base.specs.Quorum.{count, indicator}
use Rattle.base.proofs.Cases.{clash, by_cases}
use Rattle.base.proofs.Choices.{on_true, on_false}
use Rattle.base.proofs.QuorumLaws.{count_low}
use Rattle.register.specs.declared.Department.{Department}
use Rattle.register.specs.declared.StorageBox.{StorageBox}
use Rattle.register.proofs.DepartmentLaws.{is_same, same_is}
use Rattle.commands.specs.Commands.{command_of}
use Rattle.commands.specs.Outcomes.{is_refused}
use Rattle.commands.specs.declared.Command.{Command}
use Rattle.commands.specs.declared.Outcome.{Outcome}
use Rattle.runs.specs.Runs.{state_at}
use Rattle.floor.specs.Floors.{box_at, department_at}
use Rattle.places.specs.Places.{station_in}
use Rattle.floor.specs.Departments.{Belonging, only, shared, belonging, department_of, is_only, Owned}
use Rattle.floor.specs.Step.{apply_of, step_of}
use Rattle.floor.specs.Runs.{floor_at, said_at}
use Rattle.floor.specs.Soundness.{Sound, Lengths, SameSizes}
use Rattle.floor.specs.Moves.{BoxMove, box_kept, box_serves, box_stops, box_returns}
use Rattle.floor.specs.declared.Floor.{Floor}
use Rattle.floor.proofs.EmptyFloors.{new_sound}
use Rattle.floor.proofs.Keeps.{step_sizes}
use Rattle.floor.proofs.Moves.{apply_box}
use Rattle.floor.proofs.Numbered.{accepted_refusal}
use Rattle.floor.proofs.DepartmentLaws.{apply_untouched}
use Rattle.floor.proofs.ListLaws.{sound_at}
use Rattle.floor.specs.Runs.{command_at}
use Rattle.floor.specs.Floors.{first_floor}
use Rattle.deletion.specs.Deletion.{is_kept, keeps, kept_of, place_of, DeletionTheorem}
use Rattle.floor.proofs.Reached.{New, new_floor_lem, lengths_at, owned_at, department_at_lem}
use Rattle.deletion.proofs.Alike.{Kept, Alike, AlikeStep, step_alike}

-- a step that is kept belongs to the department or is shared; any other is of the other department
kept_for : (d : Department) (x : Belonging) → is_kept d x ≡ true → Kept d x
kept_for d (only e) h = sym (is_same d e h)
kept_for d shared h = tt

not_kept : (d : Department) (x : Belonging) → is_kept d x ≡ false → is_only d x ≡ false
not_kept d (only e) h = h
not_kept d shared h = clash refl h

module _ (f : Floor) (d : Department) where
  -- a kept step of a list has its place in the list of them
  abbrev Keeps : List (List ℕ) → ℕ → Bool
  Keeps l k = keeps f d (command_at l k)

  kept_first : (r : List ℕ) (l : List (List ℕ)) → keeps f d (command_of r) ≡ true → kept_of f d (r ∷ l) ≡ r ∷ kept_of f d l
  unfolding kept_of
  kept_first r l e = sym (on_true _ e refl)

  kept_rest : (r : List ℕ) (l : List (List ℕ)) → keeps f d (command_of r) ≡ false → kept_of f d (r ∷ l) ≡ kept_of f d l
  unfolding kept_of
  kept_rest r l e = sym (on_false _ e refl)

  at_place : (l : List (List ℕ)) (i : ℕ) → i < length l → Keeps l i ≡ true → get_or (kept_of f d l) (place_of f d l i) [] ≡ get_or l i []
  unfolding count
  at_place [] i h e = absurd (omega arith)
  at_place (r ∷ l) zero h e = rw (kept_first r l e) refl
  at_place (r ∷ l) (suc i) h e =
      let c = count_low i (Keeps (r ∷ l)) in
      let rest = at_place l i (omega arith) e in
      by_cases (keeps f d (command_of r))
      (λ t.
      let n : place_of f d (r ∷ l) (suc i) ≡ suc (place_of f d l i) = omega (arith, c, ap indicator t) in
      ap₂ (λ (k : List (List ℕ)) (j : ℕ). get_or k j []) (kept_first r l t) n ∙ rest)
      (λ t.
      let n : place_of f d (r ∷ l) (suc i) ≡ place_of f d l i = omega (arith, c, ap indicator t) in
      ap₂ (λ (k : List (List ℕ)) (j : ℕ). get_or k j []) (kept_rest r l t) n ∙ rest)

  kept_size : (l : List (List ℕ)) → length (kept_of f d l) ≡ place_of f d l (length l)
  unfolding count kept_of
  kept_size [] = refl
  kept_size (r ∷ l) =
      let c = count_low (length l) (Keeps (r ∷ l)) in
      by_cases (keeps f d (command_of r))
      (λ t. omega (arith, ap length (kept_first r l t), kept_size l, c, ap indicator t))
      (λ t. omega (arith, ap length (kept_rest r l t), kept_size l, c, ap indicator t))

-- the same, where the stations have the same departments
keeps_same : (f g : Floor) (d : Department) → ((s : ℕ) → department_at g s ≡ department_at f s) → (c : Command) → keeps g d c ≡ keeps f d c
keeps_same f g d h c = ap (λ (e : Department). is_kept d (belonging e c)) (h (station_in 0 c))

-- a step that is not kept moves no box
still_answers : {f : Floor} {c : Command} {j : ℕ} {o : Outcome} {x : StorageBox} (d : Department) → BoxMove f c j o x → keeps f d c ≡ false → x.away ≡ (box_at f j).away
still_answers d box_kept n = refl
still_answers d (box_serves q u t) n = refl
still_answers {f} d (box_stops q t) n = clash (ap (keeps f d) q) n
still_answers {f} d (box_returns q t) n = clash (ap (keeps f d) q) n

-- a step of the other department on one of two floors that are alike
other_alike : {d : Department} {f g : Floor} (c : Command) → Alike d f g → Owned f → Lengths f → Lengths (apply_of f c).floor → keeps f d c ≡ false
    → SameSizes f (apply_of f c).floor → Alike d (apply_of f c).floor g
other_alike {d} {f} {g} c k o y y' n z =
    let u = apply_untouched f c d o (not_kept d (department_of f c) n) in
    record {
      boxes = k.boxes ∙ sym z.boxes;
      stations = k.stations ∙ sym z.stations;
      same = record {
        registers = λ b. k.same.registers b ∙ sym (u.registers b);
        share = k.same.share ∙ sym u.share;
        rows = λ a q. k.same.rows a q ∙ sym (u.rows a q);
        stations = λ s q. let q' = sym (u.departments s) ∙ q in k.same.stations s q' ∙ sym (u.stations s q');
        departments = λ s. k.same.departments s ∙ sym (u.departments s);
      };
      away = λ b. k.away b ∙ sym (still_answers d (apply_box f c b) n);
      box_length = k.box_length ∙ y.boxes ∙ sym y'.boxes;
      station_length = k.station_length ∙ y.stations ∙ sym y'.stations;
      row_length = k.row_length ∙ y.rows ∙ sym y'.rows;
    }

module _ (f : Floor) (d : Department) (l : List (List ℕ)) (new : New f) (z : Sound f) (accepted : (i : ℕ) → i < length l → is_refused (said_at f l i) ≡ false) where
  abbrev kept : List (List ℕ)
  kept = kept_of f d l

  abbrev place : ℕ → ℕ
  place i = place_of f d l i

  abbrev here : ℕ → Floor
  here i = floor_at f l i

  abbrev there : ℕ → Floor
  there i = floor_at f kept (place i)

  same_floor : Alike d f f
  same_floor = record {
    boxes = refl;
    stations = refl;
    same = record { registers = λ b. refl; share = refl; rows = λ a _. refl; stations = λ s _. refl; departments = λ s. refl };
    away = λ b. refl;
    box_length = refl;
    station_length = refl;
    row_length = refl;
  }

  -- what is kept, by the departments of the floor before the step
  keeps_at : (i : ℕ) → keeps (here i) d (command_at l i) ≡ keeps f d (command_at l i)
  keeps_at i = keeps_same f (here i) d (λ s. department_at_lem f l s i) (command_at l i)

  -- a kept step on both floors
  both : (i : ℕ) → i < length l → keeps f d (command_at l i) ≡ true → Alike d (here i) (there i) → AlikeStep d (step_of (here i) (get_or l i [])) (step_of (there i) (get_or kept (place i) []))
  unfolding step_of
  both i h e k =
      let c = command_at l i in
      let q : command_at kept (place i) ≡ c = ap command_of (at_place f d l i h e) in
      rw q (step_alike k (owned_at f l new i) (sound_at f l z i) (sound_at f kept z (place i)) c (kept_for d (department_of (here i) c) (keeps_at i ∙ e))
      (accepted_refusal (here i) c (sound_at f l z i) (accepted i h)))

  alike : (i : ℕ) → i ≤ length l → Alike d (here i) (there i)
  unfolding state_at count step_of
  alike zero h = same_floor
  alike (suc i) h =
      let k = alike i (omega arith) in
      by_cases (keeps f d (command_at l i))
      (λ e.
      let n : place (suc i) ≡ suc (place i) = omega (arith, ap indicator e) in
      subst (λ (j : ℕ). Alike d (here (suc i)) (floor_at f kept j)) (sym n) (both i (omega arith) e k).floor)
      (λ e.
      let n : place (suc i) ≡ place i = omega (arith, ap indicator e) in
      subst (λ (j : ℕ). Alike d (here (suc i)) (floor_at f kept j)) (sym n)
      (other_alike (command_at l i) k (owned_at f l new i) (lengths_at f l new i) (lengths_at f l new (suc i)) (keeps_at i ∙ e) (step_sizes (here i) (get_or l i []))))

pub deletion : DeletionTheorem
deletion n m ds l accepted d =
    let f = first_floor n m ds in
    let new = new_floor_lem n m ds in
    let z = new_sound n m ds in
    let says : (i : ℕ) → i < length l → keeps f d (command_at l i) ≡ true → said_at f (kept_of f d l) (place_of f d l i) ≡ said_at f l i =
    λ i h e. (both f d l new z accepted i h e (alike f d l new z accepted i (omega arith))).outcome in
    record {
      size = kept_size f d l;
      asked = at_place f d l;
      own = λ i h e. says i h (ap (is_kept d) e ∙ same_is d d refl);
      common = λ i h e. says i h (ap (is_kept d) e);
      same = λ i h. (alike f d l new z accepted i h).same;
      away = λ i h. (alike f d l new z accepted i h).away;
    }
