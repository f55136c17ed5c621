-- The parts that a step reads and stores, and the law that joins them to the specification: on a sound floor a step is refused alike
-- on its parts and on the floor, and one accepted leads to the same floor. No promise speaks of the parts.
use Prim.Native.Nat.{ℕ, ◌<◌}
use native.Mathlib.Omega.{arith}
use mathlib.Core.Path.{◌≡◌, refl, sym, ap, ◌∙◌}
use mathlib.Core.Bool.{Bool, true, false}
use lib.Dec.{eqb}
use lib.ListN.{set}
use lib.Seq.{set-get_or}
use borrow.Author.Tests.{leb-false, eqb-true, eqb-false}
use Rattle.base.specs.Choice.{when◌then◌else◌}
use Rattle.base.proofs.Cases.{clash}
use Rattle.base.proofs.Choices.{by_test}
use Rattle.register.specs.Register.{box0, box_with}
use Rattle.register.specs.declared.Department.{Department}
use Rattle.register.proofs.DepartmentLaws.{box_same, box_moved}
use Rattle.requests.specs.Requests.{verdict_of}
use Rattle.requests.specs.declared.Phase.{Phase}
use Rattle.requests.specs.declared.Phase.TheVariants.{Read, Write}
use Rattle.requests.specs.declared.Verdict.{Verdict}
use Rattle.requests.specs.declared.Verdict.TheVariants.{Open, Yes, No}
use Rattle.commands.specs.Outcomes.{is_refused}
use Rattle.commands.specs.declared.Command.{Command}
use Rattle.commands.specs.declared.Command.TheVariants.{Begin, Serve, Deliver, Stop, Leave, Return, Malformed}
use Rattle.commands.specs.declared.Outcome.TheVariants.{Refused}
use Rattle.attempts.specs.Stations.{station0}
use Rattle.attempts.specs.Rows.{row0, row_department, first_row, requests_heard, row_heard}
use Rattle.attempts.specs.declared.Row.{Row}
use Rattle.places.specs.Places.{place_in, attempt_in, box_in, station_in}
use Rattle.places.proofs.PlaceLaws.{place_same}
use Rattle.parts.specs.Parts.{begin_in, serve_in, deliver_in, stop_in, leave_in, return_in, refusal_in, begun, served, received_only, read_ended, heard_by, delivered, turned_back, effect_in, change_in}
use Rattle.parts.specs.declared.Parts.{Parts}
use Rattle.parts.specs.declared.Changed.{Changed}
use Rattle.floor.specs.Floors.{box_at, station_at, row_at, register_at, department_at, used_of, highest_of, end_of, InUse, shares_with}
use Rattle.floor.specs.Free.{taken_by}
use Rattle.floor.specs.Departments.{belonging, department_with}
use Rattle.floor.specs.Refusals.{begin_refusal, serve_refusal, deliver_refusal, stop_refusal, leave_refusal, return_refusal, refusal_on}
use Rattle.floor.specs.Effects.{row_taken, received_on, verdict_on, heard_on, delivered_on, effect_on}
use Rattle.floor.specs.Step.{apply_of}
use Rattle.floor.specs.Soundness.{Sound}
use Rattle.floor.specs.declared.Floor.{Floor}
use Rattle.floor.specs.declared.Stepped.{Stepped}
use Rattle.floor.proofs.UseLaws.{share_same, in_use_most}
use Rattle.floor.proofs.RefusalLaws.{begin_means, serve_means, deliver_means, stop_means, leave_means, return_means}
use Rattle.floor.proofs.StepLaws.{apply_refused, apply_accepted}

-- the department that a command belongs to on a floor
abbrev pub step_department : Floor → Command → Department
step_department f c = let own = department_at f (place_in 16 (station_in 0 c)) in department_with own (belonging own c)

-- the places of the row, the box and the station that a command names on a floor
abbrev pub row_place : Floor → Command → ℕ
row_place f c = place_in 128 (attempt_in (taken_by f (step_department f c) c) c)

abbrev pub box_place : Command → ℕ
box_place c = place_in 9 (box_in c)

abbrev pub station_place : Floor → Command → ℕ
station_place f c = place_in 16 (station_in (row_at f (row_place f c)).station c)

-- the parts of a department at a row, a box and a station, where a begin takes the row `next`
abbrev pub parts_at : Floor → Department → ℕ → ℕ → ℕ → ℕ → Parts
parts_at f d next a b s =
    record {
      n = f.n;
      m = f.m;
      first = first_row d;
      used = used_of f d;
      next = next;
      highest = highest_of f d;
      row = row_at f a;
      register = register_at f d b;
      away = (box_at f b).away;
      station = station_at f s;
    }

-- the floor once these parts are stored at the places i, b and j: no other row, box or station is changed, and of the other department
-- nothing
abbrev pub stored_at : (f : Floor) (d : Department) (i b j : ℕ) (x : Parts) → Floor
stored_at f d i b j x =
    record {
      n = f.n;
      m = f.m;
      shares = shares_with d f (record { used = x.used; highest = x.highest });
      boxes = set f.boxes b (box_with d (box_at f b) x.register x.away);
      stations = set f.stations j x.station;
      rows = set f.rows i x.row;
    }

-- what a step looks at, and the floor with these parts replaced
abbrev pub look : Floor → Command → Parts
look f c = parts_at f (step_department f c) (taken_by f (step_department f c) c) (row_place f c) (box_place c) (station_place f c)

abbrev pub put : Floor → Command → Parts → Floor
put f c p = stored_at f (step_department f c) (row_place f c) (box_place c) (station_place f c) p

abbrev pub accepted : Floor → Command → Changed → Stepped
accepted f c y = record { floor = put f c y.parts; outcome = y.outcome }

-- two choices by one test that agree where it fails
same_else : {A : Type 0} (t : Bool) (k x y : A) → (t ≡ false → x ≡ y) → (when t then k else x) ≡ (when t then k else y)
unfolding when◌then◌else◌
same_else true k x y h = refl
same_else false k x y h = h refl

-- the same after two tests
same_past : (t u : Bool) (k j x y : ℕ) → (t ≡ false → u ≡ false → x ≡ y) → (when t then k else when u then j else x) ≡ (when t then k else when u then j else y)
same_past t u k j x y h = same_else t k (when u then j else x) (when u then j else y) (λ e. same_else u j x y (h e))

-- a function of a choice, where the tests agree and each branch leads to the other's
through : {A B : Type 0} (g : A → B) {t u : Bool} {x y : A} {v w : B} → t ≡ u → g x ≡ v → g y ≡ w → g (when t then x else y) ≡ (when u then v else w)
unfolding when◌then◌else◌
through g {t = true} e p q = rw (← e) p
through g {t = false} e p q = rw (← e) q

module _ (f : Floor) (z : Sound f) where
  at_station : (s : ℕ) → s < f.m → place_in 16 s ≡ s
  at_station s h = place_same 16 s (omega (arith, z.station_most))

  at_box : (b : ℕ) → b < f.n → place_in 9 b ≡ b
  at_box b h = place_same 9 b (omega (arith, z.box_most))

  at_row : (a : ℕ) → InUse f a → place_in 128 a ≡ a
  at_row a h = place_same 128 a (in_use_most f z a h)

  at_owner : (a : ℕ) → InUse f a → place_in 16 (row_at f a).station ≡ (row_at f a).station
  at_owner a h = at_station (row_at f a).station (z.stations a h)

  -- a step is refused alike
  pub refusal_join : (c : Command) → refusal_in (look f c) c ≡ refusal_on f c
  unfolding begin_in serve_in deliver_in stop_in leave_in return_in begin_refusal serve_refusal deliver_refusal stop_refusal leave_refusal return_refusal
  refusal_join (Begin s round v) = same_else _ _ _ _ (λ h. rw (at_station s (leb-false f.m s h)))
  refusal_join (Serve p a b) = same_past _ _ _ _ _ _ (λ h l. rw (at_row a (leb-false (end_of f (row_department a)) a h), at_box b (leb-false f.n b l)))
  refusal_join (Deliver p a b) = same_past _ _ _ _ _ _ (λ h _. rw (at_row a (leb-false (end_of f (row_department a)) a h), at_owner a (leb-false (end_of f (row_department a)) a h)))
  refusal_join (Stop b) = same_else _ _ _ _ (λ h. rw (at_box b (leb-false f.n b h)))
  refusal_join (Leave s) = same_else _ _ _ _ (λ h. rw (at_station s (leb-false f.m s h)))
  refusal_join (Return b) = same_else _ _ _ _ (λ h. rw (at_box b (leb-false f.n b h)))
  refusal_join Malformed = refl

  -- and leads to the same floor
  module _ (a b : ℕ) (h : InUse f a) where
    abbrev d : Department
    d = row_department a

    abbrev stores : Phase → Changed → Stepped
    stores p y = accepted f (Deliver p a b) y

    abbrev heard_in : Phase → Row
    heard_in p = row_heard p (look f (Deliver p a b)).row b

    received : (p : Phase) → stores p (received_only (look f (Deliver p a b)) a (heard_in p)) ≡ received_on f p a b
    received p = rw (at_row a h, at_owner a h, share_same d f, box_same d (box_at f (box_place (Deliver p a b))), set-get_or f.boxes _ box0, set-get_or f.stations _ station0)

    -- what the answers received come to
    heard : (p : Phase) (v : Verdict) → stores p (heard_by (look f (Deliver p a b)) p a (heard_in p) v) ≡ heard_on f p a b v
    unfolding read_ended
    heard p Open = received p
    heard Read Yes = rw (at_row a h, at_owner a h, share_same d f, box_same d (box_at f (box_place (Deliver Read a b))), set-get_or f.boxes _ box0)
    heard Write Yes = rw (at_row a h, at_owner a h, share_same d f, box_same d (box_at f (box_place (Deliver Write a b))), set-get_or f.boxes _ box0)
    heard p No = rw (at_row a h, at_owner a h, share_same d f, box_same d (box_at f (box_place (Deliver p a b))), set-get_or f.boxes _ box0)

    abbrev verdict_in : Phase → Verdict
    verdict_in p = verdict_of p (requests_heard p (look f (Deliver p a b)).row b) f.n

    same_verdict : (p : Phase) → verdict_in p ≡ verdict_on f p a b
    same_verdict p = rw (at_row a h)

    deliver_join : (p : Phase) → stores p (delivered (look f (Deliver p a b)) p a b) ≡ delivered_on f p a b
    unfolding delivered delivered_on
    deliver_join p =
        through (stores p) (rw (at_row a h, at_owner a h)) (heard p (verdict_in p) ∙ ap (heard_on f p a b) (same_verdict p)) (received p)

  pub effect_join : (c : Command) → refusal_on f c ≡ 0 → accepted f c (effect_in (look f c) c) ≡ effect_on f c
  unfolding begun served
  effect_join (Begin s round v) e =
      let d = begin_means f s round e in
      rw (at_station s d.station, place_same 128 (row_taken f s) d.row, box_same (department_at f s) (box_at f (place_in 9 0)), set-get_or f.boxes _ box0)
  effect_join (Serve p a b) e = let d = serve_means f p a b e in rw (at_box b d.box, at_row a d.used, share_same (row_department a) f, set-get_or f.stations _ station0)
  effect_join (Deliver p a b) e = deliver_join a b (deliver_means f p a b e).used p
  effect_join (Stop b) e =
      let d = step_department f (Stop b) in
      rw (at_box b (stop_means f b e).box, share_same d f, box_moved d (box_at f b) true, set-get_or f.stations _ station0, set-get_or f.rows _ row0)
  effect_join (Leave s) e =
      rw (at_station s (leave_means f s e).station, share_same (department_at f s) f, box_same (department_at f s) (box_at f (place_in 9 0)), set-get_or f.boxes _ box0, set-get_or f.rows _ row0)
  effect_join (Return b) e =
      let d = step_department f (Return b) in
      rw (at_box b (return_means f b e).box, share_same d f, box_moved d (box_at f b) false, set-get_or f.stations _ station0, set-get_or f.rows _ row0)
  effect_join Malformed e = absurd (omega (arith, e))

  -- the step on the parts says what the step on the floor says, and where it was accepted, the parts stored make its floor
  pub record Joined (c : Command) (y : Changed) : Type 0 where
    pub said : y.outcome ≡ (apply_of f c).outcome
    pub left : is_refused y.outcome ≡ false → put f c y.parts ≡ (apply_of f c).floor

  refused_join : (c : Command) → ¬ (refusal_on f c ≡ 0) → Joined c (turned_back (look f c) (refusal_in (look f c) c))
  refused_join c e = record {
    said = ap Refused (refusal_join c) ∙ sym (ap (λ (x : Stepped). x.outcome) (apply_refused f c z e));
    left = λ r. clash refl r;
  }

  accepted_join : (c : Command) → refusal_on f c ≡ 0 → Joined c (effect_in (look f c) c)
  accepted_join c e =
      let q = effect_join c e ∙ sym (apply_accepted f c z e) in
      record { said = ap (λ (x : Stepped). x.outcome) q; left = λ _. ap (λ (x : Stepped). x.floor) q }

  pub change_join : (c : Command) → Joined c (change_in (look f c) c)
  unfolding change_in
  change_join c =
      by_test (Joined c) (eqb (refusal_in (look f c) c) 0) _ _
      (λ t. accepted_join c (sym (refusal_join c) ∙ eqb-true _ _ t))
      (λ t. refused_join c (λ e. eqb-false _ _ t (refusal_join c ∙ e)))
