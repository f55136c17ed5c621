-- Two floors that are alike for a department: a step of it, or a box stop, that one of them accepts is accepted by the other, says the same,
-- and leaves them alike.
use Rattle.std.proofs.Common.{Option, Some}
use Prim.Native.Nat.{ℕ, zero, suc, ◌+◌, ◌<◌, ◌≤◌, max}
use native.Mathlib.Omega.{arith}
use native.Mathlib.Decide.{ℕ_discrete, dec_lt}
use mathlib.Core.Path.{◌≡◌, refl, sym, ap, ap₂, subst, ◌∙◌}
use mathlib.Core.Bool.{Bool, true, false}
use mathlib.Core.List.{List}
use lib.ListN.{length, get_or, set, length-set, get_or-eq_default}
use lib.Seq.{get_or-set_same, get_or-set_other}
use Rattle.suits.specs.declared.Suit.{Suit}
use Rattle.base.specs.Choice.{when◌then◌else◌}
use Rattle.register.specs.Register.{box0, register_of}
use Rattle.register.specs.declared.Department.{Department}
use Rattle.register.specs.declared.Register.{Register}
use Rattle.register.specs.declared.StorageBox.{StorageBox}
use Rattle.register.proofs.DepartmentLaws.{box_own, register_moved}
use Rattle.requests.specs.Requests.{of_phase}
use Rattle.requests.specs.declared.Phase.{Phase}
use Rattle.requests.specs.declared.Phase.TheVariants.{Read, Write}
use Rattle.requests.specs.declared.Verdict.{Verdict}
use Rattle.requests.specs.declared.Verdict.TheVariants.{Open, Yes, No}
use Rattle.commands.specs.declared.Command.{Command}
use Rattle.commands.specs.declared.Command.TheVariants.{Begin, Serve, Deliver, Stop, Leave, Return, Malformed}
use Rattle.commands.specs.declared.Outcome.TheVariants as said
use Rattle.base.specs.Numbers.{rank_of}
use Rattle.attempts.specs.Stations.{station0, with_state}
use Rattle.attempts.specs.Rows.{row0, row_department, first_row, new_row, used_after, issued, revision_of, row_heard}
use Rattle.attempts.specs.declared.State.TheVariants as state
use Rattle.attempts.specs.declared.State.{State}
use Rattle.attempts.specs.declared.Station.{Station}
use Rattle.attempts.specs.declared.Row.{Row}
use Rattle.attempts.proofs.RowDepartments.{row_own}
use Rattle.floor.specs.Floors.{box_at, station_at, row_at, owner_at, department_at, share_of, used_of, highest_of, InUse, with_share, with_box, with_register, with_station, with_row}
use Rattle.floor.specs.Free.{better_in, free_below, row_in, next_row}
use Rattle.floor.specs.Effects.{stepped, row_taken, beginner, heard_row, decider, after_abort, read_ended_on, write_ended_on, verdict_on, heard_on, received_on, delivered_on, with_away, effect_on}
use Rattle.floor.specs.Step.{apply_of}
use Rattle.floor.specs.Soundness.{Sound}
use Rattle.floor.specs.Tests.{CanBegin, CanServe, CanDeliver}
use Rattle.floor.specs.Departments.{Belonging, only, shared, department_of, SameFor, Owned}
use Rattle.floor.specs.declared.Share.{Share}
use Rattle.floor.specs.declared.Floor.{Floor}
use Rattle.floor.specs.declared.Stepped.{Stepped}
use Rattle.places.specs.declared.Lowest.{Lowest}
use Rattle.floor.proofs.UseLaws.{share_own, use_of, of_use}
use Rattle.floor.proofs.FreeLaws.{next_unused, next_full}
use Rattle.floor.proofs.RefusalLaws.{begin_means, begin_holds, serve_means, serve_holds, deliver_means, deliver_holds, stop_means, stop_holds, leave_means, leave_holds, return_means, return_holds}
use Rattle.floor.specs.Refusals.{refusal_on}
use Rattle.floor.proofs.StepLaws.{apply_accepted}

-- a part of what stands at a place, of two lists of one length after a store of elements that have that part in common
module _ {A B : Type 0} (part : A → B) (z : A) (l k : List A) (e : length k ≡ length l) (b : ℕ) (x y : A) (q : part y ≡ part x) where
  stored_there : part (get_or (set k b y) b z) ≡ part (get_or (set l b x) b z)
  stored_there = elim (dec_lt b (length l)) [
    | yes h ↦ ap part (get_or-set_same k b y z (omega (arith, e))) ∙ q ∙ ap part (sym (get_or-set_same l b x z h))
    | no h ↦
        ap part (get_or-eq_default (set k b y) z {n = b} (omega (arith, length-set k b y, e)))
        ∙ ap part (sym (get_or-eq_default (set l b x) z {n = b} (omega (arith, length-set l b x))))
  ]

  stored_part : (j : ℕ) → part (get_or k j z) ≡ part (get_or l j z) → part (get_or (set k b y) j z) ≡ part (get_or (set l b x) j z)
  stored_part j h = elim (ℕ_discrete j b) [
    | yes i ↦ subst (λ (c : ℕ). part (get_or (set k b y) c z) ≡ part (get_or (set l b x) c z)) (sym i) stored_there
    | no i ↦ ap part (get_or-set_other k b j y z i) ∙ h ∙ ap part (sym (get_or-set_other l b j x z i))
  ]

pub record Alike (d : Department) (f g : Floor) : Type 0 where
  pub boxes : g.n ≡ f.n
  pub stations : g.m ≡ f.m
  pub same : SameFor d f g
  pub away : (b : ℕ) → (box_at g b).away ≡ (box_at f b).away
  pub box_length : length g.boxes ≡ length f.boxes
  pub station_length : length g.stations ≡ length f.stations
  pub row_length : length g.rows ≡ length f.rows

-- one store into both
module _ {d : Department} {f g : Floor} (k : Alike d f g) where
  alike_row : (a : ℕ) (w : Row) → Alike d (with_row f a w) (with_row g a w)
  alike_row a w = record {
    boxes = k.boxes;
    stations = k.stations;
    same = record {
      registers = k.same.registers;
      share = k.same.share;
      rows = λ j e. stored_part (λ x. x) row0 f.rows g.rows k.row_length a w w refl j (k.same.rows j e);
      stations = k.same.stations;
      departments = k.same.departments;
    };
    away = k.away;
    box_length = k.box_length;
    station_length = k.station_length;
    row_length = length-set g.rows a w ∙ k.row_length ∙ sym (length-set f.rows a w);
  }

  alike_station : (s : ℕ) (x : Station) → Alike d (with_station f s x) (with_station g s x)
  alike_station s x = record {
    boxes = k.boxes;
    stations = k.stations;
    same = record {
      registers = k.same.registers;
      share = k.same.share;
      rows = k.same.rows;
      stations = λ j e. elim (ℕ_discrete j s) [
        | yes i ↦
            subst (λ (c : ℕ). get_or (set g.stations s x) c station0 ≡ get_or (set f.stations s x) c station0) (sym i)
            (stored_there (λ y. y) station0 f.stations g.stations k.station_length s x x refl)
        | no i ↦
            get_or-set_other g.stations s j x station0 i
            ∙ k.same.stations j (ap (λ (y : Station). y.department) (sym (get_or-set_other f.stations s j x station0 i)) ∙ e)
            ∙ sym (get_or-set_other f.stations s j x station0 i)
      ];
      departments = λ j. stored_part (λ (y : Station). y.department) station0 f.stations g.stations k.station_length s x x refl j (k.same.departments j);
    };
    away = k.away;
    box_length = k.box_length;
    station_length = length-set g.stations s x ∙ k.station_length ∙ sym (length-set f.stations s x);
    row_length = k.row_length;
  }

  alike_box : (b : ℕ) (x y : StorageBox) → register_of d y ≡ register_of d x → y.away ≡ x.away → Alike d (with_box f b x) (with_box g b y)
  alike_box b x y r t = record {
    boxes = k.boxes;
    stations = k.stations;
    same = record {
      registers = λ j. stored_part (register_of d) box0 f.boxes g.boxes k.box_length b x y r j (k.same.registers j);
      share = k.same.share;
      rows = k.same.rows;
      stations = k.same.stations;
      departments = k.same.departments;
    };
    away = λ j. stored_part (λ (z : StorageBox). z.away) box0 f.boxes g.boxes k.box_length b x y t j (k.away j);
    box_length = length-set g.boxes b y ∙ k.box_length ∙ sym (length-set f.boxes b x);
    station_length = k.station_length;
    row_length = k.row_length;
  }

  alike_register : (b : ℕ) (r : Register) → Alike d (with_register d f b r) (with_register d g b r)
  alike_register b r =
      alike_box b _ _ (box_own d (box_at g b) r (box_at g b).away ∙ sym (box_own d (box_at f b) r (box_at f b).away)) (k.away b)

  alike_share : (x : Share) → Alike d (with_share d f x) (with_share d g x)
  alike_share x = record {
    boxes = k.boxes;
    stations = k.stations;
    same = record {
      registers = k.same.registers;
      share = share_own d g x ∙ sym (share_own d f x);
      rows = k.same.rows;
      stations = k.same.stations;
      departments = k.same.departments;
    };
    away = k.away;
    box_length = k.box_length;
    station_length = k.station_length;
    row_length = k.row_length;
  }

  -- which row is free, and which one a begin takes
  better_alike : (x : Option Lowest) (w : Row) (st : State) (a : ℕ) → better_in x w st g.n a ≡ better_in x w st f.n a
  better_alike x w st a = rw k.boxes refl

  used_alike : used_of g d ≡ used_of f d
  used_alike = ap (λ (x : Share). x.used) k.same.share

  module _ (o : Owned f) where
    -- the station of a row in use of the department
    owner_alike : (a : ℕ) → row_department a ≡ d → InUse f a → owner_at g a ≡ owner_at f a
    owner_alike a e h = ap (λ (w : Row). station_at g w.station) (k.same.rows a e) ∙ k.same.stations (row_at f a).station (o a h ∙ e)

    found_alike : 64 ≤ used_of f d → (c : ℕ) → c ≤ 64 → free_below g d c ≡ free_below f d c
    unfolding free_below
    found_alike u zero h = refl
    found_alike u (suc c) h =
        let a = first_row d + c in
        let e = row_own d c (omega arith) in
        let p = owner_alike a e (of_use f d a e (omega arith)) in
        better_alike (free_below g d c) (row_at g a) (owner_at g a).state a
        ∙ ap (λ (s : State). better_in (free_below g d c) (row_at g a) s f.n a) (ap (λ (x : Station). x.state) p)
        ∙ ap₂ (λ (x : Option Lowest) (w : Row). better_in x w (owner_at f a).state f.n a) (found_alike u c (omega arith)) (k.same.rows a e)

    next_alike : next_row g d ≡ next_row f d
    next_alike = elim (dec_lt (used_of f d) 64) [
      | yes h ↦ next_unused g d (omega (arith, used_alike)) ∙ ap (λ (c : ℕ). first_row d + c) used_alike ∙ sym (next_unused f d h)
      | no h ↦
          next_full g d (omega (arith, used_alike)) ∙ ap row_in (found_alike (omega arith) 64 (omega arith)) ∙ sym (next_full f d (omega arith))
    ]

-- the step belongs to the department, or is shared
abbrev pub Kept : (d : Department) (x : Belonging) → Type 0
Kept d (only e) = e ≡ d
Kept d shared = Unit {0}

-- a step on the one, and on the other
pub record AlikeStep (d : Department) (x y : Stepped) : Type 0 where
  pub outcome : y.outcome ≡ x.outcome
  pub floor : Alike d x.floor y.floor

-- two choices by one test
by_choice : (d : Department) (t u : Bool) {x x' y y' : Stepped} → u ≡ t → AlikeStep d x y → AlikeStep d x' y' → AlikeStep d (when t then x else x') (when u then y else y')
unfolding when◌then◌else◌
by_choice d true u e p q = rw e p
by_choice d false u e p q = rw e q

module _ {d : Department} {f g : Floor} (k : Alike d f g) (o : Owned f) where
  -- a delivery
  module _ (p : Phase) (a b : ℕ) (e : row_department a ≡ d) (h : InUse f a) where
    row_alike : row_at g a ≡ row_at f a
    row_alike = k.same.rows a e

    station_alike : station_at g (row_at f a).station ≡ station_at f (row_at f a).station
    station_alike = k.same.stations (row_at f a).station (o a h ∙ e)

    received_alike : AlikeStep d (received_on f p a b) (received_on g p a b)
    received_alike = rw row_alike (record { outcome = refl; floor = alike_row k a _ })

    -- the row heard, which both have
    abbrev w : Row
    w = heard_row f p a b

    heard_same : heard_row g p a b ≡ w
    heard_same = ap (λ (x : Row). row_heard p x b) row_alike

    issued_alike : AlikeStep d (read_ended_on f a w) (read_ended_on g a (heard_row g p a b))
    issued_alike =
        subst (λ (x : Row). AlikeStep d (read_ended_on f a w) (read_ended_on g a x)) (sym heard_same)
        (subst (λ (n : ℕ). AlikeStep d (read_ended_on f a w) (stepped (with_station (with_row g a (issued w (revision_of w n) n)) w.station (with_state (station_at g w.station) (state.Writing a))) (said.WriteIssued (revision_of w n)))) (sym k.boxes)
        (subst (λ (x : Station). AlikeStep d (read_ended_on f a w) (stepped (with_station (with_row g a (issued w (revision_of w f.n) f.n)) w.station (with_state x (state.Writing a))) (said.WriteIssued (revision_of w f.n)))) (sym station_alike)
        (record { outcome = refl; floor = alike_station (alike_row k a (issued w (revision_of w f.n) f.n)) w.station (with_state (station_at f w.station) (state.Writing a)) })))

    decided_alike : AlikeStep d (write_ended_on f a w) (write_ended_on g a (heard_row g p a b))
    decided_alike =
        subst (λ (x : Row). AlikeStep d (write_ended_on f a w) (write_ended_on g a x)) (sym heard_same)
        (subst (λ (x : Station). AlikeStep d (write_ended_on f a w) (stepped (with_station (with_row g a w) w.station (record { department = x.department; state = state.Decided a; last = x.last; decided = Some w.written })) (said.Decided w.written))) (sym station_alike)
        (record { outcome = refl; floor = alike_station (alike_row k a w) w.station (decider f a w) }))

    aborted_alike : AlikeStep d (stepped (after_abort f a w) (said.Aborted a)) (stepped (after_abort g a (heard_row g p a b)) (said.Aborted a))
    aborted_alike =
        subst (λ (x : Row). AlikeStep d (stepped (after_abort f a w) (said.Aborted a)) (stepped (after_abort g a x) (said.Aborted a))) (sym heard_same)
        (subst (λ (x : Station). AlikeStep d (stepped (after_abort f a w) (said.Aborted a)) (stepped (with_station (with_row g a w) w.station (with_state x state.Idle)) (said.Aborted a))) (sym station_alike)
        (record { outcome = refl; floor = alike_station (alike_row k a w) w.station (with_state (station_at f w.station) state.Idle) }))

    ended_alike : (q : Phase) → AlikeStep d (of_phase q (read_ended_on f a (heard_row f p a b)) (write_ended_on f a (heard_row f p a b))) (of_phase q (read_ended_on g a (heard_row g p a b)) (write_ended_on g a (heard_row g p a b)))
    ended_alike Read = issued_alike
    ended_alike Write = decided_alike

    heard_alike : (v : Verdict) → AlikeStep d (heard_on f p a b v) (heard_on g p a b v)
    heard_alike Open = received_alike
    heard_alike Yes = ended_alike p
    heard_alike No = aborted_alike

    verdict_alike : verdict_on g p a b ≡ verdict_on f p a b
    verdict_alike = rw (row_alike, k.boxes) refl

    deliver_alike : AlikeStep d (delivered_on f p a b) (delivered_on g p a b)
    unfolding delivered_on
    deliver_alike =
        by_choice d _ _ (rw (row_alike, station_alike) refl)
        (subst (λ (v : Verdict). AlikeStep d (heard_on f p a b (verdict_on f p a b)) (heard_on g p a b v)) (sym verdict_alike) (heard_alike (verdict_on f p a b))) received_alike

  -- the row that a begin takes
  taken_alike : (s : ℕ) → department_at f s ≡ d → row_taken g s ≡ row_taken f s
  taken_alike s e = ap (next_row g) (k.same.departments s ∙ e) ∙ next_alike k o ∙ ap (next_row f) (sym e)

  -- the tests
  can_begin : (s round : ℕ) → department_at f s ≡ d → CanBegin f s round → CanBegin g s round
  can_begin s round e c =
      let q = k.same.stations s e in
      record {
        station = omega (arith, c.station, k.stations);
        here = rw q c.here;
        not_busy = rw q c.not_busy;
        later = rw q c.later;
        row = subst (λ (x : ℕ). x < 128) (sym (taken_alike s e)) c.row;
      }

  in_use_alike : (a : ℕ) → row_department a ≡ d → InUse f a → InUse g a
  in_use_alike a e h = of_use g d a e (omega (arith, use_of f d a e h, used_alike k))

  can_serve : (p : Phase) (a b : ℕ) → row_department a ≡ d → CanServe f p a b → CanServe g p a b
  can_serve p a b e c =
      record {
        used = in_use_alike a e c.used;
        box = omega (arith, c.box, k.boxes);
        not_away = k.away b ∙ c.not_away;
        waits = rw (k.same.rows a e) c.waits;
      }

  can_deliver : (p : Phase) (a b : ℕ) → row_department a ≡ d → CanDeliver f p a b → CanDeliver g p a b
  can_deliver p a b e c =
      record {
        used = in_use_alike a e c.used;
        box = omega (arith, c.box, k.boxes);
        here = rw (row_alike p a b e c.used, station_alike p a b e c.used) c.here;
        arrives = rw (k.same.rows a e) c.arrives;
      }

  -- a begin: the row taken, the station and the share of the department
  abbrev begins_as : (s round : ℕ) (v : Suit) (n a : ℕ) (e : Department) (x : Station) (y : Share) → Stepped
  begins_as s round v n a e x y =
      stepped
      (with_share e (with_station (with_row g a (new_row n s round v)) s (record { department = x.department; state = state.Reading a; last = round; decided = x.decided }))
      (record { used = used_after y.used; highest = max y.highest (rank_of round s) })) (said.Begun a)

  begin_alike : (s round : ℕ) (v : Suit) → department_at f s ≡ d → AlikeStep d (effect_on f (Begin s round v)) (effect_on g (Begin s round v))
  begin_alike s round v e =
      let x = effect_on f (Begin s round v) in
      let eg = k.same.departments s ∙ e in
      let to : AlikeStep d x (begins_as s round v f.n (row_taken f s) d (station_at f s) (share_of d f)) =
      subst (λ (y : Department). AlikeStep d
      (stepped (with_share y (with_station (with_row f (row_taken f s) (new_row f.n s round v)) s (beginner f s round)) (record { used = used_after (used_of f y); highest = max (highest_of f y) (rank_of round s) })) (said.Begun (row_taken f s)))
      (begins_as s round v f.n (row_taken f s) d (station_at f s) (share_of d f))) (sym e)
      (record { outcome = refl; floor = alike_share (alike_station (alike_row k (row_taken f s) (new_row f.n s round v)) s (beginner f s round)) (record { used = used_after (used_of f d); highest = max (highest_of f d) (rank_of round s) }) }) in
      subst (λ (y : Department). AlikeStep d x (begins_as s round v g.n (row_taken g s) y (station_at g s) (share_of y g))) (sym eg)
      (subst (λ (n : ℕ). AlikeStep d x (begins_as s round v n (row_taken g s) d (station_at g s) (share_of d g))) (sym k.boxes)
      (subst (λ (a : ℕ). AlikeStep d x (begins_as s round v f.n a d (station_at g s) (share_of d g))) (sym (taken_alike s e))
      (subst (λ (y : Station). AlikeStep d x (begins_as s round v f.n (row_taken f s) d y (share_of d g))) (sym (k.same.stations s e))
      (subst (λ (y : Share). AlikeStep d x (begins_as s round v f.n (row_taken f s) d (station_at f s) y)) (sym k.same.share) to))))

  -- a box is put away or brought back
  move_alike : (b : ℕ) (t : Bool) → Alike d (with_box f b (with_away t (box_at f b))) (with_box g b (with_away t (box_at g b)))
  move_alike b t = alike_box k b _ _ (register_moved d (box_at g b) t ∙ k.same.registers b ∙ sym (register_moved d (box_at f b) t)) refl

  -- an accepted step of the department, or one that moves a box
  effect_alike : (c : Command) → Kept d (department_of f c) → refusal_on f c ≡ 0 → (refusal_on g c ≡ 0) × AlikeStep d (effect_on f c) (effect_on g c)
  effect_alike (Begin s round v) e h =
      let c = begin_means f s round h in
      (begin_holds g s round (can_begin s round e c), begin_alike s round v e)
  effect_alike (Serve p a b) e h =
      let c = serve_means f p a b h in (
        serve_holds g p a b (can_serve p a b e c),
        rw (e, k.same.rows a e, k.same.registers b) (record { outcome = refl; floor = alike_row (alike_register k b _) a _ }),
      )
  effect_alike (Deliver p a b) e h =
      let c = deliver_means f p a b h in
      (deliver_holds g p a b (can_deliver p a b e c), deliver_alike p a b e c.used)
  effect_alike (Stop b) e h =
      let c = stop_means f b h in (
        stop_holds g b (record { box = omega (arith, c.box, k.boxes); not_away = k.away b ∙ c.not_away }),
        record { outcome = refl; floor = move_alike b true },
      )
  effect_alike (Leave s) e h =
      let c = leave_means f s h in
      let q = k.same.stations s e in (
        leave_holds g s (record { station = omega (arith, c.station, k.stations); here = rw q c.here }),
        rw q (record { outcome = refl; floor = alike_station k s _ }),
      )
  effect_alike (Return b) e h =
      let c = return_means f b h in (
        return_holds g b (record { box = omega (arith, c.box, k.boxes); away = k.away b ∙ c.away }),
        record { outcome = refl; floor = move_alike b false },
      )
  effect_alike Malformed e h = absurd (omega (arith, h))

  -- a step that f accepts
  pub step_alike : Sound f → Sound g → (c : Command) → Kept d (department_of f c) → refusal_on f c ≡ 0 → AlikeStep d (apply_of f c) (apply_of g c)
  step_alike y z c e h =
      let q = effect_alike c e h in
      rw (apply_accepted f c y h, apply_accepted g c z q.0) q.1
