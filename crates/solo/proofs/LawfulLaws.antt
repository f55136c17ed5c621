-- A new floor is lawful, and every step keeps a lawful floor lawful.
use Prim.Native.Nat.{ℕ, ◌≤◌, ◌<◌}
use native.Mathlib.Omega.{arith}
use mathlib.Core.Path.{◌≡◌, refl, ap, subst, ◌∙◌}
use mathlib.Core.Logic.{inl, inr}
use mathlib.Core.List.{List, []}
use lib.ListN.{length}
use Rattle.suits.specs.declared.Suit.{Suit}
use Rattle.base.specs.Numbers.{rank_of}
use Rattle.register.specs.Register.{box0, register_of}
use Rattle.register.specs.declared.Department.{Department}
use Rattle.register.specs.declared.Department.TheVariants.{Sails, Canvas}
use Rattle.attempts.specs.Rows.{new_row, row_department}
use Rattle.runs.proofs.ListLaws.{state_keeps}
use Rattle.floor.specs.Soundness.{Sound, Lengths}
use Rattle.floor.specs.Floors.{row_at, department_at, share_of, highest_of, InUse, empty_floor, new_floor_of}
use Rattle.floor.specs.Effects.{row_taken, share_after, after_begin}
use Rattle.floor.specs.declared.Share.{Share}
use Rattle.floor.proofs.UseLaws.{share_own}
use Rattle.floor.proofs.FreeLaws.{next_own}
use Rattle.commands.specs.Commands.{command_of}
use Rattle.commands.specs.Outcomes.{is_refused, is_begun}
use Rattle.floor.specs.Step.{apply_of, step_of}
use Rattle.floor.specs.Runs.{floor_at}
use Rattle.base.proofs.Cases.{clash}
use Rattle.base.proofs.Stores.{get_d_same}
use Rattle.base.specs.Claims.{Sizes}
use Rattle.floor.proofs.StepCases.{StepCase, turned, began, served, heard, issued, decided, aborted, stopped, left, returned, apply_case}
use Rattle.floor.proofs.Keeps.{apply_keeps}
use Rattle.floor.proofs.LengthLaws.{apply_lengths}
use Rattle.floor.proofs.EmptyFloors.{empty_sound, empty_lengths, empty_unused, told_at, new_floor_by}
use Rattle.floor.proofs.StoredLaws.{row_stored}
use Rattle.floor.proofs.BoxLaws.{box_grown}
use Rattle.floor.proofs.RowLaws.{apply_share, apply_in_use, row_same}
use Rattle.floor.proofs.StationLaws.{last_from, department_stays}
use Rattle.attempts.specs.declared.Row.{Row}
use Rattle.attempts.specs.declared.Station.{Station}
use Rattle.floor.specs.declared.Floor.{Floor}
use Rattle.floor.specs.declared.Stepped.{Stepped}
use Rattle.commands.specs.declared.Outcome.TheVariants.{Begun}
use Rattle.commands.specs.declared.Command.{Command}
use Rattle.commands.specs.declared.Command.TheVariants.{Begin}
use Rattle.solo.specs.Claims.{Lawful}

module _ (f : Floor) (s round : ℕ) (v : Suit) where
  abbrev begun_floor : Floor
  begun_floor = after_begin f s round v

  -- what the department of the station has once it began
  begun_share : share_of (department_at f s) begun_floor ≡ share_after f s round
  begun_share = share_own (department_at f s) f (share_after f s round)

  -- the rank begun is at most the highest of its department
  begun_highest : rank_of round s ≤ highest_of begun_floor (department_at f s)
  begun_highest = omega (arith, ap (λ (x : Share). x.highest) begun_share)

  -- the row taken has its rank
  taken_ranked : Lengths f → Sound f → row_taken f s < 128 → (row_at begun_floor (row_taken f s)).rank ≤ highest_of begun_floor (row_department (row_taken f s))
  unfolding new_row
  taken_ranked y z h =
      rw (next_own f (department_at f s) h)
      (omega (arith, begun_highest, ap (λ (w : Row). w.rank) (row_stored f y z (row_taken f s) (new_row f.n s round v) h)))

begun_ranked : {f : Floor} {s round : ℕ} {v : Suit} {x : Stepped} → StepCase f (Begin s round v) x → x.outcome ≡ Begun (row_taken f s) → rank_of round s ≤ highest_of x.floor (department_at f s)
begun_ranked (turned k t) e = clash refl (ap is_refused e)
begun_ranked {f} (began {s = s} {round = r} {v = v} z d) e = begun_highest f s r v

-- the row begun, whichever step said so
begun_rows : {f : Floor} {c : Command} {x : Stepped} → Lengths f → StepCase f c x → (a : ℕ) → x.outcome ≡ Begun a → (row_at x.floor a).rank ≤ highest_of x.floor (row_department a)
begun_rows y (turned k t) a e = clash refl (ap is_refused e)
begun_rows {f} y (began {s = s} {round = r} {v = v} z d) a e =
    let q : row_taken f s ≡ a = cc in
    subst (λ (i : ℕ). (row_at (after_begin f s r v) i).rank ≤ highest_of (after_begin f s r v) (row_department i)) q (taken_ranked f s r v y z d.row)
begun_rows y (served z d) a e = clash (ap is_begun e) refl
begun_rows y (heard z d q) a e = clash (ap is_begun e) refl
begun_rows y (issued z d r q t) a e = clash (ap is_begun e) refl
begun_rows y (decided z d r q t) a e = clash (ap is_begun e) refl
begun_rows y (aborted z d r q t) a e = clash (ap is_begun e) refl
begun_rows y (stopped z d) a e = clash (ap is_begun e) refl
begun_rows y (left z d) a e = clash (ap is_begun e) refl
begun_rows y (returned z d) a e = clash (ap is_begun e) refl

module _ (f : Floor) (c : Command) where
  abbrev g : Floor
  g = (apply_of f c).floor

  -- the highest rank begun of a department never falls
  highest_rises : (d : Department) → highest_of f d ≤ highest_of g d
  highest_rises d = elim (apply_share f c d) [
    | inl e ↦ omega (arith, ap (λ (x : Share). x.highest) e)
    | inr r ↦ omega (arith, ap (λ (x : Share). x.highest) r.share, ap (λ (e : Department). highest_of f e) r.of)
  ]

  -- no row in use has a higher one
  rows_ranked : Lawful f → (a : ℕ) → InUse g a → (row_at g a).rank ≤ highest_of g (row_department a)
  rows_ranked y a h = elim (apply_in_use f c a h) [
    | inl e ↦ begun_rows y.lengths (apply_case f c) a e
    | inr u ↦ omega (arith, (row_same f c a u.1).rank, y.rows a u.0, highest_rises (row_department a))
  ]

  -- a rank that a row of the department has
  row_rank : Lawful f → (d : Department) (r : ℕ) → (a : ℕ) × InUse f a × (row_department a ≡ d) × (r ≡ (row_at f a).rank) → r ≤ highest_of g d
  row_rank y d r h = omega (arith, h.3, y.rows h.0 h.1, ap (λ (e : Department). highest_of f e) h.2, highest_rises d)

  pub apply_lawful : Lawful f → Lawful g
  apply_lawful y = record {
    sound = apply_keeps f c y.sound;
    lengths = apply_lengths f c y.lengths;
    rows = rows_ranked y;
    read = λ d b. elim (box_grown f c b d).read_from [
      | inl e ↦ omega (arith, e, y.read d b, highest_rises d)
      | inr h ↦ row_rank y d _ h
    ];
    write = λ d b. elim (box_grown f c b d).held_from [
      | inl e ↦ omega (arith, e.0, y.write d b, highest_rises d)
      | inr h ↦ row_rank y d _ (h.0, h.1, h.2, h.3)
    ];
    last = λ s. elim (last_from f c s) [
      | inl e ↦ elim (y.last s) [
        | inl z ↦ inl (e ∙ z)
        | inr h ↦ inr (rw (department_stays f c s) (omega (arith, e, h, highest_rises (department_at f s))))
      ]
      | inr b ↦ inr (rw (department_stays f c s) (begun_ranked (subst (λ (x : Command). StepCase f x (apply_of f c)) b.command (apply_case f c)) b.outcome))
    ];
  }

pub step_lawful : (f : Floor) (r : List ℕ) → Lawful f → Lawful (step_of f r).floor
unfolding step_of
step_lawful f r = apply_lawful f (command_of r)

-- after any steps of a list, refused ones too
pub after_lawful : (f : Floor) (l : List (List ℕ)) (i : ℕ) → Lawful f → Lawful (floor_at f l i)
after_lawful f l i y = state_keeps [] _ Lawful step_lawful f l y i

empty_lawful : (n m : ℕ) (l : List ℕ) → Sizes n m → Lawful (empty_floor n m l)
empty_lawful n m l z = record {
  sound = empty_sound n m l z;
  lengths = empty_lengths n m l;
  rows = λ a h. absurd (empty_unused n m l a h);
  read = λ d b. rw (get_d_same 9 b box0) (none d).0;
  write = λ d b. rw (get_d_same 9 b box0) (none d).1;
  last = λ s. inl (ap (λ (x : Station). x.last) (told_at l (length l) s));
}
  where
    none : (d : Department) → ((register_of d box0).read ≤ highest_of (empty_floor n m l) d) × ((register_of d box0).write ≤ highest_of (empty_floor n m l) d)
    none Sails = (omega arith, omega arith)
    none Canvas = (omega arith, omega arith)

pub new_lawful : (n m : ℕ) (l : List ℕ) → Lawful (new_floor_of n m l).floor
new_lawful n m l =
    new_floor_by Lawful n m l (λ z _. empty_lawful n m l z)
    (empty_lawful 1 1 [] (record { box_least = omega arith; box_most = omega arith; station_least = omega arith; station_most = omega arith }))
