-- A solo finish where all 64 rows are used: the floor behind `crowd` computed, and the words of demand 3 from what it shows.
use Prim.Native.Nat.{ℕ, ◌<◌, ◌+◌, ◌*◌}
use native.Mathlib.Omega.{arith}
use mathlib.Core.Path.{◌≡◌, refl, sym, ap, subst, ◌∙◌}
use mathlib.Core.Logic.{inl, inr}
use mathlib.Core.Bool.{true, false}
use mathlib.Core.List.{List, [], ◌∷◌}
use lib.ListN.{length}
use lib.Count.{ones, ones_in}
use Rattle.suits.specs.Suits.{FourBytes}
use Rattle.suits.specs.declared.Suit.{Suit}
use Rattle.base.specs.Choice.{when◌then◌else◌}
use Rattle.base.specs.Numbers.{sizes_right, quorum}
use Rattle.base.specs.Departments.{departments_wrong, not_departments, not_department}
use Rattle.base.specs.Quorum.{count}
use Rattle.base.specs.Mask.{bit, set_bit, count_below}
use Rattle.register.specs.Register.{outranks, rmw_read, rmw_write, takes}
use Rattle.register.specs.declared.Department.TheVariants.{Sails}
use Rattle.requests.specs.Requests.{standing, at_quorum, waiting_below, still_yes, all_yes, read_verdict, write_verdict}
use Rattle.commands.specs.Commands.{command_of, all_zero, spared}
use Rattle.attempts.specs.Rows.{row_department, new_row, used_after, waits_at, better, higher, best_of, revision_from, revision_of, issued}
use Rattle.runs.specs.Runs.{state_at}
use Rattle.floor.specs.Floors.{box_at, station_at, department_at, highest_of, used_of, department_from, stations_told, new_floor_of}
use Rattle.floor.specs.Sound.{stations_below, share_sound, sound_of}
use Rattle.places.specs.Search.{lower_in}
use Rattle.floor.specs.Free.{is_free, next_row, free_in, all_served, still_served, free_below, better_in}
use Rattle.floor.specs.Refusals.{begin_refusal, serve_refusal, deliver_refusal}
use Rattle.floor.specs.Effects.{delivered_on}
use Rattle.floor.specs.Step.{step_of, apply_of, play_of}
use Rattle.floor.specs.Runs.{floor_at, floor_left}
use Rattle.agreement.specs.Words.{attempts_before, IdleAt, Answering, RowLeft, free}
use Rattle.agreement.specs.Demand.{DrivenAlone, trace_of}
use Rattle.agreement.specs.Worked.{pair, contest, crowd}
use Rattle.attempts.specs.declared.State.TheVariants.{Idle}
use Rattle.attempts.proofs.RowDepartments.{sails_row}
use Rattle.floor.proofs.UseLaws.{of_use}
use Rattle.solo.specs.Solo.{solo_of}
use Rattle.agreement.proofs.Demand.{demand3}
use Rattle.agreement.proofs.Consequences.{consequences}
use Rattle.agreement.proofs.GivenBack.{given_back}

-- the floor behind `crowd`
record Computed : Type 0 where
  size : length crowd ≡ 191
  sizes : (pair.n ≡ 1) × (pair.m ≡ 2) × (department_at pair 0 ≡ Sails) × (count (λ b. true) 1 ≡ 1)
  used : used_of (floor_at pair crowd 191) Sails ≡ 64
  free : is_free (floor_at pair crowd 191) 1 ≡ true
  idle : (station_at (floor_at pair crowd 191) 0).state ≡ Idle
  answers : (box_at (floor_at pair crowd 191) 0).away ≡ false
  highest : highest_of (floor_at pair crowd 191) Sails ≡ 16001

computed : Computed
unfolding contest state_at count when◌then◌else◌ sizes_right departments_wrong not_departments not_department department_from stations_told new_floor_of step_of apply_of play_of sound_of share_sound stations_below row_department command_of all_zero spared begin_refusal serve_refusal deliver_refusal standing bit set_bit count_below ones ones_in at_quorum new_row next_row used_after free_in all_served still_served free_below better_in lower_in waits_at waiting_below outranks rmw_read rmw_write takes delivered_on better higher best_of revision_from revision_of issued still_yes all_yes read_verdict write_verdict
computed = record { size = refl; sizes = (refl, refl, refl, refl); used = refl; free = refl; idle = refl; answers = refl; highest = refl }

pub used_up : ¬ (attempts_before (trace_of pair crowd) Sails (length crowd) < 64)
used_up h = elim ((given_back 1 2 (0 ∷ 0 ∷ []) crowd).used Sails 191) [
  | inl q ↦ omega (arith, q.1, computed.used, ap (attempts_before (trace_of pair crowd) Sails) computed.size)
  | inr q ↦ omega (arith, q.0, ap (attempts_before (trace_of pair crowd) Sails) computed.size)
]

-- row 1 is free, and station 0 idle
pub alone_reused : (v : Suit) → FourBytes v → DrivenAlone pair crowd 0 v 5 (solo_of (floor_left pair crowd) 0 v)
alone_reused v q =
    let ds : List ℕ = 0 ∷ 0 ∷ [] in
    let l = crowd in
    let k = computed.size in
    subst (λ (n : ℕ). DrivenAlone pair l 0 v (4 * quorum n + 1) (solo_of (floor_left pair l) 0 v)) computed.sizes.0
    ((demand3 1 2 ds l).solo 0 v (omega (arith, computed.sizes.1))
    (subst (IdleAt (trace_of pair l) 0) (sym k) ((consequences 1 2 ds l).idle_holds 0 191 computed.idle))
    (record {
      set = λ b. true;
      large = rw computed.sizes.0 (omega (arith, computed.sizes.3));
      each = λ b h _. subst (λ (i : ℕ). Answering (trace_of pair l) i b) (sym k)
          ((consequences 1 2 ds l).answers b 191 (let e : b ≡ 0 = omega (arith, computed.sizes.0) in ap (λ (c : ℕ). (box_at (floor_at pair l 191) c).away) e ∙ computed.answers));
    })
    (rw computed.sizes.2 (subst (RowLeft (trace_of pair l) Sails) (sym k)
    (free 1 (sails_row 1 (omega arith)) ((given_back 1 2 ds l).free 1 191 (of_use (floor_at pair l 191) Sails 1 (sails_row 1 (omega arith)) (omega (arith, computed.used))) computed.free))))
    (rw computed.sizes.2 (record {
      round = 1001;
      least = omega arith;
      most = omega arith;
      outranks = λ x h d. omega (arith, ((given_back 1 2 ds l).highest Sails 191).each x (omega (arith, k)) d, computed.highest);
    }))
    q)
