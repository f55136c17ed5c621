-- Demand 3, for every list of records and any n, m and departments.
use Prim.Native.Nat.{ℕ, zero, suc, ◌+◌, ◌≤◌, ◌<◌, ◌*◌}
use native.Mathlib.Nat.{add-zero}
use native.Mathlib.Omega.{arith}
use mathlib.Core.Path.{◌≡◌, refl, sym, ap, subst, ◌∙◌}
use mathlib.Core.Bool.{false}
use mathlib.Core.List.{List, [], ◌++◌}
use lib.ListN.{length, get_or, take}
use lib.Seq.{get_or-take, get_or-append-add, length-take-le}
use Rattle.suits.specs.Suits.{FourBytes}
use Rattle.suits.specs.declared.Suit.{Suit}
use Rattle.base.proofs.QuorumLaws.{at_least_map}
use Rattle.runs.specs.Runs.{state_at}
use Rattle.floor.specs.Floors.{row_at}
use Rattle.attempts.specs.Rows.{new_row}
use Rattle.commands.specs.Commands.{command_of}
use Rattle.commands.specs.Outcomes.{is_refused}
use Rattle.floor.specs.Step.{step_of}
use Rattle.attempts.specs.declared.Row.{Row}
use Rattle.floor.specs.Effects.{row_taken}
use Rattle.floor.specs.declared.Floor.{Floor}
use Rattle.floor.specs.declared.Stepped.{Stepped}
use Rattle.commands.specs.declared.Command.{Command}
use Rattle.commands.specs.declared.Command.TheVariants.{Begin}
use Rattle.commands.specs.declared.Outcome.TheVariants as said
use Rattle.base.proofs.Cases.{clash}
use Rattle.floor.proofs.StepCases.{StepCase, turned, began, step_case}
use Rattle.floor.specs.Soundness.{Lengths}
use Rattle.floor.proofs.EmptyFloors.{new_sound}
use Rattle.floor.proofs.StoredLaws.{row_stored}
use Rattle.floor.proofs.RowLaws.{apply_not_begun, row_same}
use Rattle.solo.specs.Plan.{round_of, plan_of}
use Rattle.solo.specs.Solo.{solo_of}
use Rattle.solo.specs.Claims.{Counted, Lawful, Ready, DecidesAlone}
use Rattle.solo.specs.declared.Solo.{Solo}
use Rattle.solo.proofs.CountLaws.{solo_counted}
use Rattle.base.proofs.RecordLaws.{all_take}
use Rattle.solo.proofs.LawfulLaws.{after_lawful, new_lawful}
use Rattle.solo.proofs.Decides.{solo_decides}
use Rattle.solo.proofs.PlanLaws.{plan_begins}
use Rattle.solo.proofs.PlanRecords.{plan_records}
use Rattle.floor.specs.Runs.{command_at}
use Rattle.agreement.specs.Words.{DecidesAt}
use Rattle.floor.specs.Runs.{floor_at, floor_left, said_at}
use Rattle.floor.specs.Floors.{first_floor}
use Rattle.agreement.specs.Demand.{DrivenAlone, Demand3Theorem, trace_of}
use Rattle.agreement.proofs.Positions.{means_at}
use Rattle.agreement.proofs.Safety.{decides_at, shown, safety}
use Rattle.agreement.proofs.Shares.{own_department}
use Rattle.floor.proofs.ListLaws.{floor_behind, said_behind, left_behind, said_taken, left_taken}
use Rattle.floor.proofs.Reached.{New, new_floor_lem, size_at, department_at_lem}
use Rattle.base.specs.Numbers.{quorum}
use Rattle.agreement.proofs.Alone.{ready, plan_delivers, NoBegin, plan_no_begin}

-- the row that an accepted begin takes is its station's
begun_row : {f : Floor} (s round : ℕ) (v : Suit) {st : Stepped} → Lengths f → StepCase f (Begin s round v) st → is_refused st.outcome ≡ false
    → (row_at st.floor (row_taken f s)).station ≡ s
unfolding new_row
begun_row s r v y (turned k t) e = clash refl e
begun_row {f} s r v y (began z d) e = ap (λ (w : Row). w.station) (row_stored f y z (row_taken f s) (new_row f.n s r v) d.row)

-- a list that starts with an accepted begin, and has no other: the row that it took stays its station's
module _ (g : Floor) (y : Lengths g) (l : List (List ℕ)) (s round : ℕ) (v : Suit) (first : command_at l 0 ≡ Begin s round v) (ok : is_refused (said_at g l 0) ≡ false)
    (rest : (i : ℕ) → suc i < length l → NoBegin (get_or l (suc i) [])) where
  own_row : (i : ℕ) → i < length l → (row_at (floor_at g l (suc i)) (row_taken g s)).station ≡ s
  unfolding state_at step_of
  own_row zero h = begun_row s round v y (subst (λ (c : Command). StepCase g c (step_of g (get_or l 0 []))) first (step_case g (get_or l 0 []))) ok
  own_row (suc i) h =
      (row_same (floor_at g l (suc i)) (command_at l (suc i)) (row_taken g s) (apply_not_begun (floor_at g l (suc i)) (command_at l (suc i)) (rest i h) (row_taken g s))).station
      ∙ own_row i (omega arith)

module _ (f : Floor) (l : List (List ℕ)) (new : New f) (s : ℕ) (v : Suit) (y : Lawful (floor_left f l)) (x : Ready (floor_left f l) s) (h : FourBytes v) where
  abbrev g : Floor
  g = floor_left f l

  abbrev d : Solo
  d = solo_of g s v

  abbrev plan : List (List ℕ)
  plan = plan_of g s v

  abbrev steps : List (List ℕ)
  steps = take d.steps plan

  counted_steps : Counted g plan d
  counted_steps = solo_counted g s v

  decided_steps : DecidesAlone g d
  decided_steps = solo_decides g s v y x

  number : d.steps ≡ length steps
  number = sym (length-take-le d.steps plan counted_steps.within)

  -- a record of its steps is one of its plan
  step_planned : (i : ℕ) → i < length steps → (i < length plan) × (get_or steps i [] ≡ get_or plan i [])
  step_planned i k = (omega (arith, counted_steps.within, number), get_or-take d.steps plan i [] (omega (arith, number)))

  accepted : (i : ℕ) → i < length steps → is_refused (said_at g steps i) ≡ false
  accepted i k = let h : i < d.steps = omega (arith, number) in ap is_refused (said_taken g plan d.steps i h) ∙ counted_steps.accepted i h

  -- its last step says decided
  last_said : (i : ℕ) → suc i ≡ length steps → said_at g steps i ≡ said.Decided decided_steps.revision
  last_said i q =
      said_taken g plan d.steps i (omega (arith, number))
      ∙ counted_steps.last (ap is_refused decided_steps.said) i (omega (arith, number)) ∙ decided_steps.said

  some : 5 ≤ length steps
  some = omega (arith, number, decided_steps.steps)

  first_step : command_at steps 0 ≡ Begin s (round_of g s) v
  first_step = ap command_of (step_planned 0 (omega (arith, some))).1 ∙ plan_begins g s v

  rest_steps : (i : ℕ) → suc i < length steps → NoBegin (get_or steps (suc i) [])
  rest_steps i h = let p = step_planned (suc i) h in subst NoBegin (sym p.1) (plan_no_begin g s v i p.0)

  decides : (i : ℕ) → suc i ≡ length steps → DecidesAt (trace_of f (l ++ steps)) s decided_steps.revision (length l + i)
  decides i q =
      let e = said_behind f l steps i ∙ last_said i q in
      let m = means_at f (l ++ steps) new (length l + i) (said.Decided decided_steps.revision) e in
      let p = step_planned i (omega arith) in
      let r : get_or (l ++ steps) (length l + i) [] ≡ get_or plan i [] = get_or-append-add l steps i [] ∙ p.1 in
      let a = plan_delivers g s v i p.0 m.attempt m.box (ap command_of (sym r) ∙ m.answer.command) in
      decides_at f (l ++ steps) new (length l + i) s decided_steps.revision m.attempt m.box m.answer.command m.answer.may.used (own i q m.attempt a) e
    where
      own : (i : ℕ) → suc i ≡ length steps → (a : ℕ) → a ≡ row_taken g s → (row_at (floor_at f (l ++ steps) (length l + i)) a).station ≡ s
      own zero q a e = absurd (omega (arith, some))
      own (suc i) q a e =
          rw (floor_behind f l steps (suc i), e) (own_row g y.lengths steps s (round_of g s) v first_step (accepted 0 (omega (arith, some))) rest_steps i (omega (arith, q)))

  length_steps : length steps ≡ 4 * quorum f.n + 1
  length_steps = omega (arith, number, decided_steps.steps, size_at f l (length l))

  alone : DrivenAlone f l s v (4 * quorum f.n + 1) d
  alone = record {
    steps = steps;
    records = all_take d.steps plan (plan_records g s v (omega (arith, x.station, y.sound.station_most)) h x.round (omega (arith, x.row)) (omega (arith, y.sound.box_most)));
    count = length_steps;
    alone = record {
      round = round_of g s;
      begins = ap command_of (ap (λ (k : ℕ). get_or (l ++ steps) k []) (sym (add-zero (length l))) ∙ get_or-append-add l steps 0 []) ∙ first_step;
      accepted = λ i k. ap is_refused (said_behind f l steps i) ∙ accepted i (omega (arith, length_steps));
      revision = decided_steps.revision;
      decides = λ i q. decides i (omega (arith, q, length_steps));
    };
    floor = left_behind f l steps ∙ left_taken g plan d.steps counted_steps.within ∙ sym counted_steps.reached;
    outcome = decided_steps.said;
    number = number ∙ length_steps;
  }

pub demand3 : Demand3Theorem
demand3 n m ds l = let f = first_floor n m ds in let new = new_floor_lem n m ds in record {
  safety = safety f l new;
  shown = shown f l new;
  own = own_department f l new;
  kept = department_at_lem f l;
  solo = λ s v place idle boxes row round h.
      alone f l new s v (after_lawful f l (length l) (new_lawful n m ds)) (ready f l new (new_sound n m ds) s (length l) place idle (at_least_map (omega arith) (λ b a. a) boxes) row round) (omega arith);
}
