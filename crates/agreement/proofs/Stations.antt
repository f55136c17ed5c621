-- In which attempt a station is, and that it is idle, read off the list.
use Rattle.std.proofs.Common.{Some}
use Prim.Native.Nat.{ℕ, zero, suc, ◌<◌}
use native.Mathlib.Omega.{arith}
use mathlib.Core.Path.{◌≡◌, refl, sym, ap, ◌∙◌}
use mathlib.Core.Logic.{◌⊎◌, inl, inr}
use mathlib.Core.Bool.{true}
use mathlib.Core.List.{List}
use borrow.Author.Tests.{eqb-true, eq-eqb}
use Rattle.suits.specs.declared.Suit.{Suit}
use Rattle.runs.specs.Runs.{state_at}
use Rattle.floor.specs.Floors.{station_at, row_at, InUse}
use Rattle.attempts.specs.Stations.{is_gone, is_active}
use Rattle.commands.specs.declared.Command.{Command}
use Rattle.floor.specs.Moves.{StationMove, station_kept, station_begins, station_issues, station_decides, station_aborts, station_leaves}
use Rattle.floor.specs.Step.{step_of}
use Rattle.attempts.specs.declared.State.{State}
use Rattle.attempts.specs.declared.State.TheVariants.{Idle, Reading, Writing, Decided, Gone}
use Rattle.attempts.specs.declared.Station.{Station}
use Rattle.floor.specs.declared.Floor.{Floor}
use Rattle.commands.specs.declared.Outcome.{Outcome}
use Rattle.commands.specs.declared.Outcome.TheVariants as said
use Rattle.base.specs.Positions.{Before}
use Rattle.base.proofs.Positions.{later, now}
use Rattle.base.proofs.Cases.{clash, up_to}
use Rattle.floor.proofs.Moves.{apply_station}
use Rattle.floor.proofs.StationLaws.{gone_from, active_from}
use Rattle.agreement.specs.Words.{Attempt, Named, AbortsAt, IdleAt}
use Rattle.floor.specs.Runs.{command_at}
use Rattle.floor.specs.Runs.{floor_at, said_at}
use Rattle.agreement.proofs.Positions.{means_at, row_at_lem, reads_in, writes_in}
use Rattle.agreement.specs.Demand.{trace_of}
use Rattle.floor.proofs.Outcomes.{aborted_owner}
use Rattle.floor.proofs.Reached.{lengths_at, New}
use Rattle.agreement.proofs.Safety.{shown_decided}

-- a station that decided shows a revision, where it did before
decided_moves : {f : Floor} {c : Command} {j : ℕ} {o : Outcome} {x : Station} → StationMove f c j o x → ((a : ℕ) → (station_at f j).state ≡ Decided a → (u : Suit) × ((station_at f j).decided ≡ Some u))
    → (a : ℕ) → x.state ≡ Decided a → (u : Suit) × (x.decided ≡ Some u)
decided_moves station_kept h a e = h a e
decided_moves (station_begins c g b l) h a e = absurd (let k : ◌≡◌ {A = ℕ} 0 1 = cc in omega arith)
decided_moves (station_issues c u w r) h a e = absurd (let k : ◌≡◌ {A = ℕ} 0 1 = cc in omega arith)
decided_moves (station_decides {v = v} c u w r q) h a e = (v, refl)
decided_moves (station_aborts c u w r) h a e = absurd (let k : ◌≡◌ {A = ℕ} 0 1 = cc in omega arith)
decided_moves (station_leaves c g) h a e = absurd (let k : ◌≡◌ {A = ℕ} 0 1 = cc in omega arith)

module _ (f : Floor) (l : List (List ℕ)) (new : New f) where
  -- a station that reads or writes is in a row of its own
  own_row : (j a i : ℕ) → is_active (station_at (floor_at f l i) j).state a ≡ true → InUse (floor_at f l i) a × ((row_at (floor_at f l i) a).station ≡ j)
  own_row j a i = go (station_at (floor_at f l i) j).state refl
    where
      go : (st : State) → (station_at (floor_at f l i) j).state ≡ st → is_active st a ≡ true → InUse (floor_at f l i) a × ((row_at (floor_at f l i) a).station ≡ j)
      go Idle q e = clash e refl
      go (Reading x) q e = let v = reads_in f l new i j a (q ∙ ap Reading (eqb-true x a e)) in (v.0, v.1)
      go (Writing x) q e = writes_in f l new i j a (q ∙ ap Writing (eqb-true x a e))
      go (Decided x) q e = clash e refl
      go Gone q e = clash e refl

  decided_shows : (j i a : ℕ) → (station_at (floor_at f l i) j).state ≡ Decided a → (u : Suit) × ((station_at (floor_at f l i) j).decided ≡ Some u)
  unfolding state_at step_of
  decided_shows j zero a e = absurd (let q : Idle ≡ Decided a = ap (λ (x : Station). x.state) (sym (new.stations j)) ∙ e in let k : ◌≡◌ {A = ℕ} 0 1 = cc in omega arith)
  decided_shows j (suc i) a e = decided_moves (apply_station (floor_at f l i) (command_at l i) j) (decided_shows j i) a e

  -- a station is gone only where an accepted step said so
  gone_before : (s i : ℕ) → is_gone (station_at (floor_at f l i) s).state ≡ true → Before (λ k. said_at f l k ≡ said.Gone s) i
  unfolding state_at step_of
  gone_before s zero e = clash e (ap (λ (x : Station). is_gone x.state) (new.stations s))
  gone_before s (suc i) e = elim (gone_from (floor_at f l i) (command_at l i) s e) [ inl o ↦ later (gone_before s i o) | inr o ↦ now i o ]

  -- a station that is in an attempt after the step at i was in it before, and the step did not abort it; or the step began it
  still_in : (j a i : ℕ) → is_active (station_at (floor_at f l (suc i)) j).state a ≡ true
      → ((is_active (station_at (floor_at f l i) j).state a ≡ true) × (¬ (said_at f l i ≡ said.Aborted a))) ⊎ (said_at f l i ≡ said.Begun a)
  unfolding state_at step_of
  still_in j a i e = elim (active_from (floor_at f l i) (command_at l i) j a e) [
    | inl o ↦ inl (
      o,
      λ q.
          let own = (own_row j a i o).1 in
          clash e (ap (λ (k : ℕ). is_active (station_at (floor_at f l (suc i)) k).state a) (sym own) ∙ ap (λ (x : Station). is_active x.state a) (aborted_owner (lengths_at f l new i) (means_at f l new i (said.Aborted a) q))),
    )
    | inr o ↦ inr o
  ]

  -- an attempt that its station is in has not aborted
  pub not_aborted : (j i k : ℕ) (x : Attempt (trace_of f l)) → is_active (station_at (floor_at f l i) j).state x.number ≡ true → Named (trace_of f l) x i → k < i → ¬ AbortsAt (trace_of f l) x k
  not_aborted j zero k x e n h b = omega arith
  not_aborted j (suc i) k x e n h b = elim (still_in j x.number i e) [
    | inl o ↦ elim (up_to h) [
      | inl q ↦ o.1 (ap (said_at f l) (sym q) ∙ b.says.said)
      | inr q ↦ not_aborted j i k x o.0 (record { earlier = omega (arith, b.named.earlier); last = λ t u v. n.last t u (omega arith) }) q b
    ]
    | inr o ↦ n.last i (omega (arith, b.named.earlier)) (omega arith) o
  ]

  -- a station that is idle in the words of the list is idle on the floor
  module _ (s i : ℕ) (idle : IdleAt (trace_of f l) s i) where
    in_none : (a : ℕ) → ¬ (is_active (station_at (floor_at f l i) s).state a ≡ true)
    in_none a e =
        let own = own_row s a i e in
        let o = row_at_lem f l new i a own.0 in
        let b = idle.aborted o.attempt o.named.earlier (o.station ∙ own.1) in
        not_aborted s i b.at o.attempt (ap (is_active (station_at (floor_at f l i) s).state) o.number ∙ e) o.named b.earlier b.holds

    idle_as : (st : State) → (station_at (floor_at f l i) s).state ≡ st → st ≡ Idle
    idle_as Idle e = refl
    idle_as (Reading a) e = absurd (in_none a (ap (λ (st : State). is_active st a) e ∙ eq-eqb a a refl))
    idle_as (Writing a) e = absurd (in_none a (ap (λ (st : State). is_active st a) e ∙ eq-eqb a a refl))
    idle_as (Decided a) e =
        let y = decided_shows s i a e in
        absurd (idle.undecided y.0 (shown_decided f l new s i y.0 y.1))
    idle_as Gone e = absurd (idle.here (gone_before s i (ap is_gone e)))

    pub idle_state : (station_at (floor_at f l i) s).state ≡ Idle
    idle_state = idle_as (station_at (floor_at f l i) s).state refl
