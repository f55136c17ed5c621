-- A station that is gone, or that decided, is over: it stays so at every step.
use Prim.Native.Nat.{ℕ, zero, suc, ◌<◌}
use native.Mathlib.Omega.{arith}
use mathlib.Core.Path.{◌≡◌, refl, sym, ap, subst, ◌∙◌}
use mathlib.Core.Logic.{inl, inr}
use mathlib.Core.Bool.{Bool, true, false}
use mathlib.Core.List.{List}
use Rattle.suits.specs.declared.Suit.{Suit}
use Rattle.runs.specs.Runs.{state_at}
use Rattle.floor.proofs.Outcomes.{gone_station_lem}
use Rattle.floor.specs.Floors.{station_at}
use Rattle.requests.specs.declared.Phase.{Phase}
use Rattle.requests.specs.declared.Phase.TheVariants.{Read, Write}
use Rattle.attempts.specs.Stations.{is_in}
use Rattle.floor.specs.Moves.{StationMove, station_kept, station_begins, station_issues, station_decides, station_aborts, station_leaves}
use Rattle.floor.specs.Step.{step_of}
use Rattle.attempts.specs.declared.State.{State}
use Rattle.attempts.specs.declared.State.TheVariants.{Idle, Reading, Writing, Decided, Gone}
use Rattle.attempts.specs.declared.Station.{Station}
use Rattle.floor.specs.declared.Floor.{Floor}
use Rattle.commands.specs.declared.Command.{Command}
use Rattle.commands.specs.declared.Outcome.{Outcome}
use Rattle.commands.specs.declared.Outcome.TheVariants as said
use Rattle.base.proofs.Cases.{clash, up_to}
use Rattle.attempts.proofs.StationTests.{is_reading_lem, is_writing_lem, is_idle}
use Rattle.floor.proofs.Moves.{apply_station}
use Rattle.floor.specs.Runs.{command_at}
use Rattle.agreement.specs.Words.{DecidesAt}
use Rattle.floor.specs.Runs.{floor_at, said_at}
use Rattle.agreement.proofs.Positions.{means_at}
use Rattle.agreement.specs.Demand.{trace_of}
use Rattle.floor.proofs.Reached.{New, lengths_at}
use Rattle.agreement.proofs.Safety.{decider_at}

abbrev pub is_over : State → Bool
is_over Idle = false
is_over (Reading a) = false
is_over (Writing a) = false
is_over (Decided a) = true
is_over Gone = true

-- a station that is in an attempt is not
not_over : (p : Phase) (st : State) (a : ℕ) → is_in p st a ≡ true → is_over st ≡ false
not_over Read st a e = ap is_over (is_reading_lem st a e)
not_over Write st a e = ap is_over (is_writing_lem st a e)

-- it stays so at every step
over_stays : {f : Floor} {c : Command} {j : ℕ} {o : Outcome} {x : Station} → StationMove f c j o x → is_over (station_at f j).state ≡ true → is_over x.state ≡ true
over_stays station_kept e = e
over_stays {f} {j = j} (station_begins q g b l) e = clash e (ap is_over (is_idle (station_at f j).state g b))
over_stays {f} {j = j} (station_issues {a = a} q u w r) e = clash e (ap is_over (is_reading_lem (station_at f j).state a r))
over_stays (station_decides q u w r v) e = refl
over_stays {f} {j = j} (station_aborts {p = p} {a = a} q u w r) e = clash e (not_over p (station_at f j).state a r)
over_stays (station_leaves q g) e = refl

module _ (f : Floor) (l : List (List ℕ)) (new : New f) where
  -- after its decision a station is over
  pub over_since : (s : ℕ) (v : Suit) (k i : ℕ) → DecidesAt (trace_of f l) s v k → k < i → is_over (station_at (floor_at f l i) s).state ≡ true
  unfolding state_at step_of
  over_since s v k zero d h = absurd (omega arith)
  over_since s v k (suc i) d h = elim (up_to h) [
    | inl q ↦ ap (λ (x : Station). is_over x.state) (decider_at f l new s v i (subst (DecidesAt (trace_of f l) s v) q d)).settled
    | inr q ↦ over_stays (apply_station (floor_at f l i) (command_at l i) s) (over_since s v k i d q)
  ]

  -- and so after it is gone
  pub gone_since : (s k i : ℕ) → said_at f l k ≡ said.Gone s → k < i → is_over (station_at (floor_at f l i) s).state ≡ true
  unfolding state_at step_of
  gone_since s k zero e h = absurd (omega arith)
  gone_since s k (suc i) e h = elim (up_to h) [
    | inl q ↦ ap (λ (x : Station). is_over x.state) (gone_station_lem (lengths_at f l new i) (means_at f l new i (said.Gone s) (ap (said_at f l) (sym q) ∙ e)))
    | inr q ↦ over_stays (apply_station (floor_at f l i) (command_at l i) s) (gone_since s k i e q)
  ]
