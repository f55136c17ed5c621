-- What a step does to the stations: who leaves, who decides, whose last round rises, who is in an attempt.
use Prim.Native.Nat.{ℕ}
use mathlib.Core.Path.{◌≡◌, refl, ap, ◌∙◌}
use mathlib.Core.Logic.{◌⊎◌, inl, inr}
use mathlib.Core.Bool.{true}
use borrow.Author.Tests.{eqb-true}
use Rattle.floor.specs.Floors.{station_at, department_at}
use Rattle.attempts.specs.Stations.{is_gone, is_active}
use Rattle.floor.specs.Effects.{row_taken}
use Rattle.floor.specs.Step.{apply_of}
use Rattle.attempts.specs.declared.State.{State}
use Rattle.attempts.specs.declared.Station.{Station}
use Rattle.floor.specs.Moves.{DecidesNow, BeginsNow, StationMove, station_kept, station_begins, station_issues, station_decides, station_aborts, station_leaves}
use Rattle.floor.specs.declared.Floor.{Floor}
use Rattle.commands.specs.declared.Outcome.{Outcome}
use Rattle.commands.specs.declared.Outcome.TheVariants.{Begun, Gone}
use Rattle.commands.specs.declared.Command.{Command}
use Rattle.base.proofs.Cases.{clash}
use Rattle.attempts.proofs.StationTests.{is_reading_lem, is_writing_lem, here_in}
use Rattle.floor.proofs.Moves.{apply_station}

module _ {f : Floor} {c : Command} {j : ℕ} where
  gone_kept : {o : Outcome} {x : Station} → StationMove f c j o x → is_gone (station_at f j).state ≡ true → is_gone x.state ≡ true
  gone_kept station_kept e = e
  gone_kept (station_begins q h i l) e = clash e h
  gone_kept (station_issues {a = a} q u w r) e = clash e (ap is_gone (is_reading_lem (station_at f j).state a r))
  gone_kept (station_decides {a = a} q u w r v) e = clash e (ap is_gone (is_writing_lem (station_at f j).state a r))
  gone_kept (station_aborts {p = p} {a = a} q u w r) e = clash e (here_in p (station_at f j).state a r)
  gone_kept (station_leaves q h) e = refl

  gone_by : {o : Outcome} {x : Station} → StationMove f c j o x → is_gone x.state ≡ true → (is_gone (station_at f j).state ≡ true) ⊎ (o ≡ Gone j)
  gone_by station_kept e = inl e
  gone_by (station_begins q h i l) e = clash e refl
  gone_by (station_issues q u w r) e = clash e refl
  gone_by (station_decides q u w r v) e = clash e refl
  gone_by (station_aborts q u w r) e = clash e refl
  gone_by (station_leaves q h) e = inr refl

  last_by : {o : Outcome} {x : Station} → StationMove f c j o x → (x.last ≡ (station_at f j).last) ⊎ BeginsNow f c j o x.last
  last_by station_kept = inl refl
  last_by (station_begins {v = v} q h i l) = inr (record { offer = v; command = q; above = l; outcome = refl })
  last_by (station_issues q u w r) = inl refl
  last_by (station_decides q u w r v) = inl refl
  last_by (station_aborts q u w r) = inl refl
  last_by (station_leaves q h) = inl refl

  active_by : {o : Outcome} {x : Station} (a : ℕ) → StationMove f c j o x → is_active x.state a ≡ true → (is_active (station_at f j).state a ≡ true) ⊎ (o ≡ Begun a)
  active_by a station_kept e = inl e
  active_by a (station_begins q h i l) e = inr (ap Begun (eqb-true (row_taken f j) a e))
  active_by a (station_issues {a = k} q u w r) e = inl (ap (λ (st : State). is_active st a) (is_reading_lem (station_at f j).state k r) ∙ e)
  active_by a (station_decides q u w r v) e = clash e refl
  active_by a (station_aborts q u w r) e = clash e refl
  active_by a (station_leaves q h) e = clash e refl

  department_kept : {o : Outcome} {x : Station} → StationMove f c j o x → x.department ≡ department_at f j
  department_kept station_kept = refl
  department_kept (station_begins q h i l) = refl
  department_kept (station_issues q u w r) = refl
  department_kept (station_decides q u w r v) = refl
  department_kept (station_aborts q u w r) = refl
  department_kept (station_leaves q h) = refl

  decided_by : {o : Outcome} {x : Station} → StationMove f c j o x → (x.decided ≡ (station_at f j).decided) ⊎ DecidesNow f c j o x.decided
  decided_by station_kept = inl refl
  decided_by (station_begins q h i l) = inl refl
  decided_by (station_issues q u w r) = inl refl
  decided_by (station_decides {a = a} {b = b} {v = v} q u w r e) =
      inr (record { attempt = a; box = b; command = q; used = u; owner = w; revision = v; decision = refl; written = e; outcome = refl })
  decided_by (station_aborts q u w r) = inl refl
  decided_by (station_leaves q h) = inl refl

-- the station j before and after the step, and what the step said
module _ (f : Floor) (c : Command) (j : ℕ) where
  abbrev before : Station
  before = station_at f j

  abbrev after : Station
  after = station_at (apply_of f c).floor j

  abbrev said : Outcome
  said = (apply_of f c).outcome

  -- "a station leaves for good": it is gone after a step if it was before, or if the step says so
  pub gone_stays : is_gone before.state ≡ true → is_gone after.state ≡ true
  gone_stays = gone_kept (apply_station f c j)

  pub gone_from : is_gone after.state ≡ true → (is_gone before.state ≡ true) ⊎ (said ≡ Gone j)
  gone_from = gone_by (apply_station f c j)

  -- a station keeps its department
  pub department_stays : after.department ≡ before.department
  department_stays = department_kept (apply_station f c j)

  -- the last round changes, and rises, at the station's begin only
  pub last_from : (after.last ≡ before.last) ⊎ BeginsNow f c j said after.last
  last_from = last_by (apply_station f c j)

  -- a station is in an attempt that it was in before, or has begun it
  pub active_from : (a : ℕ) → is_active after.state a ≡ true → (is_active before.state a ≡ true) ⊎ (said ≡ Begun a)
  active_from a = active_by a (apply_station f c j)

  -- what it decided changes at a delivery that says so only
  pub decided_from : (after.decided ≡ before.decided) ⊎ DecidesNow f c j said after.decided
  decided_from = decided_by (apply_station f c j)
