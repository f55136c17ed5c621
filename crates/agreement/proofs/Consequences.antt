-- What follows: nothing is accepted behind the end of the list, each decision is a station's, and that station is settled; which boxes answer and
-- which stations are idle is what the floor shows.
use Rattle.std.proofs.Common.{Some}
use Prim.Native.Nat.{ℕ, ◌<◌}
use native.Mathlib.Decide.{dec_lt}
use native.Mathlib.Omega.{arith}
use mathlib.Core.Path.{◌≡◌, refl, sym, ap, subst, ◌∙◌}
use mathlib.Core.Logic.{◌⊎◌, inl, inr}
use mathlib.Core.Bool.{true, false}
use mathlib.Core.List.{List, []}
use lib.ListN.{length, get_or, get_or-eq_default}
use borrow.Author.Tests.{lt-leb}
use Rattle.suits.specs.declared.Suit.{Suit}
use Rattle.base.specs.Choice.{when◌then◌else◌}
use Rattle.base.proofs.Choices.{on_true, on_false}
use Rattle.register.specs.declared.Department.{Department}
use Rattle.floor.specs.Floors.{station_at, department_at}
use Rattle.attempts.specs.Stations.{is_gone, is_busy}
use Rattle.floor.specs.Soundness.{Sound}
use Rattle.commands.specs.Commands.{command_of}
use Rattle.floor.specs.Refusals.{begin_refusal}
use Rattle.commands.specs.Outcomes.{is_refused}
use Rattle.floor.specs.Step.{apply_of, step_of}
use Rattle.attempts.specs.declared.State.{State}
use Rattle.attempts.specs.declared.State.TheVariants.{Idle, Reading, Writing, Decided, Gone}
use Rattle.floor.specs.declared.Floor.{Floor}
use Rattle.floor.specs.declared.Stepped.{Stepped}
use Rattle.commands.specs.declared.Command.{Command}
use Rattle.commands.specs.declared.Command.TheVariants.{Begin, Malformed}
use Rattle.commands.specs.declared.Outcome.TheVariants as said
use Rattle.base.proofs.Cases.{clash}
use Rattle.floor.proofs.StepLaws.{apply_refused}
use Rattle.floor.proofs.StepCases.{StepCase, turned, step_case}
use Rattle.floor.proofs.EmptyFloors.{new_sound}
use Rattle.floor.proofs.ListLaws.{sound_at}
use Rattle.floor.specs.Runs.{command_at}
use Rattle.agreement.specs.Words.{attempt_department, DecidesAt, DecidedIn}
use Rattle.agreement.specs.Demand.{shown_at, trace_of}
use Rattle.floor.specs.Runs.{floor_at, said_at}
use Rattle.floor.specs.Floors.{first_floor}
use Rattle.agreement.specs.Consequences.{ConsequencesTheorem}
use Rattle.agreement.proofs.Safety.{agreement, decided_in_lem, decision_of, decider_at, shown_decided, shown_still}
use Rattle.agreement.proofs.Shares.{own_department}
use Rattle.agreement.proofs.Boxes.{answering_means, answering_holds}
use Rattle.agreement.proofs.Stations.{idle_state}
use Rattle.agreement.proofs.Over.{is_over, over_since}
use Rattle.agreement.proofs.GivenBack.{given_back}
use Rattle.floor.proofs.Reached.{New, new_floor_lem, stations_at}
use Rattle.agreement.proofs.Idle.{idle_holds}

-- a record with no bytes is malformed
no_bytes : command_of [] ≡ Malformed
unfolding command_of when◌then◌else◌
no_bytes = refl

malformed : {f : Floor} {s : Stepped} → StepCase f Malformed s → is_refused s.outcome ≡ true
malformed (turned k t) = refl

-- a begin for a station that is gone or busy
module _ (f : Floor) (z : Sound f) (s round : ℕ) (v : Suit) (h : s < f.m) where
  abbrev c : Command
  c = Begin s round v

  begin_refused : (k : ℕ) → 0 < k → begin_refusal f s round ≡ k → (apply_of f c).outcome ≡ said.Refused k
  begin_refused k p q = ap (λ (x : Stepped). x.outcome) (apply_refused f c z (λ e. omega arith)) ∙ ap said.Refused q

  begin_gone : is_gone (station_at f s).state ≡ true → (apply_of f c).outcome ≡ said.Refused 9
  unfolding begin_refusal
  begin_gone g = begin_refused 9 (omega arith) (sym (on_false _ (lt-leb _ _ h) (on_true _ g refl)))

  begin_busy : is_gone (station_at f s).state ≡ false → is_busy (station_at f s).state ≡ true → (apply_of f c).outcome ≡ said.Refused 10
  unfolding begin_refusal
  begin_busy g b =
      begin_refused 10 (omega arith) (sym (on_false _ (lt-leb _ _ h) (on_false _ g (on_true _ b refl))))

begin_over : (f : Floor) → Sound f → (s round : ℕ) (v : Suit) → s < f.m → (st : State) → (station_at f s).state ≡ st → is_over st ≡ true
    → ((apply_of f (Begin s round v)).outcome ≡ said.Refused 9) ⊎ ((apply_of f (Begin s round v)).outcome ≡ said.Refused 10)
begin_over f z s r v h Idle e o = clash o refl
begin_over f z s r v h (Reading a) e o = clash o refl
begin_over f z s r v h (Writing a) e o = clash o refl
begin_over f z s r v h (Decided a) e o = inr (begin_busy f z s r v h (ap is_gone e) (ap is_busy e))
begin_over f z s r v h Gone e o = inl (begin_gone f z s r v h (ap is_gone e))

module _ (f : Floor) (l : List (List ℕ)) (new : New f) where
  inside : (i : ℕ) → is_refused (said_at f l i) ≡ false → i < length l
  inside i e = elim (dec_lt i (length l)) [
    | yes h ↦ h
    | no h ↦ (
        let q : command_at l i ≡ Malformed = ap command_of (get_or-eq_default l [] {n = i} (omega arith)) ∙ no_bytes in
        clash (malformed (subst (λ (c : Command). StepCase (floor_at f l i) c (step_of (floor_at f l i) (get_or l i []))) q (step_case (floor_at f l i) (get_or l i [])))) e)
  ]

  -- the station of a decision is one of the floor's
  station_below : Sound f → (s : ℕ) (v : Suit) (k : ℕ) → DecidesAt (trace_of f l) s v k → s < f.m
  station_below z s v k d = let o = decider_at f l new s v k d in omega (arith, (sound_at f l z k).stations o.row o.used, o.owner, stations_at f l k)

  -- two decisions of a station are in one department
  same_department : (s : ℕ) (u v : Suit) (i k : ℕ) → DecidesAt (trace_of f l) s u i → (d : DecidesAt (trace_of f l) s v k) → DecidedIn (trace_of f l) (attempt_department (trace_of f l) d.attempt) u i
  same_department s u v i k x d =
      let e = own_department f l new x.attempt ∙ ap (department_at f) (x.station ∙ sym d.station) ∙ sym (own_department f l new d.attempt) in
      subst (λ (y : Department). DecidedIn (trace_of f l) y u i) e (decided_in_lem f l new s u i x)

  stays : (s : ℕ) (v : Suit) (k i : ℕ) → DecidesAt (trace_of f l) s v k → k < i → shown_at f l s i ≡ Some v
  stays s v k i d h =
      let y = shown_still f l new s v k i d h in
      let x = shown_decided f l new s i y.0 y.1 in
      y.1 ∙ ap Some (agreement f l new (attempt_department (trace_of f l) d.attempt) x.at k y.0 v (same_department s y.0 v x.at k x.holds d) (decided_in_lem f l new s v k d))

  over : Sound f → (s : ℕ) (v : Suit) (k i round : ℕ) (u : Suit) → DecidesAt (trace_of f l) s v k → k < i → command_at l i ≡ Begin s round u
      → (said_at f l i ≡ said.Refused 9) ⊎ (said_at f l i ≡ said.Refused 10)
  unfolding step_of
  over z s v k i round u d h e =
      subst (λ (c : Command). ((apply_of (floor_at f l i) c).outcome ≡ said.Refused 9) ⊎ ((apply_of (floor_at f l i) c).outcome ≡ said.Refused 10)) (sym e)
      (begin_over (floor_at f l i) (sound_at f l z i) s round u (omega (arith, station_below z s v k d, stations_at f l i)) _ refl (over_since f l new s v k i d h))

pub consequences : ConsequencesTheorem
consequences n m ds l = let f = first_floor n m ds in let new = new_floor_lem n m ds in let z = new_sound n m ds in record {
  inside = inside f l new;
  station = λ i v e. let d = decision_of f l new i v e in (d.0, station_below f l new z d.0 v i d.1, d.1);
  stays = stays f l new;
  over = over f l new z;
  not_away = answering_means f l new;
  answers = answering_holds f l new;
  idle = idle_state f l new;
  idle_holds = idle_holds f l new z (given_back n m ds l);
}
