-- The run by positions: the attempt that a row in use belongs to, what each thing said means, and where a station that reads or writes is.
use Prim.Native.Nat.{ℕ, suc, ◌<◌}
use native.Mathlib.Omega.{arith}
use mathlib.Core.Path.{◌≡◌, refl, sym, ap, subst, ◌∙◌}
use mathlib.Core.List.{List, []}
use lib.ListN.{get_or}
use Rattle.suits.specs.Suits.{suit0}
use Rattle.suits.specs.declared.Suit.{Suit}
use Rattle.register.specs.declared.Department.{Department}
use Rattle.requests.specs.Requests.{Standing, not_issued, not_received, standing, standing_of, slot_at}
use Rattle.requests.specs.declared.Phase.{Phase}
use Rattle.requests.specs.declared.Phase.TheVariants.{Write}
use Rattle.requests.specs.declared.Stage.TheVariants.{Unissued}
use Rattle.runs.specs.Runs.{state_at}
use Rattle.floor.specs.Floors.{station_at, row_at, department_at, InUse}
use Rattle.attempts.specs.Rows.{row_department}
use Rattle.attempts.specs.declared.State.{State}
use Rattle.attempts.specs.declared.State.TheVariants as state
use Rattle.floor.specs.Step.{step_of}
use Rattle.floor.specs.declared.Floor.{Floor}
use Rattle.commands.specs.declared.Command.{Command}
use Rattle.commands.specs.declared.Command.TheVariants.{Serve}
use Rattle.commands.specs.declared.Outcome.{Outcome}
use Rattle.commands.specs.declared.Outcome.TheVariants as said
use Rattle.base.proofs.Choices.{by_test}
use Rattle.floor.proofs.FreeLaws.{next_own}
use Rattle.floor.specs.Meanings.{Meaning}
use Rattle.floor.proofs.Outcomes.{step_means}
use Rattle.agreement.specs.Words.{Attempt, attempt_rank, Named}
use Rattle.floor.specs.Runs.{command_at}
use Rattle.floor.specs.Runs.{floor_at, said_at}
use Rattle.machine.specs.Machine as machine
use Rattle.machine.specs.Runs.{Safety}
use Rattle.machine.proofs.Runs.{safety}
use Rattle.machine.proofs.Consensus.{consensus_fits}
use Rattle.panel.specs.Panel.{figure1, seat_in}
use Rattle.panel.proofs.Simulation.{seen_own}
use Rattle.agreement.specs.Demand.{trace_of}
use Rattle.floor.proofs.Reached.{New}
use Rattle.agreement.proofs.Reach.{says_at, within_own, run_in}

-- a rank is served by a serve of its attempt
pub record Serving (d : Department) (f : Floor) (c : Command) (o : Outcome) (r b : ℕ) : Type 0 where
  pub attempt : ℕ
  pub of : row_department attempt ≡ d
  pub used : InUse f attempt
  pub rank : (row_at f attempt).rank ≡ r
  pub phase : Phase
  pub asked : c ≡ Serve phase attempt b
  pub accepted : o ≡ said.Served attempt

module _ (f : Floor) (l : List (List ℕ)) where
  -- the row a in use before i is that of an attempt
  pub record RowOf (i a : ℕ) : Type 0 where
    pub attempt : Attempt (trace_of f l)
    pub number : attempt.number ≡ a
    pub named : Named (trace_of f l) attempt i
    pub station : attempt.station ≡ (row_at (floor_at f l i) a).station
    pub rank : attempt_rank (trace_of f l) attempt ≡ (row_at (floor_at f l i) a).rank

  module _ (new : New f) where
    -- what it means that the step at i said o
    pub means_at : (i : ℕ) (o : Outcome) → said_at f l i ≡ o → Meaning (floor_at f l i) (command_at l i) (floor_at f l (suc i)) o
    unfolding state_at
    means_at i o e =
        subst (Meaning (floor_at f l i) (command_at l i) (step_of (floor_at f l i) (get_or l i [])).floor) e (step_means (floor_at f l i) (get_or l i []))

    -- the run is safe in each department
    pub safe : (d : Department) → Safety (run_in f l new d)
    safe d = safety Suit Suit f.n figure1 (consensus_fits suit0) (run_in f l new d)

    -- the attempts of the machine's run in the department of a row are those of the list
    pub row_at_lem : (i a : ℕ) → InUse (floor_at f l i) a → RowOf i a
    row_at_lem i a h =
        let d = row_department a in
        let o = (safe d).row i a (refl, h) in
        let x = o.attempt in
        let k = says_at f l d x.at x.begun in
        record {
          attempt = record { at = x.at; station = x.station; round = x.round; offer = x.offer; number = x.number; asked = k.0; begun = k.1 };
          number = o.number;
          named = record {
            earlier = o.named.earlier;
            last = λ j u v e.
                let b = means_at j (said.Begun x.number) e in
                let own : department_at (floor_at f l j) b.station ≡ d = sym (next_own (floor_at f l j) _ b.may.row) ∙ ap row_department (sym b.next) ∙ k.2 in
                o.named.last j b.station b.round b.offer u v (rw (b.command, e) (within_own d _ _ own));
          };
          station = o.station;
          rank = o.rank;
        }

    -- a station that reads or writes is in a row of its own, and reads before its write is issued
    module _ (i j a : ℕ) where
      seat_of : (st : State) → (station_at (floor_at f l i) j).state ≡ st → (((run_in f l new (department_at (floor_at f l i) j)).at i).station j).seat ≡ seat_in st
      seat_of st e = ap (λ (x : machine.Station). x.seat) (seen_own (department_at (floor_at f l i) j) (station_at (floor_at f l i) j) refl) ∙ ap seat_in e

      pub reads_in : (station_at (floor_at f l i) j).state ≡ state.Reading a
          → InUse (floor_at f l i) a × ((row_at (floor_at f l i) a).station ≡ j) × ((b : ℕ) → (slot_at (row_at (floor_at f l i) a).write b).stage ≡ Unissued)
      reads_in e = let v = (safe (department_at (floor_at f l i) j)).reads i j a (seat_of (state.Reading a) e) in (v.0.1, v.1, v.2)

      pub writes_in : (station_at (floor_at f l i) j).state ≡ state.Writing a → InUse (floor_at f l i) a × ((row_at (floor_at f l i) a).station ≡ j)
      writes_in e = let v = (safe (department_at (floor_at f l i) j)).writes i j a (seat_of (state.Writing a) e) in (v.0.1, v.1)

      -- so no request of its write was served
      pub reading_unissued : (station_at (floor_at f l i) j).state ≡ state.Reading a → (b : ℕ) → standing_of (row_at (floor_at f l i) a).write b ≡ not_issued
      unfolding standing
      reading_unissued e b =
          let v = reads_in e in
          by_test (λ (s : Standing). s ≡ not_issued) _ _ _
          (λ h. absurd (let n : ◌≡◌ {A = ℕ} 0 1 = cc (v.2 b, (safe (row_department a)).received i a b Write (refl, v.0) h) in omega arith)) (λ _. ap not_received (v.2 b))

    pub rank_positive : (i a : ℕ) → InUse (floor_at f l i) a → 0 < (row_at (floor_at f l i) a).rank
    rank_positive i a h = (safe (row_department a)).positive i a (refl, h)
