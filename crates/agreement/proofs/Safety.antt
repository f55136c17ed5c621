-- Demand 3 without the solo finish: agreement, validity, aborts, and what the floor shows.
use Rattle.std.proofs.Common.{None, Option, Some}
use Prim.Native.Nat.{ℕ, zero, suc, ◌<◌}
use native.Mathlib.Decide.{dec_lt}
use native.Mathlib.Omega.{arith}
use mathlib.Core.Path.{◌≡◌, refl, sym, ap, subst, ◌∙◌}
use mathlib.Core.Logic.{inl, inr}
use mathlib.Core.Bool.{Bool, true, false}
use mathlib.Core.List.{List}
use Rattle.suits.specs.declared.Suit.{Suit}
use Rattle.requests.specs.declared.Phase.TheVariants.{Write}
use Rattle.register.specs.declared.Department.{Department}
use Rattle.runs.specs.Runs.{state_at}
use Rattle.floor.proofs.Outcomes.{decided_owner}
use Rattle.floor.specs.Floors.{station_at, row_at, department_at, InUse}
use Rattle.floor.specs.Step.{step_of}
use Rattle.attempts.specs.Rows.{row_department}
use Rattle.attempts.specs.declared.State.TheVariants.{Decided}
use Rattle.attempts.specs.declared.Station.{Station}
use Rattle.floor.specs.declared.Floor.{Floor}
use Rattle.commands.specs.declared.Command.TheVariants.{Serve, Deliver}
use Rattle.commands.specs.declared.Outcome.TheVariants as said
use Rattle.floor.proofs.StationLaws.{decided_from}
use Rattle.agreement.specs.Words.{Attempt, attempt_department, Named, OfferedAt, ServedAt, DecidesAt, DecidedIn, OutrankedAt, ShownAt}
use Rattle.floor.specs.Runs.{command_at}
use Rattle.agreement.specs.Demand.{shown_at, trace_of, Safety}
use Rattle.floor.specs.Runs.{floor_at, said_at}
use Rattle.machine.specs.Runs as machine
use Rattle.agreement.proofs.Reach.{says_at, within_own, run_in}
use Rattle.base.specs.Positions.{Before}
use Rattle.base.proofs.Positions.{later, now}
use Rattle.base.proofs.Cases.{clash, up_to}
use Rattle.floor.proofs.Reached.{New, lengths_at}
use Rattle.agreement.proofs.Positions.{Serving, means_at, row_at_lem, safe}

-- a station that has decided nothing shows none
abbrev pub is_none : Option Suit → Bool
is_none None = true
is_none (Some v) = false

module _ (f : Floor) (l : List (List ℕ)) where
  -- one number names one attempt
  pub one_begin : {i : ℕ} (x y : Attempt (trace_of f l)) → Named (trace_of f l) x i → Named (trace_of f l) y i → x.number ≡ y.number → x.at ≡ y.at
  one_begin x y n m e = elim (dec_lt x.at y.at) [
    | yes h ↦ absurd (n.last y.at h m.earlier (y.begun ∙ ap said.Begun (sym e)))
    | no h ↦ elim (dec_lt y.at x.at) [ yes k ↦ absurd (m.last x.at k n.earlier (x.begun ∙ ap said.Begun e)) | no k ↦ omega arith ]
  ]

  pub one_attempt : {i : ℕ} (x y : Attempt (trace_of f l)) → Named (trace_of f l) x i → Named (trace_of f l) y i → x.number ≡ y.number → x.station ≡ y.station
  one_attempt x y n m e = cc (x.asked, y.asked, ap (command_at l) (one_begin x y n m e))

  module _ (new : New f) where
    -- a decision in the list is one of the machine's run in its department
    decided_at : (d : Department) (i : ℕ) (v : Suit) → DecidedIn (trace_of f l) d v i → machine.DecidedAt (run_in f l new d) v i
    decided_at d i v e = record { row = e.number; box = e.says.box; said = rw (e.says.asked, e.says.said) (within_own d (row_department e.number) _ e.of) }

    pub agreement : (d : Department) (i j : ℕ) (u v : Suit) → DecidedIn (trace_of f l) d u i → DecidedIn (trace_of f l) d v j → u ≡ v
    agreement d i j u v e g = elim ((safe f l new d).agreement i j u v (decided_at d i u e) (decided_at d j v g)) [ inl q ↦ q | inr q ↦ sym q ]

    validity : (d : Department) (i : ℕ) (v : Suit) → DecidedIn (trace_of f l) d v i → Before (OfferedAt (trace_of f l) d v) i
    validity d i v e =
        let x = (safe f l new d).validity i v (decided_at d i v e) in
        let y = x.holds in
        let k = says_at f l d x.at y.said in
        record {
          at = x.at;
          earlier = x.earlier;
          holds = record {
            attempt = record { at = x.at; station = y.station; round = y.round; offer = v; number = y.row; asked = k.0; begun = k.1 };
            of = k.2;
            begun = refl;
            offer = refl;
          };
        }

    pub served_at : (d : Department) (k r b : ℕ) → Serving d (floor_at f l k) (command_at l k) (said_at f l k) r b → ServedAt (trace_of f l) d r b k
    served_at d k r b x = let o = row_at_lem f l new k x.attempt x.used in record {
      attempt = o.attempt;
      of = ap row_department o.number ∙ x.of;
      rank = o.rank ∙ x.rank;
      phase = x.phase;
      serves = record {
        named = o.named;
        asked = x.asked ∙ ap (λ (a : ℕ). Serve x.phase a b) (sym o.number);
        accepted = x.accepted ∙ ap said.Served (sym o.number);
      };
    }

    -- what the machine's run served, the list did
    served_before : (d : Department) (i r b : ℕ) → Before (machine.GrantedAt (run_in f l new d) r b) i → Before (ServedAt (trace_of f l) d r b) i
    served_before d i r b x =
        let y = x.holds in
        let k = says_at f l d x.at y.said in
        record { at = x.at; earlier = x.earlier; holds = served_at d x.at r b (record { attempt = y.row; of = k.2; used = y.used.1; rank = y.rank; phase = y.phase; asked = k.0; accepted = k.1 }) }

    abort : (i a : ℕ) → said_at f l i ≡ said.Aborted a → OutrankedAt (trace_of f l) i
    abort i a e =
        let m = means_at f l new i (said.Aborted a) e in
        let o = row_at_lem f l new i a m.may.used in
        let c = (safe f l new (row_department a)).abort i m.phase a m.box (rw (m.command, e) (within_own (row_department a) (row_department a) _ refl)) in
        record {
          attempt = o.attempt;
          aborts = record {
            named = o.named;
            says = record {
              phase = m.phase;
              box = m.box;
              asked = m.command ∙ ap (λ (x : ℕ). Deliver m.phase x m.box) (sym o.number);
              said = e ∙ ap said.Aborted (sym o.number);
            };
          };
          rank = c.rank;
          box = c.box;
          higher = omega (arith, c.higher, o.rank);
          served = subst (λ (d : Department). Before (ServedAt (trace_of f l) d c.rank c.box) i) (ap row_department (sym o.number)) (served_before (row_department a) i c.rank c.box c.granted);
        }

    -- the delivery that says decided, of an attempt whose row is the station's
    pub decides_at : (k s : ℕ) (v : Suit) (a b : ℕ) → command_at l k ≡ Deliver Write a b → InUse (floor_at f l k) a → (row_at (floor_at f l k) a).station ≡ s → said_at f l k ≡ said.Decided v
        → DecidesAt (trace_of f l) s v k
    decides_at k s v a b c u q e = let o = row_at_lem f l new k a u in record {
      attempt = o.attempt;
      station = o.station ∙ q;
      by = record {
        named = o.named;
        says = record { phase = Write; box = b; asked = c ∙ ap (λ (x : ℕ). Deliver Write x b) (sym o.number); said = e };
      };
    }

    -- every decision is that of a station
    pub decision_of : (i : ℕ) (v : Suit) → said_at f l i ≡ said.Decided v → (s : ℕ) × DecidesAt (trace_of f l) s v i
    decision_of i v e =
        let m = means_at f l new i (said.Decided v) e in
        ((row_at (floor_at f l i) m.attempt).station, decides_at i _ v m.attempt m.box m.answer.command m.answer.may.used refl e)

    pub shown_decided : (s i : ℕ) (v : Suit) → shown_at f l s i ≡ Some v → Before (DecidesAt (trace_of f l) s v) i
    unfolding state_at step_of
    shown_decided s zero v h = clash (ap (λ (x : Station). is_none x.decided) (new.stations s)) (ap is_none h)
    shown_decided s (suc i) v h = elim (decided_from (floor_at f l i) (command_at l i) s) [
      | inl e ↦ later (shown_decided s i v (sym e ∙ h))
      | inr d ↦ (
          let q : d.revision ≡ v = cc (d.decision, h) in
          now i (decides_at i s v d.attempt d.box d.command d.used d.owner (d.outcome ∙ ap said.Decided q)))
    ]

    -- the step by which the station s decides v: its row, and the station after it
    pub record Decider (s : ℕ) (v : Suit) (i : ℕ) : Type 0 where
      pub row : ℕ
      pub used : InUse (floor_at f l i) row
      pub owner : (row_at (floor_at f l i) row).station ≡ s
      pub settled : station_at (floor_at f l (suc i)) s ≡ record { department = department_at (floor_at f l i) s; state = Decided row; last = (station_at (floor_at f l i) s).last; decided = Some v }

    pub decider_at : (s : ℕ) (v : Suit) (i : ℕ) → DecidesAt (trace_of f l) s v i → Decider s v i
    decider_at s v i d =
        let m = means_at f l new i (said.Decided v) d.by.says.said in
        let o = row_at_lem f l new i m.attempt m.answer.may.used in
        let n : m.attempt ≡ d.attempt.number = cc (m.answer.command, d.by.says.asked) in
        let q = sym o.station ∙ one_attempt o.attempt d.attempt o.named d.by.named (o.number ∙ n) ∙ d.station in
        record {
          row = m.attempt;
          used = m.answer.may.used;
          owner = q;
          settled = subst (λ (j : ℕ). station_at (floor_at f l (suc i)) j ≡ record { department = department_at (floor_at f l i) j; state = Decided m.attempt; last = (station_at (floor_at f l i) j).last; decided = Some v }) q
              (decided_owner (lengths_at f l new i) m ∙ ap (λ (u : Suit). record { department = department_at (floor_at f l i) (row_at (floor_at f l i) m.attempt).station; state = Decided m.attempt; last = (station_at (floor_at f l i) (row_at (floor_at f l i) m.attempt).station).last; decided = Some u }) (sym m.written));
        }

    -- a station that decided shows a revision at once, and from then on
    shown_now : (s : ℕ) (v : Suit) (i : ℕ) → DecidesAt (trace_of f l) s v i → shown_at f l s (suc i) ≡ Some v
    shown_now s v i d = ap (λ (x : Station). x.decided) (decider_at s v i d).settled

    pub shown_still : (s : ℕ) (v : Suit) (k i : ℕ) → DecidesAt (trace_of f l) s v k → k < i → (u : Suit) × (shown_at f l s i ≡ Some u)
    unfolding state_at step_of
    shown_still s v k zero d h = absurd (omega arith)
    shown_still s v k (suc i) d h = elim (up_to h) [
      | inl q ↦ (v, shown_now s v i (subst (DecidesAt (trace_of f l) s v) q d))
      | inr q ↦ elim (decided_from (floor_at f l i) (command_at l i) s) [
        | inl e ↦ (let y = shown_still s v k i d q in (y.0, e ∙ y.1))
        | inr x ↦ (x.revision, x.decision)
      ]
    ]

    -- a decision of a station is one in the department of its attempt
    pub decided_in_lem : (s : ℕ) (v : Suit) (i : ℕ) (x : DecidesAt (trace_of f l) s v i) → DecidedIn (trace_of f l) (attempt_department (trace_of f l) x.attempt) v i
    decided_in_lem s v i x = record { number = x.attempt.number; of = refl; says = x.by.says }

    pub shown : (s i : ℕ) → ShownAt (trace_of f l) (shown_at f l s i) s i
    shown s i = record {
      decided = shown_decided s i;
      none = λ e v x. clash (ap is_none e) (ap is_none (shown_still s v x.at i x.holds x.earlier).1);
    }

    pub safety : (d : Department) → Safety (trace_of f l) d
    safety d = record { agreement = agreement d; validity = validity d; abort = λ i a _. abort i a }
