-- A station that the floor shows idle is idle in the words of demand 3: each of its attempts aborted.
use Prim.Native.Nat.{ℕ, zero, suc, ◌<◌}
use native.Mathlib.Omega.{arith}
use mathlib.Core.Path.{◌≡◌, refl, sym, ap, subst, ◌∙◌}
use mathlib.Core.Logic.{◌⊎◌, inl, inr}
use mathlib.Core.List.{List}
use lib.Dec.{eqb}
use borrow.Author.Tests.{eqb-true, eqb-false}
use Rattle.base.specs.Positions.{Before}
use Rattle.base.proofs.Positions.{later}
use Rattle.base.proofs.Cases.{clash, up_to, by_cases}
use Rattle.attempts.specs.Stations.{is_active}
use Rattle.attempts.specs.declared.State.{State}
use Rattle.attempts.specs.declared.State.TheVariants.{Idle}
use Rattle.floor.specs.Floors.{station_at}
use Rattle.floor.specs.Runs.{floor_at, said_at}
use Rattle.floor.specs.declared.Floor.{Floor}
use Rattle.floor.specs.Soundness.{Sound}
use Rattle.commands.specs.declared.Outcome.{Outcome}
use Rattle.commands.specs.declared.Outcome.TheVariants as said
use Rattle.agreement.specs.Words.{Attempt, Named, AbortsAt, OverAt, decided, aborted, gone, IdleAt}
use Rattle.agreement.specs.GivenBack.{GivenBack}
use Rattle.agreement.proofs.Positions.{means_at}
use Rattle.agreement.proofs.Over.{is_over, over_since, gone_since}
use Rattle.agreement.specs.Demand.{trace_of}
use Rattle.floor.proofs.Reached.{New}
use Rattle.agreement.proofs.FreeRows.{active_or_over}

-- which attempt was begun, from 1
abbrev begun_is : Outcome → ℕ
begun_is (said.Begun a) = suc a
begun_is (said.Served a) = 0
begun_is (said.Received a) = 0
begun_is (said.Aborted a) = 0
begun_is (said.WriteIssued v) = 0
begun_is (said.Decided v) = 0
begun_is (said.Stopped b) = 0
begun_is (said.Gone s) = 0
begun_is (said.Back b) = 0
begun_is (said.Refused k) = 0

begun_of : (o : Outcome) (a : ℕ) → begun_is o ≡ suc a → o ≡ said.Begun a
begun_of (said.Begun b) a e = let q : b ≡ a = omega (arith, e) in ap said.Begun q
begun_of (said.Served b) a e = absurd (omega (arith, e))
begun_of (said.Received b) a e = absurd (omega (arith, e))
begun_of (said.Aborted b) a e = absurd (omega (arith, e))
begun_of (said.WriteIssued b) a e = absurd (omega (arith, e))
begun_of (said.Decided b) a e = absurd (omega (arith, e))
begun_of (said.Stopped b) a e = absurd (omega (arith, e))
begun_of (said.Gone b) a e = absurd (omega (arith, e))
begun_of (said.Back b) a e = absurd (omega (arith, e))
begun_of (said.Refused b) a e = absurd (omega (arith, e))

module _ (f : Floor) (l : List (List ℕ)) (new : New f) (z : Sound f) (g : GivenBack f l) where
  -- an attempt that is over stays so
  over_next : {x : Attempt (trace_of f l)} {i : ℕ} → OverAt (trace_of f l) x i → OverAt (trace_of f l) x (suc i)
  over_next (decided b) = decided (later b)
  over_next (aborted b) = aborted (later b)
  over_next (gone b) = gone (later b)

  -- a number means its attempt until its row is taken, and then the attempt was over
  named_or_over : (x : Attempt (trace_of f l)) (i : ℕ) → x.at < i → Named (trace_of f l) x i ⊎ OverAt (trace_of f l) x i
  named_or_over x zero h = absurd (omega arith)
  named_or_over x (suc i) h = elim (up_to h) [
    | inl q ↦ inl (record { earlier = omega arith; last = λ k u v. absurd (omega (arith, q)) })
    | inr q ↦ elim (named_or_over x i q) [
      | inr o ↦ inr (over_next o)
      | inl n ↦ by_cases (eqb (begun_is (said_at f l i)) (suc x.number))
          (λ t.
          let e = begun_of (said_at f l i) x.number (eqb-true _ _ t) in
          let b = means_at f l new i (said.Begun x.number) e in
          let y : Attempt (trace_of f l) = record { at = i; station = b.station; round = b.round; offer = b.offer; number = x.number; asked = b.command; begun = e } in
          inr (over_next (g.freed y x (record { number = refl; named = n })).over))
          (λ t. inl (record {
            earlier = omega (arith, n.earlier);
            last = λ k u v e. elim (up_to v) [ inl r ↦ eqb-false _ _ t (ap begun_is (ap (said_at f l) (sym r) ∙ e)) | inr r ↦ n.last k u r e ];
          }))
    ]
  ]

  pub idle_holds : (s i : ℕ) → (station_at (floor_at f l i) s).state ≡ Idle → IdleAt (trace_of f l) s i
  idle_holds s i e = record {
    here = λ x. clash (gone_since f l new s x.at i x.holds x.earlier) (ap is_over e);
    undecided = λ v x. clash (over_since f l new s v x.at i x.holds x.earlier) (ap is_over e);
    aborted = λ x h q. let e' = subst (λ (j : ℕ). (station_at (floor_at f l i) j).state ≡ Idle) (sym q) e in elim (named_or_over x i h) [
      | inl n ↦ elim (active_or_over f l new z x i n) [
        | inl a ↦ clash a (ap (λ (st : State). is_active st x.number) e')
        | inr o ↦ over x e' o
      ]
      | inr o ↦ over x e' o
    ];
  }
    where
      over : (x : Attempt (trace_of f l)) → (station_at (floor_at f l i) x.station).state ≡ Idle → OverAt (trace_of f l) x i → Before (AbortsAt (trace_of f l) x) i
      over x q (decided {v = v} b) =
          clash (over_since f l new x.station v b.at i (record { attempt = x; station = refl; by = b.holds }) b.earlier) (ap is_over q)
      over x q (aborted b) = b
      over x q (gone b) = clash (gone_since f l new x.station b.at i b.holds b.earlier) (ap is_over q)
