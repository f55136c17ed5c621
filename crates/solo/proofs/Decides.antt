-- A station driven alone decides in 4q + 1 steps; on a floor built by hand it may be turned back, or its attempt may abort, at a read too.
use Prim.Native.Nat.{ℕ, zero, suc, ◌+◌, ◌≤◌, ◌<◌}
use native.Mathlib.Omega.{arith}
use native.Mathlib.Decide.{ℕ_discrete}
use mathlib.Core.Path.{◌≡◌, refl, ap, subst, ◌∙◌}
use mathlib.Core.Logic.{inl, inr}
use mathlib.Core.Bool.{Bool, true, false}
use mathlib.Core.List.{List, [], ◌∷◌, ◌++◌}
use lib.ListN.{length, take}
use lib.Seq.{length-take-le}
use Rattle.suits.specs.declared.Suit.{Suit}
use Rattle.base.specs.Choice.{when◌then◌else◌}
use Rattle.base.specs.Numbers.{quorum, rank_of}
use Rattle.base.proofs.Cases.{clash}
use Rattle.base.proofs.Choices.{by_test}
use Rattle.requests.specs.declared.Phase.TheVariants.{Read, Write}
use Rattle.requests.specs.declared.Slot.{Slot}
use Rattle.requests.proofs.RequestLaws.{wait_below}
use Rattle.commands.specs.declared.Command.{Command}
use Rattle.commands.specs.declared.Command.TheVariants.{Begin}
use Rattle.commands.specs.declared.Outcome.{Outcome}
use Rattle.commands.specs.declared.Outcome.TheVariants.{Begun, Aborted}
use Rattle.commands.proofs.Encodings.{decode_encode}
use Rattle.attempts.specs.Rows.{new_row}
use Rattle.attempts.specs.Stations.{is_gone, is_busy}
use Rattle.attempts.specs.declared.Station.{Station}
use Rattle.attempts.specs.declared.Row.{Row}
use Rattle.runs.specs.Runs.{ran_from, stops_by}
use Rattle.floor.specs.Floors.{row_at, register_at, department_at}
use Rattle.floor.specs.Effects.{row_taken, stepped, after_begin}
use Rattle.floor.proofs.FreeLaws.{next_own}
use Rattle.floor.specs.Step.{refused, apply_of}
use Rattle.floor.specs.Runs.{run_of}
use Rattle.floor.specs.Tests.{CanBegin}
use Rattle.floor.specs.Soundness.{Sound, Lengths}
use Rattle.floor.specs.declared.Floor.{Floor}
use Rattle.floor.specs.declared.Stepped.{Stepped}
use Rattle.runs.specs.declared.Until.TheVariants.{End}
use Rattle.floor.proofs.SoundLaws.{sound_holds}
use Rattle.floor.proofs.StepCases.{StepCase, turned, began, apply_case}
use Rattle.floor.proofs.Accepts.{begin_accepted}
use Rattle.floor.proofs.Keeps.{apply_keeps}
use Rattle.floor.proofs.LengthLaws.{apply_lengths}
use Rattle.floor.proofs.StoredLaws.{row_stored, station_stored}
use Rattle.floor.proofs.BegunUse.{taken_use}
use Rattle.plans.specs.Plans.{exchanges}
use Rattle.plans.proofs.RoundLaws.{round_some, round_passes}
use Rattle.solo.specs.Plan.{highest_begun, round_of, answering_from, answering, lowest, asked_of, begin_of, exchanges_of}
use Rattle.solo.specs.Solo.{solo_refusal, turned_away, of_run, solo_of}
use Rattle.solo.specs.Claims.{Lawful, Ready, DecidesAlone, Ends, decided, aborted, outranked}
use Rattle.solo.specs.Claims as claims
use Rattle.solo.specs.declared.Solo.{Solo}
use Rattle.solo.proofs.FrontLaws.{front_means, front_holds, solo_refused, solo_driven, refusal_sound, refusal_zero}
use Rattle.solo.proofs.PhaseRequests.{all_wait}
use Rattle.solo.proofs.Driven.{Attempt, Driven, RequestsAt}
use Rattle.solo.proofs.Phases.{Over, has_decided, has_aborted, was_outranked, AtEnd, Leads, step_on, Ascending, both_driven}

-- the boxes asked are in ascending order
answering_ascends : (t : Attempt) (k b p : ℕ) → p ≤ b → b + k ≤ t.n → Ascending t p (answering_from k b t.boxes)
unfolding answering_from
answering_ascends t zero b p l h = tt
answering_ascends t (suc k) b p l h =
    by_test (Ascending t p) _ _ _
    (λ _. answering_ascends t k (b + 1) p (omega arith) (omega arith))
    (λ e. (l, omega arith, e, answering_ascends t k (b + 1) (b + 1) (omega arith) (omega arith)))

take_ascends : (t : Attempt) (q p : ℕ) (bs : List ℕ) → Ascending t p bs → Ascending t p (take q bs)
take_ascends t zero p bs u = tt
take_ascends t (suc q) p [] u = tt
take_ascends t (suc q) p (b ∷ bs) u = (u.0, u.1, u.2, take_ascends t q (b + 1) bs u.3)

-- a begin that is accepted, with q boxes that answer: the whole run
module _ (f : Floor) (s : ℕ) (v : Suit) (highest : Bool) (z : Sound f) (l : Lengths f) (can : CanBegin f s (round_of f s)) (enough : quorum f.n ≤ length (answering f))
    (low : (b : ℕ) → highest ≡ true → ((register_at f (department_at f s) b).read ≤ rank_of (round_of f s) s) × ((register_at f (department_at f s) b).write < rank_of (round_of f s) s)) where
  abbrev round : ℕ
  round = round_of f s

  abbrev attempt : Attempt
  attempt = record { n = f.n; number = row_taken f s; station = s; rank = rank_of round s; boxes = f.boxes; highest = highest }

  abbrev begun_floor : Floor
  begun_floor = after_begin f s round v

  begins : apply_of f (Begin s round v) ≡ stepped begun_floor (Begun (row_taken f s))
  begins = begin_accepted f z s round v can

  new_row_lem : row_at begun_floor (row_taken f s) ≡ new_row f.n s round v
  new_row_lem = row_stored f l z (row_taken f s) (new_row f.n s round v) can.row

  begun_driven : Driven attempt Read 0 begun_floor
  unfolding new_row
  begun_driven = record {
    sound = subst (λ (x : Stepped). Sound x.floor) begins (apply_keeps f (Begin s round v) z);
    lengths = subst (λ (x : Stepped). Lengths x.floor) begins (apply_lengths f (Begin s round v) l);
    size = refl;
    begun = taken_use f s round v can.row;
    owner = ap (λ (w : Row). w.station) new_row_lem;
    rank = ap (λ (w : Row). w.rank) new_row_lem;
    boxes = λ j. let own = next_own f (department_at f s) can.row in record { away = refl; read = λ i. rw own (low j i).0; write = λ i _. rw own (low j i).1 };
    state = ap (λ (x : Station). x.state) (station_stored f l z s _ can.station);
  }

  begun_reads : RequestsAt attempt 0 0 (row_at begun_floor (row_taken f s)).read
  unfolding new_row
  begun_reads = rw new_row_lem (all_wait f.n _ _ (λ j h. ap (λ (x : Slot). x.stage) (wait_below f.n z.box_most j h)))

  rest_driven : (bs : List ℕ) → length bs ≡ quorum f.n → Ascending attempt 0 bs → Leads attempt 1 begun_floor (exchanges Read (row_taken f s) bs ++ exchanges Write (row_taken f s) bs)
  rest_driven [] h u = absurd (omega arith)
  rest_driven (b ∷ bs) h u = both_driven attempt bs b h u begun_floor (record { floor = begun_driven; requests = begun_reads })

  run_ends : AtEnd attempt (run_of End f (begin_of f s v) (exchanges_of f s))
  unfolding exchanges_of lowest stops_by when◌then◌else◌
  run_ends =
      step_on attempt 0 f begun_floor (Begin s round v) (Begun (row_taken f s)) begins _ refl
      (rest_driven (asked_of f) (length-take-le (quorum f.n) (answering f) enough)
      (take_ascends attempt (quorum f.n) 0 (answering f) (answering_ascends attempt f.n 0 0 (omega arith) (omega arith))))

-- on a lawful floor the rank of the round picked passes every rank that a box has served, and every round that the station has begun
module _ (f : Floor) (s : ℕ) (v : Suit) (y : Lawful f) (x : Ready f s) where
  passes : highest_begun f s < rank_of (round_of f s) s
  passes = round_passes (highest_begun f s) s

  can_begin : CanBegin f s (round_of f s)
  can_begin = record {
    station = x.station;
    here = ap is_gone x.idle;
    not_busy = ap is_busy x.idle;
    later = elim (y.last s) [ inl e ↦ omega (arith, e, round_some (highest_begun f s) s) | inr h ↦ omega (arith, h, passes) ];
    row = x.row;
  }

  no_refusal : solo_refusal f s ≡ 0
  no_refusal =
      refusal_sound f s (sound_holds f y.sound)
      ∙ front_holds f s (round_of f s)
      (record { station = x.station; here = can_begin.here; not_busy = can_begin.not_busy; left = x.round; row = x.row; boxes = x.boxes })

  decides : {t : Attempt} {o : Outcome} {k : ℕ} (d : Solo) → t.n ≡ f.n → t.highest ≡ true → d.outcome ≡ o → d.steps ≡ k → Over t o k → DecidesAlone f d
  decides d z i e n (has_decided v) = record { revision = v; said = e; steps = rw z at n }
  decides d z i e n (has_aborted u) = clash i u
  decides d z i e n (was_outranked u k l m) = clash i u

  -- a ready station driven alone decides in 4q + 1 steps
  pub solo_decides : DecidesAlone f (solo_of f s v)
  solo_decides =
      let a = run_ends f s v true y.sound y.lengths can_begin x.boxes
      (λ b _. (omega (arith, y.read (department_at f s) b, passes), omega (arith, y.write (department_at f s) b, passes))) in
      rw (solo_driven f s v no_refusal) (decides _ refl refl refl refl a)

-- On any floor whose arrays have the lengths of their types: the begin is turned back, or the attempt is driven to its end.
module _ (f : Floor) (s : ℕ) (v : Suit) (l : Lengths f) where
  abbrev begin : Command
  begin = Begin s (round_of f s) v

  run_back : (k : ℕ) (rs : List (List ℕ)) → apply_of f begin ≡ refused f k → of_run (run_of End f (begin_of f s v) rs) ≡ turned_away f k
  unfolding ran_from stops_by when◌then◌else◌
  run_back k [] e = rw (decode_encode begin, e)
  run_back k (r ∷ rs) e = rw (decode_encode begin, e)

  ended : {t : Attempt} {o : Outcome} {k : ℕ} (d : Solo) → t.n ≡ f.n → t.number ≡ row_taken f s → d.outcome ≡ o → d.steps ≡ k → Over t o k → Ends f s d
  ended d z y e n (has_decided v) = decided v e (rw z at n)
  ended d z y e n (has_aborted u) = aborted (e ∙ ap Aborted y) (rw z at n)
  ended d z y e n (was_outranked u k l m) = outranked k l (rw z at m) (e ∙ ap Aborted y) n

  begun_or_back : {x : Stepped} → quorum f.n ≤ length (answering f) → apply_of f begin ≡ x → StepCase f begin x
      → Ends f s (of_run (run_of End f (begin_of f s v) (exchanges_of f s)))
  begun_or_back q e (turned k t) = claims.turned k (run_back k (exchanges_of f s) e)
  begun_or_back q e (began z c) =
      let a = run_ends f s v false z l c q (λ b i. clash i refl) in
      ended _ refl refl refl refl a

  -- it is turned back with 0 steps, or takes 4q + 1 steps and decides or aborts, or is outranked at a read and aborts there
  pub solo_ends : Ends f s (solo_of f s v)
  solo_ends = elim (ℕ_discrete (solo_refusal f s) 0) [
    | yes e ↦ rw (solo_driven f s v e) (begun_or_back (front_means f s (round_of f s) (refusal_zero f s e)).boxes refl (apply_case f begin))
    | no e ↦ claims.turned (solo_refusal f s) (solo_refused f s v e)
  ]
