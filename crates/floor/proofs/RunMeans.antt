-- What a run says of its records: which were accepted, what they left, and which was refused.
use Prim.Native.Nat.{ℕ, ◌%◌}
use native.Mathlib.Omega.{arith}
use mathlib.Core.Path.{◌≡◌, refl, sym, ap, subst, ◌∙◌}
use mathlib.Core.List.{List, [], ◌∷◌}
use lib.Dec.{eqb}
use lib.ListN.{length}
use borrow.Author.Tests.{eqb-false}
use Rattle.base.specs.Choice.{when◌then◌else◌}
use Rattle.base.specs.Records.{records_in}
use Rattle.base.specs.Refusals.{number_if}
use Rattle.base.proofs.Cases.{by_cases, clash}
use Rattle.base.proofs.Choices.{by_test}
use Rattle.commands.specs.Commands.{command_of}
use Rattle.commands.specs.Outcomes.{number_of, refusal_said, is_refused, is_end}
use Rattle.commands.specs.declared.Command.{Command}
use Rattle.commands.specs.declared.Outcome.{Outcome}
use Rattle.commands.proofs.OutcomeLaws.{accepted_number, number_said, Numbering, numbering_or}
use Rattle.runs.specs.Runs.{state_at, stops_by, refusal_by}
use Rattle.runs.specs.declared.Until.{Until}
use Rattle.runs.specs.declared.Until.TheVariants.{Refusal, End}
use Rattle.runs.proofs.RunMeans.{since}
use Rattle.floor.specs.Sound.{sound_of}
use Rattle.floor.specs.Step.{apply_of, step_of}
use Rattle.floor.specs.Runs.{ran_with, run_of, played_on, run_refusal, driven_in}
use Rattle.floor.specs.RunClaims.{RunOver, PlayedOver}
use Rattle.floor.specs.declared.Floor.{Floor}
use Rattle.floor.specs.declared.Ran.{Ran}
use Rattle.floor.proofs.Keeps.{refused_same}
use Rattle.floor.proofs.RefusalLaws.{named_back}
use Rattle.floor.proofs.Numbered.{refused_number}

-- a run's count is how many of its records were accepted
pub run_ran : (until : Until) (f : Floor) (r : List ℕ) (rs : List (List ℕ)) → RunOver until f (r ∷ rs) (run_of until f r rs).accepted (run_of until f r rs)
unfolding step_of
run_ran until f r rs =
    let z = since is_refused is_end [] command_of (λ (g : Floor) (c : Command). (apply_of g c).floor) (λ (g : Floor) (c : Command). (apply_of g c).outcome) ran_with refused_same until 0 f r rs in
    let e : run_of until f r rs ≡ ran_with z.floor z.n z.outcome = z.made_of ∙ ap (λ (k : ℕ). ran_with z.floor k z.outcome) (omega arith) in
    subst (λ (x : Ran). RunOver until f (r ∷ rs) x.accepted x) (sym e) z.over

-- The refusal that a step, a run and a run of bytes say by name has the number of what they say.
pub step_named : (f : Floor) (r : List ℕ) → number_if (refusal_said (step_of f r).outcome) ≡ number_of (step_of f r).outcome
unfolding step_of
step_named f r = number_said _ (λ t. named_back _ (refused_number f (command_of r) t))

pub run_named : (until : Until) (f : Floor) (r : List ℕ) (rs : List (List ℕ)) → number_if (refusal_said (run_of until f r rs).outcome) ≡ number_of (run_of until f r rs).outcome
unfolding state_at
run_named until f r rs =
    let x = run_of until f r rs in
    by_cases (is_refused x.outcome)
    (λ t. subst (λ (o : Outcome). number_if (refusal_said o) ≡ number_of o) ((run_ran until f r rs).turned t).1 (step_named _ _))
    (λ t. number_said x.outcome (λ y. clash y t))

run_numbering : (f : Floor) (bytes : List ℕ) → Numbering (run_refusal f bytes)
unfolding run_refusal refusal_by
run_numbering f bytes =
    by_test Numbering (sound_of f) (when eqb (length bytes % 8) 0 then 0 else 5) 6
    (λ _. numbering_or (eqb (length bytes % 8) 0) 0 5 (λ e. absurd (e refl)) (λ _. refl))
    (λ _ _. refl)

pub driven_named : (f : Floor) (r bytes : List ℕ) → number_if (refusal_said (driven_in f r bytes).outcome) ≡ number_of (driven_in f r bytes).outcome
unfolding driven_in
driven_named f r bytes =
    by_test (λ (x : Ran). number_if (refusal_said x.outcome) ≡ number_of x.outcome) (eqb (run_refusal f bytes) 0) _ _
    (λ _. run_named End f r (records_in bytes))
    (λ e. run_numbering f bytes (eqb-false _ _ e))

pub run_played : (f : Floor) (rs : List (List ℕ)) → PlayedOver f rs (played_on f rs)
unfolding played_on state_at stops_by
run_played f [] = record { within = omega arith; left = refl; each = λ i h. absurd (omega arith); stopped = λ h. absurd (omega arith); whole = λ _. refl }
run_played f (r ∷ rs) =
    let x = run_of Refusal f r rs in
    let o = run_ran Refusal f r rs in
    record {
      within = o.within;
      left = o.left;
      each = o.each;
      stopped = λ h. by_cases (is_refused x.outcome)
          (λ t. let q = o.turned t in (ap is_refused q.1 ∙ t, run_named Refusal f r rs ∙ ap number_of (sym q.1)))
          (λ t. absurd (omega (arith, o.whole t)));
      whole = λ e. by_cases (is_refused x.outcome) (λ t. absurd (omega (arith, (o.turned t).0))) (λ t. run_named Refusal f r rs ∙ accepted_number x.outcome t);
    }
