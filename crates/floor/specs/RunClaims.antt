-- What is claimed of runs. The proof is `run_claims` in proofs/Claims.
use Rattle.std.specs.Prelude.{ℕ, ◌%◌, ◌<◌, ◌≤◌, ◌≡◌, true, false, List, [], ◌∷◌, length, Some}
use Rattle.base.specs.Records.{records_in}
use Rattle.base.specs.Refusals.{number_if, named}
use Rattle.commands.specs.Outcomes.{number_of, refusal_said, is_refused, is_end}
use Rattle.runs.specs.RanOver.{RanOver}
use Rattle.runs.specs.declared.Until.{Until}
use Rattle.floor.specs.Sound.{sound_of}
use Rattle.floor.specs.Step.{step_of}
use Rattle.floor.specs.Runs.{floor_at, said_at, run_of, played_on, played_in, driven_in}
use Rattle.floor.specs.declared.Floor.{Floor}
use Rattle.floor.specs.declared.Ran.{Ran}
use Rattle.floor.specs.declared.Played.{Played}

-- What the run of a list l from the floor f is, x being what it handed back: its first k records were accepted and left x's floor, and x says
-- what the last of them said, or else what the next, which was refused. Each of these is a field of `RanOver`.
abbrev pub RunOver : (until : Until) (f : Floor) (l : List (List ℕ)) (k : ℕ) (x : Ran) → Type 0
RunOver until f l k x = RanOver is_refused is_end [] (λ (g : Floor) (r : List ℕ). (step_of g r).floor) (λ (g : Floor) (r : List ℕ). (step_of g r).outcome) until f l k x.floor x.outcome

-- The same of a list that is played up to its first refused record: "played to its end or turned back at a stated step by a number in
-- document 01, and the floor is then what the accepted steps left".
pub record PlayedOver (f : Floor) (l : List (List ℕ)) (x : Played) : Type 0 where
  pub within : x.accepted ≤ length l
  pub left : x.floor ≡ floor_at f l x.accepted
  pub each : (i : ℕ) → i < x.accepted → is_refused (said_at f l i) ≡ false
  pub stopped : x.accepted < length l → (is_refused (said_at f l x.accepted) ≡ true) × (number_if x.refusal ≡ number_of (said_at f l x.accepted))
  pub whole : x.accepted ≡ length l → number_if x.refusal ≡ 0

-- What holds of every run.
pub record RunClaims : Type 0 where
  pub ran : (until : Until) (f : Floor) (r : List ℕ) (rs : List (List ℕ)) → RunOver until f (r ∷ rs) (run_of until f r rs).accepted (run_of until f r rs)
  pub played : (f : Floor) (rs : List (List ℕ)) → PlayedOver f rs (played_on f rs)
  -- of records handed in as bytes: refused for the floor, however few bytes there are, then for bytes that are not whole records, and else
  -- only where a step is refused, so that no records are no refusal
  pub played_6 : (f : Floor) (bytes : List ℕ) → sound_of f ≡ false → played_in f bytes ≡ record { floor = f; accepted = 0; refusal = Some (named 6) }
  pub played_5 : (f : Floor) (bytes : List ℕ) → sound_of f ≡ true → ¬ (length bytes % 8 ≡ 0) → played_in f bytes ≡ record { floor = f; accepted = 0; refusal = Some (named 5) }
  pub played_whole : (f : Floor) (bytes : List ℕ) → sound_of f ≡ true → length bytes % 8 ≡ 0 → PlayedOver f (records_in bytes) (played_in f bytes)
  -- the refusal that a run says by name has the number of what it says, and so has that which turns the bytes back before the first step
  pub named : (until : Until) (f : Floor) (r : List ℕ) (rs : List (List ℕ)) → number_if (refusal_said (run_of until f r rs).outcome) ≡ number_of (run_of until f r rs).outcome
  pub driven_named : (f : Floor) (r bytes : List ℕ) → number_if (refusal_said (driven_in f r bytes).outcome) ≡ number_of (driven_in f r bytes).outcome
