-- One turn of a run: the run from a step on, by what the step said.
use Prim.Native.Nat.{ℕ, zero, suc, ◌+◌, ◌-◌}
use native.Mathlib.Omega.{arith}
use mathlib.Core.Path.{◌≡◌, refl, sym, ap, ap₂, ◌∙◌}
use mathlib.Core.Bool.{Bool, true, false}
use mathlib.Core.List.{List, [], ◌∷◌}
use lib.Dec.{leb}
use borrow.Author.Tests.{lt-leb, le-leb}
use Rattle.base.specs.Choice.{when◌then◌else◌}
use Rattle.base.specs.Records.{record_at, records_from}
use Rattle.base.proofs.Cases.{clash, by_cases}
use Rattle.base.proofs.Choices.{on_true, on_false}
use Rattle.runs.specs.Runs.{stops_by, ran_by, ran_from}
use Rattle.runs.specs.declared.Until.{Until}
use Rattle.runs.specs.declared.Until.TheVariants.{Refusal, End}

-- a run ends behind a refused step
pub refused_stops : (until : Until) (refused ends : Bool) → refused ≡ true → stops_by until refused ends ≡ true
unfolding stops_by
refused_stops Refusal refused ends e = e
refused_stops End refused ends e = sym (on_true _ e refl)

-- where it goes on the step was accepted
pub goes_accepted : (until : Until) (refused ends : Bool) → stops_by until refused ends ≡ false → refused ≡ false
goes_accepted until refused ends e = by_cases refused (λ t. clash (refused_stops until refused ends t) e) (λ t. t)

-- with a record left, the step is the last where the run ends behind it
some_left : (left : ℕ) (t : Bool) → (when leb (suc left) 0 then true else t) ≡ t
some_left left t = sym (on_false true (lt-leb (suc left) 0 (omega arith)) refl)

module _ {F C O R : Type 0} (refuses ends : O → Bool) (read : List ℕ → C) (next : F → C → F) (says : F → C → O) (made : F → ℕ → O → R)
    (until : Until) (k : ℕ) (f : F) (c : C) where
  abbrev run : (rs : List (List ℕ)) → R
  run rs = ran_from refuses ends read next says made until k f c rs

  abbrev one : R
  one = ran_by refuses ends read next says made k f c

  abbrev Stops : Bool
  Stops = stops_by until (refuses (says f c)) (ends (says f c))

  -- the step of c alone, accepted
  accepted_ran : refuses (says f c) ≡ false → made (next f c) (k + 1) (says f c) ≡ one
  accepted_ran t = ap (λ (n : ℕ). made (next f c) n (says f c)) (on_false _ t refl)

  -- it was the last, since the run ends behind it
  stopped_run : (x : R) (rs : List (List ℕ)) → Stops ≡ true → x ≡ one → x ≡ run rs
  unfolding ran_from
  stopped_run x [] t e = e
  stopped_run x (r ∷ rs) t e = on_true _ t e

  -- it was refused, and left the floor as it was
  pub run_refused : (rs : List (List ℕ)) → refuses (says f c) ≡ true → next f c ≡ f → made f k (says f c) ≡ run rs
  run_refused rs t same =
      stopped_run _ rs (refused_stops until _ _ t) (ap₂ (λ (g : F) (n : ℕ). made g n (says f c)) (sym same) (on_true _ t refl))

  -- or no record is left; `left` records are left, the next of them at the place `at` of the bytes l
  pub run_over : (left : ℕ) (l : List ℕ) (at : ℕ) → refuses (says f c) ≡ false → (when leb left 0 then true else Stops) ≡ true
      → made (next f c) (k + 1) (says f c) ≡ run (records_from left l at)
  unfolding ran_from records_from
  run_over zero l at t e = accepted_ran t
  run_over (suc left) l at t e = stopped_run _ (record_at l at ∷ records_from left l (at + 8)) (sym (some_left left _) ∙ e) (accepted_ran t)

  -- the run goes on
  pub run_goes_on : (left : ℕ) (l : List ℕ) (at : ℕ) → (when leb left 0 then true else Stops) ≡ false
      → ran_from refuses ends read next says made until (k + 1) (next f c) (read (record_at l at)) (records_from (left - 1) l (at + 8)) ≡ run (records_from left l at)
  unfolding ran_from records_from
  run_goes_on zero l at e = clash (sym (on_true Stops (le-leb 0 0 (omega arith)) refl)) e
  run_goes_on (suc left) l at e = let one : suc left - 1 ≡ left = omega arith in rw one (on_false _ (sym (some_left left _) ∙ e) refl)
