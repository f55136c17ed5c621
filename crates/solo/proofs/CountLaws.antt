-- The number of a solo finish's steps is how many steps of its plan lead to the floor that it hands back.
use Prim.Native.Nat.{ℕ, ◌≤◌}
use native.Mathlib.Omega.{arith}
use mathlib.Core.Path.{◌≡◌, refl}
use mathlib.Core.List.{List, ◌∷◌}
use Rattle.suits.specs.declared.Suit.{Suit}
use Rattle.base.proofs.Cases.{clash}
use Rattle.base.proofs.Choices.{by_test}
use Rattle.runs.specs.Runs.{state_at}
use Rattle.floor.specs.Runs.{run_of}
use Rattle.floor.specs.Soundness.{Sound}
use Rattle.floor.specs.declared.Floor.{Floor}
use Rattle.floor.specs.declared.Ran.{Ran}
use Rattle.runs.specs.declared.Until.TheVariants.{End}
use Rattle.floor.proofs.RunMeans.{run_ran}
use Rattle.solo.specs.Plan.{begin_of, exchanges_of, plan_of}
use Rattle.solo.specs.Solo.{solo_refusal, turned_away, of_run, solo_of}
use Rattle.solo.specs.Claims.{Counted}
use Rattle.solo.proofs.PlanLaws.{plan_most}

run_counted : (f : Floor) (r : List ℕ) (rs : List (List ℕ)) → Counted f (r ∷ rs) (of_run (run_of End f r rs))
run_counted f r rs =
    let o = run_ran End f r rs in
    record { within = o.within; reached = o.left; accepted = o.each; last = o.last }

back_counted : (f : Floor) (rs : List (List ℕ)) (k : ℕ) → Counted f rs (turned_away f k)
unfolding state_at
back_counted f rs k = record { within = omega arith; reached = refl; accepted = λ i h. absurd (omega arith); last = λ e. clash refl e }

-- for every floor and whatever was asked, refused solo finishes too
pub solo_counted : (f : Floor) (s : ℕ) (v : Suit) → Counted f (plan_of f s v) (solo_of f s v)
unfolding solo_of
solo_counted f s v = by_test (Counted f (plan_of f s v)) _ _ _ (λ _. run_counted f _ _) (λ _. back_counted f _ (solo_refusal f s))

-- the steps of at most 9 boxes' plan fit a byte
pub run_short : (f : Floor) (s : ℕ) (v : Suit) (x : Ran) → Sound f → x ≡ run_of End f (begin_of f s v) (exchanges_of f s) → x.accepted ≤ 37
run_short f s v x z e = rw e (omega (arith, (run_ran End f (begin_of f s v) (exchanges_of f s)).within, plan_most f s v, z.box_most))
