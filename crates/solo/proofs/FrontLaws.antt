-- The refusals up front: what it means that none applies, and what comes of each case.
use Prim.Native.Nat.{ℕ, ◌≤◌, ◌<◌}
use native.Mathlib.Omega.{arith}
use mathlib.Core.Path.{◌≡◌, refl, sym, ap, ◌∙◌}
use mathlib.Core.Bool.{Bool, true, false}
use lib.ListN.{length}
use lib.Dec.{eqb, leb, ltb}
use borrow.Author.Tests.{leb-true, leb-false, lt-leb, ltb-true, ltb-false, le-ltb, eq-eqb, eqb-false, ne_eqb}
use Rattle.suits.specs.declared.Suit.{Suit}
use Rattle.std.specs.Prelude.{Result, Ok, Err}
use Rattle.base.specs.Numbers.{quorum}
use Rattle.base.specs.Refusals.{number, number_if, number_in}
use Rattle.base.specs.declared.Refusal.{Refusal}
use Rattle.base.proofs.RefusalLaws.{number_above}
use Rattle.base.proofs.Choices.{on_true, on_false, by_test, passed, choice_ap}
use Rattle.commands.specs.Outcomes.{number_of, value_of, refusal_said}
use Rattle.commands.proofs.OutcomeLaws.{Numbering}
use Rattle.base.specs.Choice.{when◌then◌else◌}
use Rattle.attempts.specs.Stations.{is_gone, is_busy}
use Rattle.attempts.specs.declared.State.{State}
use Rattle.attempts.proofs.StationTests.{is_idle}
use Rattle.floor.specs.Floors.{station_at}
use Rattle.floor.specs.Sound.{sound_of}
use Rattle.floor.specs.Runs.{run_of}
use Rattle.floor.specs.Effects.{row_taken}
use Rattle.floor.specs.declared.Floor.{Floor}
use Rattle.floor.proofs.RunMeans.{run_named}
use Rattle.runs.specs.declared.Until.TheVariants.{End}
use Rattle.solo.specs.Plan.{round_of, answering, begin_of, exchanges_of}
use Rattle.solo.specs.Solo.{front_refusal, solo_refusal, turned_away, of_run, solo_of, solo_number, solo_value}
use Rattle.solo.specs.Claims.{TurnedBy, unsound, no_station, gone, busy, no_round, no_row, few_boxes, none}
use Rattle.solo.specs.declared.Solo.{Solo}

-- no refusal from 8 on applies
pub record MayFinish (f : Floor) (s round : ℕ) : Type 0 where
  pub station : s < f.m
  pub here : is_gone (station_at f s).state ≡ false
  pub not_busy : is_busy (station_at f s).state ≡ false
  pub left : round ≤ 65535
  pub row : row_taken f s < 128
  pub boxes : quorum f.n ≤ length (answering f)

module _ (f : Floor) (s round : ℕ) where
  pub front_means : front_refusal f s round ≡ 0 → MayFinish f s round
  unfolding front_refusal
  front_means e =
      let x₁ = passed _ _ _ e (omega arith) in
      let x₂ = passed _ _ _ x₁.1 (omega arith) in
      let x₃ = passed _ _ _ x₂.1 (omega arith) in
      let x₄ = passed _ _ _ x₃.1 (omega arith) in
      let x₅ = passed _ _ _ x₄.1 (omega arith) in
      let x₆ = passed _ _ _ x₅.1 (omega arith) in
      record {
        station = leb-false _ _ x₁.0;
        here = x₂.0;
        not_busy = x₃.0;
        left = ltb-false _ _ x₄.0;
        row = leb-false _ _ x₅.0;
        boxes = ltb-false _ _ x₆.0;
      }

  pub front_holds : MayFinish f s round → front_refusal f s round ≡ 0
  unfolding front_refusal
  front_holds d =
      sym (on_false _ (lt-leb _ _ d.station) (on_false _ d.here (on_false _ d.not_busy
      (on_false _ (le-ltb _ _ d.left) (on_false _ (lt-leb _ _ d.row) (on_false _ (le-ltb _ _ d.boxes) refl))))))

-- which refusal applies
pub solo_turned : (f : Floor) (s : ℕ) → TurnedBy f s (solo_refusal f s)
unfolding solo_refusal front_refusal
solo_turned f s =
    choose (sound_of f) (λ z.
    choose (leb f.m s) (λ h. no_station z (leb-true f.m s h)) (λ h. let m = leb-false f.m s h in
    choose (is_gone p) (λ g. gone z m g) (λ g.
    choose (is_busy p) (λ b. busy z m b) (λ b. let i = is_idle p g b in
    choose (ltb 65535 (round_of f s)) (λ o. no_round z m i (ltb-true 65535 (round_of f s) o)) (λ o. let k = ltb-false 65535 (round_of f s) o in
    choose (leb 128 (row_taken f s)) (λ w. no_row z m i k (leb-true 128 (row_taken f s) w)) (λ w. let l = leb-false 128 (row_taken f s) w in
    choose (ltb (length (answering f)) (quorum f.n)) (λ q. few_boxes z m i k l (ltb-true _ _ q))
    (λ q. none z (record { station = m; idle = i; round = k; row = l; boxes = ltb-false _ _ q })))))))) unsound
  where
    p : State
    p = (station_at f s).state

    choose : (t : Bool) {x y : ℕ} → (t ≡ true → TurnedBy f s x) → (t ≡ false → TurnedBy f s y) → TurnedBy f s (when t then x else y)
    choose t {x} {y} = by_test (TurnedBy f s) t x y

-- a refusal has its number by its name
turned_named : {f : Floor} {s k : ℕ} → TurnedBy f s k → Numbering k
turned_named (unsound z) e = refl
turned_named (no_station z h) e = refl
turned_named (gone z m g) e = refl
turned_named (busy z m b) e = refl
turned_named (no_round z m i o) e = refl
turned_named (no_row z m i k w) e = refl
turned_named (few_boxes z m i k l q) e = refl
turned_named (none z y) e = absurd (e refl)

module _ (f : Floor) (s : ℕ) (v : Suit) where
  -- "a refused solo finish takes 0 steps", and leaves the floor
  pub solo_refused : ¬ (solo_refusal f s ≡ 0) → solo_of f s v ≡ turned_away f (solo_refusal f s)
  unfolding solo_of
  solo_refused e = sym (on_false _ (ne_eqb _ _ e) refl)

  pub solo_driven : solo_refusal f s ≡ 0 → solo_of f s v ≡ of_run (run_of End f (begin_of f s v) (exchanges_of f s))
  unfolding solo_of
  solo_driven e = sym (on_true _ (eq-eqb _ _ e) refl)

  -- its number and its value
  pub solo_number_lem : number_of (solo_of f s v).outcome ≡ solo_number f s v
  unfolding solo_of solo_number
  solo_number_lem = choice_ap (λ (d : Solo). number_of d.outcome) _ _ _

  pub solo_value_lem : value_of (solo_of f s v).outcome ≡ solo_value f s v
  unfolding solo_of solo_value
  solo_value_lem = choice_ap (λ (d : Solo). value_of d.outcome) _ _ _

  -- the refusal that it says by name has the number of what it says
  pub solo_named : number_if (refusal_said (solo_of f s v).outcome) ≡ number_of (solo_of f s v).outcome
  unfolding solo_of
  solo_named =
      by_test (λ (d : Solo). number_if (refusal_said d.outcome) ≡ number_of d.outcome) (eqb (solo_refusal f s) 0) _ _
      (λ _. run_named End f (begin_of f s v) (exchanges_of f s))
      (λ e. turned_named (solo_turned f s) (eqb-false _ _ e))

module _ (f : Floor) (s : ℕ) where
  pub refusal_unsound : sound_of f ≡ false → solo_refusal f s ≡ 6
  unfolding solo_refusal
  refusal_unsound e = sym (on_false _ e refl)

  pub refusal_sound : sound_of f ≡ true → solo_refusal f s ≡ front_refusal f s (round_of f s)
  unfolding solo_refusal
  refusal_sound e = sym (on_true _ e refl)

  -- no refusal: the floor is sound, and none of the others applies
  pub refusal_zero : solo_refusal f s ≡ 0 → front_refusal f s (round_of f s) ≡ 0
  unfolding solo_refusal
  refusal_zero = by_test (λ (k : ℕ). k ≡ 0 → front_refusal f s (round_of f s) ≡ 0) (sound_of f) _ _ (λ _ e. e) (λ _ e. absurd (omega (arith, e)))

-- the code's three ends: the floor is not sound; a later refusal applies; none does
pub ends_unsound : (f : Floor) (s : ℕ) (v : Suit) (r : Solo) → sound_of f ≡ false → r ≡ turned_away f 6 → r ≡ solo_of f s v
ends_unsound f s v r z h =
    let k = refusal_unsound f s z in
    h ∙ rw k at (sym (solo_refused f s v (λ (e : solo_refusal f s ≡ 0). omega (arith, k))))

module _ (f : Floor) (s : ℕ) (v : Suit) (round : ℕ) {A : Type 0} (x : Result A Refusal) (r : Solo) (z : sound_of f ≡ true) (picked : round ≡ round_of f s)
    (ex : number_in x ≡ front_refusal f s round) where
  first : number_in x ≡ solo_refusal f s
  first = ex ∙ rw picked (sym (refusal_sound f s z))

  pub ends_refused : (e : Refusal) → x ≡ Err e → r ≡ turned_away f (number e) → r ≡ solo_of f s v
  ends_refused e q h =
      let k : number e ≡ solo_refusal f s = ap number_in (sym q) ∙ first in
      h ∙ rw k (sym (solo_refused f s v (λ (o : solo_refusal f s ≡ 0). number_above e (k ∙ o))))

  pub ends_driven : (a : A) → x ≡ Ok a → r ≡ of_run (run_of End f (begin_of f s v) (exchanges_of f s)) → r ≡ solo_of f s v
  ends_driven a q h = h ∙ sym (solo_driven f s v (sym first ∙ ap number_in q))
