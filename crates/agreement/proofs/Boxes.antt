-- Whether a box is away, read off the list.
use Prim.Native.Nat.{ℕ, zero, suc, ◌<◌, ◌≤◌}
use native.Mathlib.Nat.{eq-or-lt_of_le}
use native.Mathlib.Omega.{arith}
use mathlib.Core.Path.{◌≡◌, refl, sym, ap, subst, ◌∙◌}
use mathlib.Core.Logic.{inl, inr}
use mathlib.Core.Bool.{Bool, true, false}
use mathlib.Core.List.{List}
use Rattle.register.specs.declared.StorageBox.{StorageBox}
use Rattle.runs.specs.Runs.{state_at}
use Rattle.floor.specs.Floors.{box_at}
use Rattle.floor.specs.Moves.{AwayMove, away_kept, away_put, away_brought}
use Rattle.floor.specs.Step.{step_of}
use Rattle.floor.specs.declared.Floor.{Floor}
use Rattle.commands.specs.declared.Outcome.{Outcome}
use Rattle.commands.specs.declared.Outcome.TheVariants as said
use Rattle.base.proofs.Cases.{clash, up_to}
use Rattle.floor.proofs.AwayLaws.{away_moves}
use Rattle.floor.specs.Runs.{command_at}
use Rattle.agreement.specs.Words.{LastAway, Answering, never, returned}
use Rattle.floor.specs.Runs.{floor_at, said_at}
use Rattle.agreement.proofs.Positions.{means_at}
use Rattle.agreement.specs.Demand.{trace_of}
use Rattle.floor.proofs.Outcomes.{stopped_box_lem, back_box}
use Rattle.floor.proofs.Reached.{New, lengths_at}

module _ (f : Floor) (l : List (List ℕ)) (new : New f) where
  -- the box b before the step at i
  abbrev pub away_at : (b i : ℕ) → Bool
  away_at b i = (box_at (floor_at f l i) b).away

  pub away_step : (b i : ℕ) → AwayMove b (said_at f l i) (away_at b i) (away_at b (suc i))
  unfolding state_at step_of
  away_step b i = away_moves (floor_at f l i) (command_at l i) (lengths_at f l new i) b

  -- one that is not away stays so until a step puts it away
  not_put : {b : ℕ} {o : Outcome} {x y : Bool} → AwayMove b o x y → ¬ (o ≡ said.Stopped b) → x ≡ false → y ≡ false
  not_put (away_kept _ _) n e = e
  not_put away_put n e = absurd (n refl)
  not_put away_brought n e = refl

  still_here : (b k i : ℕ) → k ≤ i → away_at b k ≡ false → ((j : ℕ) → k ≤ j → j < i → ¬ (said_at f l j ≡ said.Stopped b)) → away_at b i ≡ false
  still_here b k zero h e n = subst (λ (j : ℕ). away_at b j ≡ false) (omega arith) e
  still_here b k (suc i) h e n = elim (eq-or-lt_of_le h) [
    | inl q ↦ subst (λ (j : ℕ). away_at b j ≡ false) q e
    | inr q ↦ not_put (away_step b i) (n i (omega arith) (omega arith)) (still_here b k i (omega arith) e (λ j u v. n j u (omega arith)))
  ]

  pub back_at : (b j : ℕ) → said_at f l j ≡ said.Back b → (away_at b j ≡ true) × (away_at b (suc j) ≡ false)
  back_at b j e = let m = means_at f l new j (said.Back b) e in (m.may.away, ap (λ (x : StorageBox). x.away) (back_box (lengths_at f l new j) m))

  pub put_at : (b j : ℕ) → said_at f l j ≡ said.Stopped b → (away_at b j ≡ false) × (away_at b (suc j) ≡ true)
  put_at b j e = let m = means_at f l new j (said.Stopped b) e in (m.may.not_away, ap (λ (x : StorageBox). x.away) (stopped_box_lem (lengths_at f l new j) m))

  pub answering_means : (b i : ℕ) → Answering (trace_of f l) i b → away_at b i ≡ false
  unfolding state_at
  answering_means b i (never n) =
      still_here b 0 i (omega arith) (ap (λ (x : StorageBox). x.away) (new.boxes b)) (λ j _ h e. n (record { at = j; earlier = h; holds = e }))
  answering_means b i (returned k j a h u e) = still_here b (suc j) i (omega arith) (back_at b j e).1 (λ t v w. a.last t (omega arith) w)

  -- and of one that is away a last step put it so
  last_later : {b k i : ℕ} → LastAway (trace_of f l) b k i → ¬ (said_at f l i ≡ said.Stopped b) → LastAway (trace_of f l) b k (suc i)
  last_later {b} {k} {i} a n = record {
    earlier = omega (arith, a.earlier);
    put = a.put;
    last = λ j h u e. elim (up_to u) [ inl q ↦ n (ap (said_at f l) (sym q) ∙ e) | inr q ↦ a.last j h q e ];
  }

  put_last : (b i : ℕ) {o : Outcome} {x y : Bool} → AwayMove b o x y → said_at f l i ≡ o → (x ≡ true → (k : ℕ) × LastAway (trace_of f l) b k i) → y ≡ true → (k : ℕ) × LastAway (trace_of f l) b k (suc i)
  put_last b i (away_kept n _) q h e = let a = h e in (a.0, last_later a.1 (λ u. n (sym q ∙ u)))
  put_last b i away_put q h e = (i, record { earlier = omega arith; put = q; last = λ j h u. absurd (omega arith) })
  put_last b i away_brought q h e = clash e refl

  away_since : (b i : ℕ) → away_at b i ≡ true → (k : ℕ) × LastAway (trace_of f l) b k i
  unfolding state_at
  away_since b zero e = clash e (ap (λ (x : StorageBox). x.away) (new.boxes b))
  away_since b (suc i) e = put_last b i (away_step b i) refl (away_since b i) e

  back_or_never : (b i : ℕ) {o : Outcome} {x y : Bool} → AwayMove b o x y → said_at f l i ≡ o → away_at b i ≡ x → (x ≡ false → Answering (trace_of f l) i b) → y ≡ false → Answering (trace_of f l) (suc i) b
  back_or_never b i (away_kept n _) q p h e = still (h e)
    where
      still : Answering (trace_of f l) i b → Answering (trace_of f l) (suc i) b
      still (never m) = never (λ x. elim (up_to x.earlier) [
        | inl u ↦ n (sym q ∙ ap (said_at f l) (sym u) ∙ x.holds)
        | inr u ↦ m (record { at = x.at; earlier = u; holds = x.holds })
      ])
      still (returned k j a u v c) = returned k j (last_later a (λ w. n (sym q ∙ w))) u (omega arith) c
  back_or_never b i away_put q p h e = clash refl e
  back_or_never b i away_brought q p h e =
      let a = away_since b i p in
      returned a.0 i (last_later a.1 (λ u. let k : ◌≡◌ {A = ℕ} 0 1 = cc in omega arith)) a.1.earlier (omega arith) q

  pub answering_holds : (b i : ℕ) → away_at b i ≡ false → Answering (trace_of f l) i b
  answering_holds b zero e = never (λ x. omega (arith, x.earlier))
  answering_holds b (suc i) e = back_or_never b i (away_step b i) refl refl (answering_holds b i) e
