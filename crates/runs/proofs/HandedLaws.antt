-- Records handed in as bytes: what turns them back, one of them, and the first with those behind it.
use Prim.Native.Nat.{ℕ, suc, ◌+◌, ◌-◌, ◌*◌, ◌/◌, ◌%◌, ◌≤◌}
use native.Mathlib.Omega.{arith}
use mathlib.Core.Path.{◌≡◌, refl, ap, ◌∙◌}
use mathlib.Core.Bool.{Bool, true, false}
use mathlib.Core.List.{List, ◌∷◌}
use lib.ListN.{length, get_or, take, drop, length-drop, get_or-eq_default}
use lib.Seq.{take_all}
use borrow.Author.Tests.{eqb-true, eq-eqb, ne_eqb}
use Rattle.base.specs.Records.{record_at, records_from, records_in}
use Rattle.base.proofs.Choices.{on_true, on_false, by_test}
use Rattle.base.proofs.RecordLaws.{records_length, record_nth, records_drop}
use Rattle.runs.specs.Runs.{refusal_by}

-- the refusal before the first step, by its cause
module _ (sound : Bool) (size : ℕ) where
  pub refused_6 : sound ≡ false → 6 ≡ refusal_by sound size
  unfolding refusal_by
  refused_6 z = on_false _ z refl

  pub refused_5 : sound ≡ true → ¬ (size % 8 ≡ 0) → 5 ≡ refusal_by sound size
  unfolding refusal_by
  refused_5 z h = on_true _ z (on_false _ (ne_eqb _ _ h) refl)

  pub refused_0 : sound ≡ true → size % 8 ≡ 0 → 0 ≡ refusal_by sound size
  unfolding refusal_by
  refused_0 z h = on_true _ z (on_true _ (eq-eqb _ _ h) refl)

  -- where it is 0 neither applies
  pub refused_none : refusal_by sound size ≡ 0 → (sound ≡ true) × (size % 8 ≡ 0)
  unfolding refusal_by
  refused_none =
      by_test (λ (k : ℕ). k ≡ 0 → (sound ≡ true) × (size % 8 ≡ 0)) _ _ _
      (λ z. by_test (λ (k : ℕ). k ≡ 0 → (sound ≡ true) × (size % 8 ≡ 0)) _ _ _ (λ t _. (z, eqb-true _ _ t)) (λ _ e. absurd (omega (arith, e))))
      (λ _ e. absurd (omega (arith, e)))

-- a record that is there
pub record_there : (s : List ℕ) (k : ℕ) (d : List ℕ) → 8 * k + 8 ≤ length s → get_or (records_in s) k d ≡ record_at s (8 * k)
record_there s k d h = record_nth (length s / 8) s 0 k d (omega arith) ∙ ap (record_at s) (omega arith)

-- one that is not
pub record_none : (s : List ℕ) (k : ℕ) (d : List ℕ) → length s / 8 ≤ k → get_or (records_in s) k d ≡ d
record_none s k d h = get_or-eq_default (records_in s) d (rw records_length h)

-- the records are the first and those of the bytes behind it
pub records_split : (l : List ℕ) → 8 ≤ length l → records_in l ≡ record_at l 0 ∷ records_in (take (length l - 8) (drop 8 l))
unfolding records_from
records_split l h =
    let behind : take (length l - 8) (drop 8 l) ≡ drop 8 l = take_all (length l - 8) (drop 8 l) (rw length-drop (omega arith)) in
    let more : length l / 8 ≡ suc ((length l - 8) / 8) = omega arith in
    let rest : records_from ((length l - 8) / 8) (drop 8 l) 0 ≡ records_from ((length l - 8) / 8) l 8 = records_drop ((length l - 8) / 8) l 8 0 in
    rw (behind, length-drop 8 l, rest, more) refl
