-- From box 9 on: with nine slots no request is issued there, and an answer received there is no yes.
use Prim.Native.Nat.{ℕ, zero, suc, ◌+◌, ◌≤◌}
use native.Mathlib.Nat.{eq-or-lt_of_le}
use native.Mathlib.Omega.{arith}
use mathlib.Core.Path.{◌≡◌, refl, sym, ap, subst, ◌∙◌}
use mathlib.Core.Logic.{inl, inr}
use mathlib.Core.Bool.{Bool, true, false}
use mathlib.Core.List.{List}
use lib.Dec.{eqb}
use lib.ListN.{length, get_or-eq_default}
use lib.Seq.{set_out}
use borrow.Author.Tests.{eq-eqb, ne_eqb}
use mir.Val.{Val}
use denote.Laws.{Is}
use Rattle.base.specs.Choice.{when◌then◌else◌}
use Rattle.base.specs.Mask.{bit, count_below}
use Rattle.base.specs.Quorum.{indicator}
use Rattle.base.proofs.Choices.{on_true, on_false, by_test}
use Rattle.base.proofs.MaskLaws.{count_suc}
use Rattle.requests.specs.Requests.{slot0, slot_at, heard_from, Standing, not_issued, received, standing, standing_of, is_waiting, is_on_the_way, served_at, still_yes, all_yes}
use Rattle.requests.specs.declared.Slot.{Slot}
use Rattle.requests.specs.declared.Requests.{Requests}
use Rattle.requests.specs.contracts.Requests.{the_row}

pub nine_slots : (q : Requests) (vs : List Val) → Is the_row q vs → length q.slots ≡ 9
nine_slots q vs g = g.1.1.0.1.0.1

module _ (q : Requests) (g : length q.slots ≡ 9) where
  pub no_slot : (b : ℕ) → 9 ≤ b → slot0 ≡ slot_at q b
  no_slot b h = sym (get_or-eq_default q.slots slot0 {n = b} (omega (arith, g)))

  pub none_waits : (b : ℕ) → 9 ≤ b → false ≡ is_waiting (standing_of q b)
  unfolding standing
  none_waits b h = rw (← no_slot b h) (by_test (λ (x : Standing). false ≡ is_waiting x) (bit q.heard b) received not_issued (λ _. refl) (λ _. refl))

  pub none_comes : (b : ℕ) → 9 ≤ b → false ≡ is_on_the_way (standing_of q b)
  unfolding standing
  none_comes b h = rw (← no_slot b h) (by_test (λ (x : Standing). false ≡ is_on_the_way x) (bit q.heard b) received not_issued (λ _. refl) (λ _. refl))

  pub none_served : (b : ℕ) (ok : Bool) → 9 ≤ b → q ≡ served_at q b ok
  none_served b ok h = rw (set_out q.slots b _ (omega (arith, g)))

  abbrev count : ℕ → ℕ
  count n = count_below q.heard n

  abbrev Settled : ℕ → Type 0
  Settled n = (count 9 ≤ count n) × (all_yes q n ≡ (when eqb (count n) (count 9) then all_yes q 9 else false))

  one_more : (n : ℕ) → 9 ≤ n → (t : Bool) → heard_from q n ≡ t → Settled n → Settled (suc n)
  unfolding all_yes still_yes
  one_more n h true e s =
      let k : count (suc n) ≡ count n + 1 = omega (arith, count_suc q.heard n, ap indicator e) in
      let o : (slot_at q n).ok ≡ false = ap (λ (x : Slot). x.ok) (sym (no_slot n h)) in (
        omega (arith, s.0),
        sym (on_true _ e (on_false _ o refl)) ∙ on_false _ (ne_eqb _ _ (λ (z : count (suc n) ≡ count 9). omega (arith, s.0))) refl,
      )
  one_more n h false e s =
      let k : count (suc n) ≡ count n = omega (arith, count_suc q.heard n, ap indicator e) in (
        omega (arith, s.0),
        sym (on_false _ e refl) ∙ s.1 ∙ ap (λ (m : ℕ). when eqb m (count 9) then all_yes q 9 else false) (sym k),
      )

  settled : (n : ℕ) → 9 ≤ n → Settled n
  settled zero h = absurd (omega arith)
  settled (suc n) h = elim (eq-or-lt_of_le h) [
    | inl e ↦ subst Settled e (omega arith, on_true false (eq-eqb (count 9) (count 9) refl) refl)
    | inr l ↦ one_more n (omega arith) (heard_from q n) refl (settled n (omega arith))
  ]

  pub heard_past : (n : ℕ) → 9 ≤ n → ¬ (count n ≡ count 9) → false ≡ all_yes q n
  heard_past n h e = on_false _ (ne_eqb _ _ e) refl ∙ sym (settled n h).1

  pub unheard_past : (n : ℕ) → 9 ≤ n → count n ≡ count 9 → all_yes q 9 ≡ all_yes q n
  unheard_past n h e = on_true _ (eq-eqb _ _ e) refl ∙ sym (settled n h).1

  -- as the code asks: the boxes with a slot first, and then whether any other answer was received
  pub yes_past : (n : ℕ) → 9 ≤ n → all_yes q 9 ≡ true → eqb (count n) (count 9) ≡ all_yes q n
  yes_past n h e =
      by_test (λ (x : Bool). eqb (count n) (count 9) ≡ x) (eqb (count n) (count 9)) (all_yes q 9) false (λ t. t ∙ sym e) (λ t. t)
      ∙ sym (settled n h).1
