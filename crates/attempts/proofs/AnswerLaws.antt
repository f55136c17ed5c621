-- The laws of the choice among the answers to a read.
use Prim.Native.Nat.{ℕ, zero, suc, ◌<◌}
use native.Mathlib.Nat.{eq-zero-or-pos}
use native.Mathlib.Omega.{arith}
use mathlib.Core.Path.{◌≡◌, refl, sym, ap, ◌∙◌}
use mathlib.Core.Logic.{◌⊎◌, inl, inr}
use mathlib.Core.Bool.{Bool, true, false}
use mathlib.Core.List.{List}
use lib.Dec.{ltb}
use lib.ListN.{get_or}
use Rattle.std.proofs.Common.{Option, Some}
use borrow.Author.Tests.{ltb-true, ltb-false, eq-eqb, ne_eqb}
use Rattle.base.specs.Choice.{when◌then◌else◌}
use Rattle.base.proofs.Choices.{on_true, on_false, by_test}
use Rattle.base.specs.Mask.{count_below}
use Rattle.base.proofs.MaskLaws.{bit_zero, count_agree, count_zero}
use Rattle.suits.specs.declared.Suit.{Suit}
use Rattle.register.specs.Register.{answer0, is_held, rank_in, value_in}
use Rattle.register.specs.declared.Answer.{Answer}
use Rattle.requests.specs.Requests.{heard_from, at_quorum}
use Rattle.requests.specs.declared.Requests.{Requests}
use Rattle.base.proofs.Cases.{clash, up_to}
use Rattle.requests.proofs.RequestLaws.{quorum_means}
use Rattle.attempts.specs.Claims.{Found, nothing, highest}
use Rattle.attempts.specs.Rows.{better, higher, best_of, revision_from}

-- nobody was heard
count_none : (h : Requests) (n : ℕ) → ((b : ℕ) → b < n → heard_from h b ≡ false) → count_below h.heard n ≡ 0
count_none h n p = count_agree h.heard 0 n (λ b l. p b l ∙ sym (bit_zero b)) ∙ count_zero n

module _ (l : List Answer) (m : Requests) where
  abbrev rank : ℕ → ℕ
  rank c = (get_or l c answer0).rank

  one_more : (k : ℕ) (h : Bool) → heard_from m k ≡ h → (x : Option Answer) → Found l m k x → Found l m (suc k) (better x h (get_or l k answer0))
  unfolding better higher when◌then◌else◌
  one_more k false e _ (nothing z) = nothing (λ c h. elim (up_to h) [ inl p ↦ ap (heard_from m) p ∙ e | inr p ↦ z c p ])
  one_more k false e _ (highest {b} h i z y) = highest {b = b} (omega arith) i (λ c q n. elim (up_to q) [
    | inl p ↦ clash n (ap (heard_from m) p ∙ e)
    | inr p ↦ z c p n
  ]) y
  one_more k true e _ (nothing z) = highest {b = k} (omega arith) e (λ c q n. elim (up_to q) [
    | inl p ↦ omega (arith, ap rank p)
    | inr p ↦ clash n (z c p)
  ]) (λ c q n. clash n (z c q))
  one_more k true e _ (highest {b} h i z y) =
      by_test (λ (a : Answer). Found l m (suc k) (Some a)) (ltb (rank b) (rank k)) (get_or l k answer0) (get_or l b answer0)
      (λ q. let lt = ltb-true (rank b) (rank k) q in
      highest {b = k} (omega arith) e
      (λ c p n. elim (up_to p) [ inl x ↦ omega (arith, ap rank x) | inr x ↦ omega (arith, z c x n) ])
      (λ c p n. omega (arith, z c p n)))
      (λ q. let le = ltb-false (rank b) (rank k) q in
      highest {b = b} (omega arith) i
      (λ c p n. elim (up_to p) [ inl x ↦ omega (arith, ap rank x) | inr x ↦ z c x n ])
      y)

  pub best_found : (k : ℕ) → Found l m k (best_of l m k)
  unfolding best_of
  best_found zero = nothing (λ c h. absurd (omega arith))
  best_found (suc k) = one_more k (heard_from m k) refl (best_of l m k) (best_found k)

  -- at a quorum there is one
  found_quorum : {k : ℕ} {x : Option Answer} → Found l m k x → at_quorum m k ≡ true → is_held x ≡ true
  found_quorum {k} (nothing z) e = absurd (omega (arith, quorum_means m k e, count_none m k z))
  found_quorum (highest p q r t) e = refl

  pub best_at_quorum : (n : ℕ) → at_quorum m n ≡ true → is_held (best_of l m n) ≡ true
  best_at_quorum n = found_quorum (best_found n)

-- "If that answer holds nothing, it writes its own offer, otherwise that answer's value."
module _ (x : Option Answer) (offer : Suit) where
  pub revision_offer : rank_in x ≡ 0 → revision_from x offer ≡ offer
  unfolding revision_from
  revision_offer e = sym (on_true _ (eq-eqb _ _ e) refl)

  pub revision_value : 0 < rank_in x → revision_from x offer ≡ value_in x
  unfolding revision_from
  revision_value h = sym (on_false _ (ne_eqb _ _ (λ (e : rank_in x ≡ 0). omega arith)) refl)

  pub revision_either : ((rank_in x ≡ 0) × (revision_from x offer ≡ offer)) ⊎ ((0 < rank_in x) × (revision_from x offer ≡ value_in x))
  revision_either = elim (eq-zero-or-pos (rank_in x)) [ inl e ↦ inl (e, revision_offer e) | inr h ↦ inr (h, revision_value h) ]
