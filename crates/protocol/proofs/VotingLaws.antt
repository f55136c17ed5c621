-- The argument over ranks: the start is sound, each step keeps that, and what won is settled.
use mathlib.Core.Path.{◌≡◌, sym, subst}
use mathlib.Core.Logic.{◌⊎◌, inl, inr}
use Prim.Native.Nat.{ℕ, ◌<◌}
use native.Mathlib.Decide.{dec_le}
use native.Mathlib.Nat.{eq-or-lt_of_le}
use native.Mathlib.Omega.{arith}
use Rattle.protocol.specs.Voting.{Votes, ConsistentVotes, Backed, Safe, lost, follows, VotesInv, before, now, Advance, Settles, Agrees}

module _ {A : Type 0} (◌⊑◌ : A → A → Type 0) where
  infix 20 ◌⊑◌
  -- nothing is issued at the start
  pub start_sound : {σ : Votes A} → ((r : ℕ) (v : A) → ¬ (σ.Issued r v)) → VotesInv ◌⊑◌ σ
  start_sound f = record { unique = λ r u v d. absurd (f r u d); safe = λ r v d. absurd (f r v d); offered = λ r v d. absurd (f r v d) }

  pub backed_offered : {σ : Votes A} {r : ℕ} {v : A} → VotesInv ◌⊑◌ σ → Backed ◌⊑◌ σ r v → σ.Offered v
  backed_offered i q = q.offered (λ p. i.offered q.rank q.value (q.issued p))

  module _ (trans : (u v w : A) → u ⊑ v → v ⊑ w → u ⊑ w) where
    -- a value that is backed is safe from every lower rank
    module _ {σ : Votes A} {r : ℕ} {v : A} (i : VotesInv ◌⊑◌ σ) (q : Backed ◌⊑◌ σ r v) where
      backed_safe : (s : ℕ) → 0 < s → s < r → Safe ◌⊑◌ σ s v
      backed_safe s p h = elim (dec_le s q.rank) [ yes k ↦ at_or_below (omega arith) (eq-or-lt_of_le k) | no k ↦ lost (q.lost s (omega arith) (omega arith)) ]
        where
          onto : 0 < q.rank → Safe ◌⊑◌ σ s q.value → Safe ◌⊑◌ σ s v
          onto k (lost d) = lost d
          onto k (follows {u = y} e f) = follows e (trans y q.value v f (q.follows (omega arith)))

          at_or_below : 0 < q.rank → (s ≡ q.rank) ⊎ (s < q.rank) → Safe ◌⊑◌ σ s v
          at_or_below k (inl e) = follows (subst (λ (j : ℕ). σ.Issued j q.value) (sym e) (q.issued k)) (q.follows (omega arith))
          at_or_below k (inr l) = onto k (i.safe q.rank q.value (q.issued k) s p l)

    module _ {σ τ : Votes A} (m : Advance ◌⊑◌ σ τ) (i : VotesInv ◌⊑◌ σ) where
      safe_kept : {s : ℕ} {v : A} → Safe ◌⊑◌ σ s v → Safe ◌⊑◌ τ s v
      safe_kept {s} (lost d) = lost (m.lost_kept s d)
      safe_kept {s} (follows {u = y} e f) = follows (m.issued_kept s y e) f

      -- a step keeps the invariant
      pub advance_sound : VotesInv ◌⊑◌ τ
      advance_sound = record {
        unique = λ r u v d e. elim (m.issue r u d) [
          | before o ↦ elim (m.issue r v e) [ before p ↦ i.unique r u v o p | now q f ↦ f u d ]
          | now q f ↦ sym (f v e)
        ];
        safe = λ r v d s p h. safe_kept (elim (m.issue r v d) [ before o ↦ i.safe r v o s p h | now q f ↦ backed_safe i q s p h ]);
        offered = λ r v d. m.offered_kept v (elim (m.issue r v d) [ before o ↦ i.offered r v o | now q f ↦ backed_offered i q ]);
      }

  module _ {σ : Votes A} (k : ConsistentVotes σ) (i : VotesInv ◌⊑◌ σ) where
    pub settles : Settles ◌⊑◌ σ
    settles s r u v c w d h = elim (i.safe r v d s (k.above_start s w) h) [
      | lost o ↦ absurd (k.exclusive s w o)
      | follows {u = y} e f ↦ subst (λ (z : A). z ⊑ v) (i.unique s y u e c) f
    ]

    pub agrees : ((v : A) → v ⊑ v) → Agrees ◌⊑◌ σ
    agrees same s r u v c w d x h = elim (eq-or-lt_of_le h) [
      | inl e ↦ subst (λ (z : A). u ⊑ z) (i.unique r u v (subst (λ (j : ℕ). σ.Issued j u) e c) d) (same u)
      | inr l ↦ settles s r u v c w d l
    ]
