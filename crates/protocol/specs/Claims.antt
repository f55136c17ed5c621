-- What is claimed; lemmas and theorems are the paper's (document 003). The proofs are `invariance` and `theory` in
-- proofs/Theory.
use mathlib.Core.List.{List, ◌∷◌, Memᴰ}
use Rattle.std.specs.Prelude.{ℕ, ◌≤◌, ◌<◌}
use Rattle.protocol.specs.View.{View, Chosen, ReadReturns, Transition, Start}
use Rattle.protocol.specs.Invariant.{Inv}
use Rattle.protocol.specs.Trace.{Box, Event, read, nack, issued, took, refused, view, Outranked, Step, Run}

module _ {A : Type 0} (◌⊑◌ : A → A → Type 0) where
  infix 20 ◌⊑◌
  -- What is asked of the relation, which is read as: may follow.
  pub record Preorder : Type 0 where
    pub reflexive : (v : A) → v ⊑ v
    pub transitive : (u v w : A) → u ⊑ v → v ⊑ w → u ⊑ w

-- What is asked of "offered": what was offered stays offered.
abbrev pub Persistent : {A N : Type 0} → (List (Event A N) → A → Type 0) → Type 0
Persistent {A} {N} Offered = (e : Event A N) (l : List (Event A N)) (v : A) → Offered l v → Offered (e ∷ l) v

module _ {A : Type 0} (n : ℕ) (◌⊑◌ : A → A → Type 0) where
  infix 20 ◌⊑◌
  -- A value chosen at a rank is settled: every value issued at a higher rank, earlier or later, follows it.
  abbrev pub Settled : (σ : View A) → Type 0
  Settled σ = (s r : ℕ) (u v : A) → Chosen n σ s u → σ.Issued r v → s < r → u ⊑ v

  -- Of two chosen values the one of the higher rank follows the other.
  abbrev pub Agreement : (σ : View A) → Type 0
  Agreement σ = (s r : ℕ) (u v : A) → Chosen n σ s u → Chosen n σ r v → s ≤ r → u ⊑ v

  -- The invariant: the start has it, each step keeps it, and what is chosen is then settled.
  pub record Invariance : Type 1 where
    pub start : (σ : View A) → Start σ → Inv n ◌⊑◌ σ
    pub step : (σ τ : View A) → Transition n ◌⊑◌ σ τ → Inv n ◌⊑◌ σ → Inv n ◌⊑◌ τ
    pub chosen : (σ τ : View A) (r : ℕ) (v : A) → Transition n ◌⊑◌ σ τ → Chosen n σ r v → Chosen n τ r v
    pub settled : (σ : View A) → Inv n ◌⊑◌ σ → Settled σ
    pub agreement : (σ : View A) → Inv n ◌⊑◌ σ → Agreement σ

module _ {A N : Type 0} (n : ℕ) (◌⊑◌ : A → A → Type 0) (Offered : List (Event A N) → A → Type 0) (x : ℕ → Box A) (l : List (Event A N)) where
  -- What holds of the boxes x and the history l of a run.
  pub record Claims : Type 0 where
    -- the invariant holds, and whatever happens next is a step that keeps it
    pub invariant : Inv n ◌⊑◌ (view Offered x l)
    pub transition : (y : ℕ → Box A) (e : Event A N) → Step n ◌⊑◌ Offered x l y e → Transition n ◌⊑◌ (view Offered x l) (view Offered y (e ∷ l))
    -- Lemma 2, Safety of one register: an answer above the start rank was issued, and it sees each lower-ranked write that the box
    -- takes, earlier or later
    pub answer_issued : (r b w : ℕ) (v : A) → Memᴰ (read r b w v) l → 0 < w → Memᴰ (issued w v) l
    pub answer_sees : (r b w : ℕ) (v : A) → Memᴰ (read r b w v) l → (s : ℕ) → Memᴰ (took s b) l → s < r → s ≤ w
    -- Lemmas 3 and 6, Non-Triviality: a write that a box refused and did not take was outranked at that box, and before it was
    -- refused
    pub outranked : (r b : ℕ) → 0 < r → Memᴰ (refused r b) l → ¬ Memᴰ (took r b) l → Outranked l r b
    pub outranked_before : (y : ℕ → Box A) (r b : ℕ) → 0 < r → Step n ◌⊑◌ Offered x l y (refused r b) → ¬ Memᴰ (took r b) l → Outranked l r b
    -- the same of a read that a box told so
    pub nack_outranked : (r b : ℕ) → Memᴰ (nack r b) l → Outranked l r b
    pub nack_before : (y : ℕ → Box A) (r b : ℕ) → Step n ◌⊑◌ Offered x l y (nack r b) → Outranked l r b
    -- Lemma 5, Safety over a majority: what a read returns above the start rank was issued, and it sees each lower-ranked write that
    -- a majority takes, earlier or later
    pub returned_issued : (r w : ℕ) (v : A) → ReadReturns n (view Offered x l) r w v → 0 < w → Memᴰ (issued w v) l
    pub returned_sees : (r w : ℕ) (v : A) → ReadReturns n (view Offered x l) r w v → (s : ℕ) (u : A) → Chosen n (view Offered x l) s u → s < r → s ≤ w
    -- Lemma 1
    pub settled : Settled n ◌⊑◌ (view Offered x l)
    -- Theorem 1: agreement, and validity: each value issued was offered, and before it was issued
    pub agreement : Agreement n ◌⊑◌ (view Offered x l)
    pub validity : (r : ℕ) (v : A) → Memᴰ (issued r v) l → Offered l v
    pub offered_before : (y : ℕ → Box A) (r : ℕ) (v : A) → Step n ◌⊑◌ Offered x l y (issued r v) → Offered l v

-- The theorem: for any values, notes, number of boxes and relation, the claims hold of every run.
abbrev pub Theory : Type 1
Theory = (A N : Type 0) (n : ℕ) (⊑ : A → A → Type 0) (Offered : List (Event A N) → A → Type 0)
    → Preorder ⊑ → Persistent Offered → (x : ℕ → Box A) (l : List (Event A N)) → Run n ⊑ Offered x l → Claims n ⊑ Offered x l
