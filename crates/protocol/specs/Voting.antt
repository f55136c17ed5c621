-- Why a chosen value is settled, said of ranks alone: no boxes, no majorities, no order of requests. What wins a rank and what loses
-- it is left open; specs/Invariant says it of ranked registers.
use Rattle.std.specs.Prelude.{◌≡◌, ℕ, ◌≤◌, ◌<◌}

-- What has happened, by rank.
pub record Votes (A : Type 0) : Type 1 where
  -- the value v was issued at the rank r
  pub Issued : (r : ℕ) (v : A) → Type 0
  -- what was issued at the rank r is chosen, whoever knows of it
  pub Won : (r : ℕ) → Type 0
  -- the rank r is not won, and never will be
  pub Lost : (r : ℕ) → Type 0
  -- the value v was offered
  pub Offered : (v : A) → Type 0

-- What has to hold in each state: the start rank is not won, and no rank is both won and lost.
pub record ConsistentVotes {A : Type 0} (σ : Votes A) : Type 0 where
  pub above_start : (r : ℕ) → σ.Won r → 0 < r
  pub exclusive : (r : ℕ) → σ.Won r → ¬ (σ.Lost r)

-- v ⊑ w says that the value w may follow the value v.
module _ {A : Type 0} (◌⊑◌ : A → A → Type 0) where
  infix 20 ◌⊑◌
  -- The value v may be issued at the rank r: it follows a value issued at some rank, and every rank between that one and r is lost.
  -- Where that rank is 0, the start rank, v is free. If the value followed was offered, so is v.
  pub record Backed (σ : Votes A) (r : ℕ) (v : A) : Type 0 where
    pub rank : ℕ
    pub value : A
    pub issued : 0 < rank → σ.Issued rank value
    pub follows : 0 < rank → value ⊑ v
    pub lost : (s : ℕ) → rank < s → s < r → σ.Lost s
    pub offered : (0 < rank → σ.Offered value) → σ.Offered v

  -- A value v issued above the rank s is safe from s (Lamport's SafeAt): s is lost, or v follows the value that was issued at s.
  pub data Safe (σ : Votes A) (s : ℕ) (v : A) : Type 0 where
    lost : σ.Lost s → Safe σ s v
    follows : {u : A} → σ.Issued s u → u ⊑ v → Safe σ s v

  -- The invariant.
  pub record VotesInv (σ : Votes A) : Type 0 where
    -- a rank is used for one value (the paper's Definition 1)
    pub unique : (r : ℕ) (u v : A) → σ.Issued r u → σ.Issued r v → u ≡ v
    -- a value issued is safe from every lower rank, begun or not
    pub safe : (r : ℕ) (v : A) → σ.Issued r v → (s : ℕ) → 0 < s → s < r → Safe σ s v
    -- a value issued was offered
    pub offered : (r : ℕ) (v : A) → σ.Issued r v → σ.Offered v

  -- A value is issued only where it is backed, and a rank is not used for two values.
  pub data Casts (σ τ : Votes A) (r : ℕ) (v : A) : Type 0 where
    before : σ.Issued r v → Casts σ τ r v
    now : Backed σ r v → ((u : A) → τ.Issued r u → u ≡ v) → Casts σ τ r v

  -- One step.
  pub record Advance (σ τ : Votes A) : Type 0 where
    pub issue : (r : ℕ) (v : A) → τ.Issued r v → Casts σ τ r v
    pub issued_kept : (r : ℕ) (v : A) → σ.Issued r v → τ.Issued r v
    pub lost_kept : (r : ℕ) → σ.Lost r → τ.Lost r
    pub offered_kept : (v : A) → σ.Offered v → τ.Offered v

  -- A value that won is settled: every value issued at a higher rank, earlier or later, follows it.
  abbrev pub Settles : (σ : Votes A) → Type 0
  Settles σ = (s r : ℕ) (u v : A) → σ.Issued s u → σ.Won s → σ.Issued r v → s < r → u ⊑ v

  -- Of two values that won the one of the higher rank follows the other.
  abbrev pub Agrees : (σ : Votes A) → Type 0
  Agrees σ = (s r : ℕ) (u v : A) → σ.Issued s u → σ.Won s → σ.Issued r v → σ.Won r → s ≤ r → u ⊑ v
