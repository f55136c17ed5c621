-- The invariant of the ranked register over n boxes.
use Rattle.std.specs.Prelude.{ℕ, ◌≤◌, ◌<◌}
use Rattle.base.specs.Quorum.{Majority}
use Rattle.protocol.specs.View.{View}
use Rattle.protocol.specs.Voting.{Votes, VotesInv}

-- The box b has not taken the write of rank r, and never will: it served a read of a higher rank (Lamport's CannotVoteAt).
pub record CannotTake {A : Type 0} (σ : View A) (r b : ℕ) : Type 0 where
  pub untaken : ¬ (σ.Taken r b)
  pub passed : r < σ.read_rank b

-- A rank is won where a majority took its write, and lost where a majority cannot take it.
abbrev pub ballots : {A : Type 0} (n : ℕ) (σ : View A) → Votes A
ballots n σ = record { Issued = σ.Issued; Won = λ r. Majority n (σ.Taken r); Lost = λ r. Majority n (CannotTake σ r); Offered = σ.Offered }

module _ {A : Type 0} (n : ℕ) (◌⊑◌ : A → A → Type 0) where
  infix 20 ◌⊑◌
  -- The invariant.
  pub record Inv (σ : View A) : Type 0 where
    -- what a box holds was issued at its write rank
    pub held : (b : ℕ) → 0 < σ.write_rank b → σ.Issued (σ.write_rank b) (σ.value b)
    -- a box took no write of the start rank, and none above its write rank
    pub taken : (r b : ℕ) → σ.Taken r b → (0 < r) × (r ≤ σ.write_rank b)
    -- a box served no read above its read rank
    pub promised : (r b w : ℕ) (x : A) → σ.Read r b w x → r ≤ σ.read_rank b
    -- Safety of one register (Lemma 2): an answer was issued, and sees each lower-ranked write that the box takes, before or after
    pub source : (r b w : ℕ) (x : A) → σ.Read r b w x → 0 < w → σ.Issued w x
    pub sees : (r b w : ℕ) (x : A) → σ.Read r b w x → (s : ℕ) → s < r → σ.Taken s b → s ≤ w
    -- a rank is used for one value, and a value issued is safe from every lower rank and was offered
    pub sound : VotesInv ◌⊑◌ (ballots n σ)
