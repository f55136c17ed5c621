-- The start has the invariant, each step keeps it, and it settles what a majority took.
use Prim.Native.Nat.{ℕ, ◌≤◌, ◌<◌}
use native.Mathlib.Omega.{arith}
use Rattle.protocol.specs.Voting.{ConsistentVotes, Backed, Casts, Advance}
use Rattle.protocol.specs.View.{View, Chosen, AnswerUpTo, ReadReturns, kept, stored, before, now, MayIssue, Transition, Start}
use Rattle.protocol.specs.Invariant.{CannotTake, ballots, Inv}
use Rattle.protocol.specs.Claims.{Settled, Agreement}
use Rattle.base.proofs.QuorumLaws.{at_least_map, at_least_meet, majority_map}
use Rattle.protocol.proofs.VotingLaws.{start_sound, backed_offered, advance_sound, settles, agrees}

module _ {A : Type 0} (n : ℕ) (◌⊑◌ : A → A → Type 0) where
  infix 20 ◌⊑◌
  pub start_inv : {σ : View A} → Start σ → Inv n ◌⊑◌ σ
  start_inv s = record {
    held = λ b p. absurd (omega (arith, s.unwritten b));
    taken = λ r b t. absurd (s.no_taken r b t);
    promised = λ r b w x d. absurd (s.no_read r b w x d);
    source = λ r b w x d. absurd (s.no_read r b w x d);
    sees = λ r b w x d. absurd (s.no_read r b w x d);
    sound = start_sound ◌⊑◌ s.no_issued;
  }

  module _ {σ : View A} (i : Inv n ◌⊑◌ σ) {r w : ℕ} {x : A} (q : ReadReturns n σ r w x) where
    -- Safety over a majority (Lemma 5): a value returned was issued
    pub returns_issued : 0 < w → σ.Issued w x
    returns_issued p = i.source r (q.highest p).0 w x (q.highest p).1 p

    -- .. and a rank above the one returned, below the read's own, is taken by no box of the majority, ever
    passed_over : (s : ℕ) → w < s → s < r → (b : ℕ) → AnswerUpTo σ r w b → CannotTake σ s b
    passed_over s h k b a = record {
      untaken = λ t. omega (arith, i.sees r b a.rank a.value a.read s k t, a.at_most);
      passed = omega (arith, i.promised r b a.rank a.value a.read);
    }

    -- .. so the read returns at least the rank of each lower-ranked write that a majority takes, before or after
    pub returns_see : {s : ℕ} {u : A} → Chosen n σ s u → s < r → s ≤ w
    returns_see {s} c h =
        let m = at_least_meet (omega arith) q.majority c.taken in
        let a = m.2 in
        omega (arith, i.sees r m.0 a.rank a.value a.read s h m.3, a.at_most)

  -- what may be issued is backed
  backed : {σ : View A} {r : ℕ} {v : A} → Inv n ◌⊑◌ σ → MayIssue n ◌⊑◌ σ r v → Backed ◌⊑◌ (ballots n σ) r v
  backed i q = record {
    rank = q.rank;
    value = q.value;
    issued = returns_issued i q.read;
    follows = λ p. q.follows (omega arith);
    lost = λ s h k. at_least_map (omega arith) (passed_over i q.read s h k) q.read.majority;
    offered = q.offered;
  }

  pub issue_offered : {σ : View A} {r : ℕ} {v : A} → Inv n ◌⊑◌ σ → MayIssue n ◌⊑◌ σ r v → σ.Offered v
  issue_offered i q = backed_offered ◌⊑◌ i.sound (backed i q)

  module _ (trans : (u v w : A) → u ⊑ v → v ⊑ w → u ⊑ w) where
    module _ {σ τ : View A} (m : Transition n ◌⊑◌ σ τ) (i : Inv n ◌⊑◌ σ) where
      cannot_take_kept : {r : ℕ} (b : ℕ) → CannotTake σ r b → CannotTake τ r b
      cannot_take_kept {r} b d = record {
        untaken = λ t. elim (m.take r b t) [ before o ↦ d.untaken o | now c e f ↦ omega (arith, d.passed, c) ];
        passed = omega (arith, d.passed, m.reads_up b);
      }

      held_kept : (b : ℕ) → 0 < τ.write_rank b → τ.Issued (τ.write_rank b) (τ.value b)
      held_kept b p = elim (m.store b) [ kept e f ↦ rw (e, f) (m.issued_kept _ _ (i.held b (omega arith))) | stored w ↦ w ]

      taken_kept : (r b : ℕ) → τ.Taken r b → (0 < r) × (r ≤ τ.write_rank b)
      taken_kept r b t = elim (m.take r b t) [ before o ↦ omega (arith, i.taken r b o, m.writes_up b) | now c e f ↦ omega arith ]

      source_kept : (r b w : ℕ) (x : A) → τ.Read r b w x → 0 < w → τ.Issued w x
      source_kept r b w x d p = elim (m.answer r b w x d) [
        | before o ↦ m.issued_kept w x (i.source r b w x o p)
        | now c e f ↦ rw (e, f) (held_kept b (omega arith))
      ]

      sees_kept : (r b w : ℕ) (x : A) → τ.Read r b w x → (s : ℕ) → s < r → τ.Taken s b → s ≤ w
      sees_kept r b w x d s h t = elim (m.answer r b w x d) [
        | before o ↦ elim (m.take s b t) [ before y ↦ i.sees r b w x o s h y | now c e f ↦ omega (arith, i.promised r b w x o) ]
        | now c e f ↦ omega (arith, taken_kept s b t)
      ]

      -- a step of the view is one of its ballots
      ballots_advance : Advance ◌⊑◌ (ballots n σ) (ballots n τ)
      ballots_advance = record {
        issue = λ r v d. elim (m.issue r v d) [ before o ↦ Casts.before o | now q f ↦ Casts.now (backed i q) f ];
        issued_kept = m.issued_kept;
        lost_kept = λ r. majority_map cannot_take_kept;
        offered_kept = m.offered_kept;
      }

      -- a step keeps the invariant
      pub transition_inv : Inv n ◌⊑◌ τ
      transition_inv = record {
        held = held_kept;
        taken = taken_kept;
        promised = λ r b w x d. elim (m.answer r b w x d) [ before o ↦ omega (arith, i.promised r b w x o, m.reads_up b) | now c e f ↦ c ];
        source = source_kept;
        sees = sees_kept;
        sound = advance_sound ◌⊑◌ trans ballots_advance i.sound;
      }

  -- what is chosen stays chosen
  pub chosen_kept : {σ τ : View A} {r : ℕ} {v : A} → Transition n ◌⊑◌ σ τ → Chosen n σ r v → Chosen n τ r v
  chosen_kept {r = r} {v = v} m c = record { issued = m.issued_kept r v c.issued; taken = majority_map (m.taken_kept r) c.taken }

  module _ {σ : View A} (i : Inv n ◌⊑◌ σ) where
    -- any two majorities share a box
    ballots_lawful : ConsistentVotes (ballots n σ)
    ballots_lawful = record {
      above_start = λ r w. let m = at_least_meet (omega arith) w w in (i.taken r m.0 m.2).0;
      exclusive = λ r w d. let m = at_least_meet (omega arith) w d in m.3.untaken m.2;
    }

    pub settled : Settled n ◌⊑◌ σ
    settled s r u v c d h = settles ◌⊑◌ ballots_lawful i.sound s r u v c.issued c.taken d (omega arith)

    pub agreement : ((v : A) → v ⊑ v) → Agreement n ◌⊑◌ σ
    agreement same s r u v c d h = agrees ◌⊑◌ ballots_lawful i.sound same s r u v c.issued c.taken d.issued d.taken h
