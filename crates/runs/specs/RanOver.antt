-- What a run is, in words of its list. The proof is `since` in proofs/RunMeans.
use Rattle.std.specs.Prelude.{ℕ, suc, ◌<◌, ◌≤◌, ◌≡◌, Bool, true, false, List, length}
use Rattle.runs.specs.Runs.{state_at, says_at, stops_by}
use Rattle.runs.specs.declared.Until.{Until}

module _ {F M O : Type 0} (refuses ends : O → Bool) (none : M) (next : F → M → F) (says : F → M → O) where
  -- What the run of a list l from the floor f is that handed back the floor g and said o: its first k records were accepted and left g.
  pub record RanOver (until : Until) (f : F) (l : List M) (k : ℕ) (g : F) (o : O) : Type 0 where
    pub within : k ≤ length l
    pub left : g ≡ state_at none next f l k
    pub each : (i : ℕ) → i < k → refuses (says_at none next says f l i) ≡ false
    -- only behind the last of them the run may have ended
    pub goes_on : (i : ℕ) → suc i < k → stops_by until (refuses (says_at none next says f l i)) (ends (says_at none next says f l i)) ≡ false
    -- o is what the last of them said, or else what the next, which was refused
    pub some : refuses o ≡ false → 0 < k
    pub last : refuses o ≡ false → (i : ℕ) → suc i ≡ k → says_at none next says f l i ≡ o
    pub turned : refuses o ≡ true → (k < length l) × (says_at none next says f l k ≡ o)
    -- without a cause it does not end before the list does
    pub whole : stops_by until (refuses o) (ends o) ≡ false → k ≡ length l
