-- One list of steps behind another: the floors and what the steps say are those of the second list from the floor that the first left.
use Prim.Native.Nat.{ℕ, zero, suc, ◌+◌, ◌≤◌, ◌<◌}
use native.Mathlib.Omega.{arith}
use native.Mathlib.Nat.{zero-add, suc-add}
use mathlib.Core.Path.{◌≡◌, refl, sym, ap, ap₂, ◌∙◌}
use mathlib.Core.List.{List, [], ◌∷◌, ◌++◌}
use lib.ListN.{length, get_or, take, length-append}
use lib.Seq.{get_or-append-add, get_or-take, length-take-le}
use Rattle.runs.specs.Runs.{state_at, state_left, says_at}

module _ {F M : Type 0} (none : M) (next : F → M → F) where
  -- without the first step
  pub state_shift : (f : F) (r : M) (l : List M) (i : ℕ) → state_at none next f (r ∷ l) (suc i) ≡ state_at none next (next f r) l i
  unfolding state_at
  state_shift f r l zero = refl
  state_shift f r l (suc i) = ap (λ (g : F). next g (get_or l i none)) (state_shift f r l i)

  -- behind a list
  pub state_behind : (f : F) (l k : List M) (i : ℕ) → state_at none next f (l ++ k) (length l + i) ≡ state_at none next (state_left none next f l) k i
  unfolding state_at
  state_behind f [] k i = ap (state_at none next f k) (zero-add i)
  state_behind f (r ∷ l) k i =
      ap (state_at none next f (r ∷ (l ++ k))) (suc-add (length l) i)
      ∙ state_shift f r (l ++ k) (length l + i)
      ∙ state_behind (next f r) l k i
      ∙ ap (λ (g : F). state_at none next g k i) (sym (state_shift f r l (length l)))

  pub left_behind : (f : F) (l k : List M) → state_left none next f (l ++ k) ≡ state_left none next (state_left none next f l) k
  left_behind f l k = ap (state_at none next f (l ++ k)) (length-append l k) ∙ state_behind f l k (length k)

  -- the first k of a list
  pub state_taken : (f : F) (l : List M) (k i : ℕ) → i ≤ k → state_at none next f (take k l) i ≡ state_at none next f l i
  unfolding state_at
  state_taken f l k zero h = refl
  state_taken f l k (suc i) h = ap₂ next (state_taken f l k i (omega arith)) (get_or-take k l i none (omega arith))

  pub left_taken : (f : F) (l : List M) (k : ℕ) → k ≤ length l → state_left none next f (take k l) ≡ state_at none next f l k
  left_taken f l k h = ap (state_at none next f (take k l)) (length-take-le k l h) ∙ state_taken f l k k (omega arith)

  -- what each step keeps holds of every floor of a list
  pub state_keeps : (P : F → Type 0) → ((f : F) (r : M) → P f → P (next f r)) → (f : F) (l : List M) → P f → (i : ℕ) → P (state_at none next f l i)
  unfolding state_at
  state_keeps P keeps f l z zero = z
  state_keeps P keeps f l z (suc i) = keeps (state_at none next f l i) (get_or l i none) (state_keeps P keeps f l z i)

  -- the same of what the steps say
  module _ {O : Type 0} (says : F → M → O) where
    pub says_shift : (f : F) (r : M) (l : List M) (i : ℕ) → says_at none next says f (r ∷ l) (suc i) ≡ says_at none next says (next f r) l i
    says_shift f r l i = ap (λ (g : F). says g (get_or l i none)) (state_shift f r l i)

    pub says_behind : (f : F) (l k : List M) (i : ℕ) → says_at none next says f (l ++ k) (length l + i) ≡ says_at none next says (state_left none next f l) k i
    says_behind f l k i = ap₂ says (state_behind f l k i) (get_or-append-add l k i none)

    pub says_taken : (f : F) (l : List M) (k i : ℕ) → i < k → says_at none next says f (take k l) i ≡ says_at none next says f l i
    says_taken f l k i h = ap₂ says (state_taken f l k i (omega arith)) (get_or-take k l i none h)
