-- A list after a store: what holds at each of its places.
use Prim.Native.Nat.{ℕ, zero, suc, ◌<◌}
use native.Mathlib.Decide.{ℕ_discrete}
use mathlib.Core.Path.{◌≡◌, refl, sym, subst}
use mathlib.Core.List.{List, [], ◌∷◌}
use lib.ListN.{length, get_or, set, replicate}
use lib.Seq.{get_or-set_same, get_or-set_other}

module _ {A : Type 0} (d : A) where
  -- what held at each place, and holds of what is stored, holds at each place; past the end too, where nothing is stored
  pub set_all : (P : ℕ → A → Type 0) (l : List A) (b : ℕ) (x : A) → ((j : ℕ) → P j (get_or l j d)) → P b x → (j : ℕ) → P j (get_or (set l b x) j d)
  set_all P [] b x h p j = h j
  set_all P (y ∷ l) zero x h p zero = p
  set_all P (y ∷ l) zero x h p (suc j) = h (suc j)
  set_all P (y ∷ l) (suc b) x h p zero = h zero
  set_all P (y ∷ l) (suc b) x h p (suc j) = set_all (λ i. P (suc i)) l b x (λ i. h (suc i)) p j

  -- within the list it need not have held where the store is
  pub set_in : (P : ℕ → A → Type 0) (l : List A) (b : ℕ) (x : A) → b < length l → ((j : ℕ) → ¬ (j ≡ b) → P j (get_or l j d)) → P b x
      → (j : ℕ) → P j (get_or (set l b x) j d)
  set_in P l b x i h p j = elim (ℕ_discrete j b) [
    | yes e ↦ subst (λ (k : ℕ). P k (get_or (set l b x) k d)) (sym e) (rw (get_or-set_same l b x d i) p)
    | no e ↦ rw (get_or-set_other l b j x d e) (h j e)
  ]

  -- at the place of the store: what is stored, or past the end the default
  pub set_at : (P : A → Type 0) (l : List A) (b : ℕ) (x : A) → P x → P d → P (get_or (set l b x) b d)
  set_at P [] b x p q = q
  set_at P (y ∷ l) zero x p q = p
  set_at P (y ∷ l) (suc b) x p q = set_at P l b x p q

-- a list of one element repeated, also past its end where that is the default
pub get_d_same : {A : Type 0} (k j : ℕ) (x : A) → get_or (replicate k x) j x ≡ x
get_d_same zero j x = refl
get_d_same (suc k) zero x = refl
get_d_same (suc k) (suc j) x = get_d_same k j x
