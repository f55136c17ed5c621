-- The text: what is put behind what was put.
use Prim.Native.Nat.{ℕ, zero, suc, ◌+◌, ◌≤◌, min}
use native.Mathlib.Omega.{arith}
use mathlib.Core.Path.{◌≡◌, refl, sym, ap, ◌∙◌}
use mathlib.Core.List.{List, [], ◌∷◌, ◌++◌, append_assoc, append-nil}
use lib.ListN.{length, take, length-take}
use lib.Seq.{take_all}
use Rattle.std.proofs.lemmas.List.{take_min}
use Rattle.drill.specs.Text.{text_put}

-- what a cut leaves out is left out by a later one too
cut_twice : (n : ℕ) (x c : List ℕ) → take n (take n x ++ c) ≡ take n (x ++ c)
cut_twice zero x c = refl
cut_twice (suc n) [] c = refl
cut_twice (suc n) (y ∷ x) c = ap (λ (l : List ℕ). y ∷ l) (cut_twice n x c)

pub put_nothing : (t : List ℕ) → length t ≤ 2048 → text_put t [] ≡ t
unfolding text_put
put_nothing t h = rw append-nil (take_all 2048 t h)

pub put_twice : (t a b : List ℕ) → text_put (text_put t a) b ≡ text_put t (a ++ b)
unfolding text_put
put_twice t a b = cut_twice 2048 (t ++ a) b ∙ ap (take 2048) (append_assoc t a b)

-- as much as there is room for
cut : (n k : ℕ) (t b : List ℕ) → length t + k ≡ n → take n (t ++ b) ≡ t ++ take (min k (length b)) b
cut n k [] b e = let same : k ≡ n = omega arith in rw same (sym (take_min n b))
cut zero k (y ∷ t) b e = absurd (omega arith)
cut (suc n) k (y ∷ t) b e = ap (λ (l : List ℕ). y ∷ l) (cut n k t b (omega arith))

pub put_cut : (t b : List ℕ) (k : ℕ) → length t + k ≡ 2048 → text_put t b ≡ t ++ take (min k (length b)) b
unfolding text_put
put_cut t b k e = cut 2048 k t b e

pub put_few : (t b : List ℕ) → length (text_put t b) ≤ 2048
unfolding text_put
put_few t b = omega (arith, length-take 2048 (t ++ b))

-- from the start of a text that there is room for
pub put_whole : (b : List ℕ) → length b ≤ 2048 → text_put [] b ≡ b
unfolding text_put
put_whole b h = take_all 2048 b h
