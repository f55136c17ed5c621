-- Bytes that are put into a list, one run behind the other.
use Prim.Native.Nat.{ℕ, ◌+◌, ◌-◌, ◌≤◌}
use native.Mathlib.Omega.{arith}
use mathlib.Core.Path.{◌≡◌, refl, sym, ap, ap₂, ◌∙◌}
use mathlib.Core.List.{List, [], ◌++◌, append_assoc}
use borrow.Author.Tests.{le-leb}
use lib.ListN.{length, take, drop, length-append, length-drop}
use lib.Seq.{length-take-le, take-append_seam, take_at, drop-append-add, drop-drop}
use Rattle.base.specs.Bytes.{bytes_put}
use Rattle.base.proofs.Choices.{chosen}

-- behind what was put before, where there is room
put_behind : (p t bytes : List ℕ) → length bytes ≤ length t → bytes_put (p ++ t) (length p) bytes ≡ p ++ bytes ++ drop (length bytes) t
unfolding bytes_put
put_behind p t bytes h =
    let fits : length p + length bytes ≤ length (p ++ t) = rw (length-append p t) (omega arith) in
    chosen _ (le-leb _ _ fits) refl ∙ rw (take-append_seam p t, drop-append-add p t (length bytes))

-- where there is room they stand behind the bytes before the place
pub put_fits : (s : List ℕ) (at : ℕ) (bytes : List ℕ) → at + length bytes ≤ length s → bytes_put s at bytes ≡ take at s ++ bytes ++ drop (at + length bytes) s
unfolding bytes_put
put_fits s at bytes h = chosen _ (le-leb _ _ h) refl

-- what stands before the place, and they
front_length : (s : List ℕ) (at : ℕ) (bytes : List ℕ) → at ≤ length s → length (take at s ++ bytes) ≡ at + length bytes
front_length s at bytes h = length-append (take at s) bytes ∙ ap (λ (k : ℕ). k + length bytes) (length-take-le at s h)

pub put_taken : (s : List ℕ) (at : ℕ) (bytes : List ℕ) → at + length bytes ≤ length s → take (at + length bytes) (bytes_put s at bytes) ≡ take at s ++ bytes
put_taken s at bytes h = rw (put_fits s at bytes h) (take_at (take at s ++ bytes) (drop (at + length bytes) s) (at + length bytes) (front_length s at bytes (omega arith)))

-- two runs from a place on are one
pub two_put : (s : List ℕ) (at : ℕ) (x y : List ℕ) → at + (length x + length y) ≤ length s → bytes_put (bytes_put s at x) (at + length x) y ≡ bytes_put s at (x ++ y)
two_put s at x y h =
    let front = front_length s at x (omega arith) in
    let both : length (x ++ y) ≡ length x + length y = length-append x y in
    let end : at + (length x + length y) ≡ at + length x + length y = omega arith in
    let rest : length (drop (at + length x) s) ≡ length s - (at + length x) = length-drop (at + length x) s in
    let one : bytes_put (take at s ++ x ++ drop (at + length x) s) (length (take at s ++ x)) y ≡ take at s ++ x ++ y ++ drop (length y) (drop (at + length x) s) =
    put_behind (take at s ++ x) (drop (at + length x) s) y (omega arith) in
    ap₂ (λ (l : List ℕ) (k : ℕ). bytes_put l k y) (put_fits s at x (omega arith)) (sym front)
    ∙ one
    ∙ ap₂ ◌++◌ (append_assoc (take at s) x y) (drop-drop (length y) (at + length x) s ∙ ap (λ (k : ℕ). drop k s) (sym (ap (λ (k : ℕ). at + k) both ∙ end)))
    ∙ sym (put_fits s at (x ++ y) (omega arith))

-- three runs from the start on: they stand there, and behind them all is as it was
pub three_put : (b h l r : List ℕ) → length h + length l + length r ≤ length b
    → bytes_put (bytes_put (bytes_put b 0 h) (length h) l) (length h + length l) r ≡ h ++ l ++ r ++ drop (length h + length l + length r) b
three_put b h l r k =
    let one : bytes_put b 0 h ≡ h ++ drop (length h) b = put_behind [] b h (omega arith) in
    let rest : length (drop (length h) b) ≡ length b - length h = length-drop (length h) b in
    let two : bytes_put (bytes_put b 0 h) (length h) l ≡ h ++ l ++ drop (length l) (drop (length h) b) = rw one (put_behind h (drop (length h) b) l (omega arith)) in
    let past : drop (length l) (drop (length h) b) ≡ drop (length h + length l) b = drop-drop (length l) (length h) b in
    let left : length (drop (length h + length l) b) ≡ length b - (length h + length l) = length-drop (length h + length l) b in
    rw (two, past, ← (length-append h l))
    (put_behind (h ++ l) (drop (length (h ++ l)) b) r (rw (length-append h l) (omega arith)) ∙ rw (drop-drop (length r) (length (h ++ l)) b))
