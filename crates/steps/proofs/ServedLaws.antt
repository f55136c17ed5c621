-- Wish 8 of document 02: the boxes of a row looked at from the first on.
use Prim.Native.Nat.{ℕ, zero, suc, ◌+◌}
use native.Mathlib.Omega.{arith}
use native.Mathlib.Numerals.{add-one}
use mathlib.Core.Path.{◌≡◌, refl, sym, ap, ◌∙◌}
use mathlib.Core.Bool.{Bool, true, false, not, ◌&&◌}
use Rattle.std.specs.List.{list_all, range_with_len}
use Rattle.base.proofs.Choices.{on_true, on_false}
use Rattle.attempts.specs.Rows.{waits_at}
use Rattle.attempts.specs.declared.Row.{Row}
use Rattle.floor.specs.Free.{all_served, still_served}

none_after : (before : Bool) → false ≡ (before && false)
none_after false = refl
none_after true = refl

one_more : (before waits rest : Bool) → (still_served before waits && rest) ≡ (before && (not waits && rest))
unfolding still_served
one_more before true rest = ap (λ (b : Bool). b && rest) (sym (on_true before refl refl)) ∙ none_after before
one_more before false rest = ap (λ (b : Bool). b && rest) (sym (on_false false refl refl))

all_here : (before : Bool) → before ≡ (before && true)
all_here false = refl
all_here true = refl

abbrev pub served_at : (w : Row) (k : ℕ) → Bool
served_at w k = not (waits_at w k)

-- k boxes behind the first i
served_from : (w : Row) (k i : ℕ) → all_served w (i + k) ≡ (all_served w i && list_all (served_at w) (range_with_len i k))
unfolding all_served
served_from w zero i = ap (all_served w) (omega arith) ∙ all_here (all_served w i)
served_from w (suc k) i =
    let e : i + suc k ≡ i + 1 + k = omega arith in
    let one : all_served w (i + 1) ≡ still_served (all_served w i) (waits_at w i) = rw add-one refl in
    let rest = list_all (served_at w) (range_with_len (i + 1) k) in
    ap (all_served w) e ∙ served_from w k (i + 1) ∙ ap (λ (b : Bool). b && rest) one ∙ one_more (all_served w i) (waits_at w i) rest

pub served_all : (w : Row) (n : ℕ) → list_all (served_at w) (range_with_len 0 n) ≡ all_served w n
unfolding all_served
served_all w n = sym (ap (all_served w) (omega arith) ∙ served_from w n 0)
