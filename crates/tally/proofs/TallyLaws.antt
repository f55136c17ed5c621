-- Laws of the tally.
use Prim.Native.Nat.{ℕ, zero, suc, ◌+◌, ◌≤◌, ◌<◌, max, min}
use native.Mathlib.Nat.{le_refl, max-zero, zero-max, le-max_left, le-max_right, max-eq_left, max-eq_right, zero-min, min-zero, suc-min-suc, not-suc-le-zero, le_trans, le_of_lt, eq-zero-or-pos, suc-ne-zero}
use native.Mathlib.Numerals.{add-one}
use native.Mathlib.Omega.{arith}
use mathlib.Core.Path.{◌≡◌, refl, sym, ap, ap₂, subst, ◌∙◌}
use mathlib.Core.Logic.{◌⊎◌, inl, inr}
use mathlib.Core.Bool.{Bool, true, false}
use mathlib.Core.List.Memᴰ
use mathlib.Core.List.{List, [], ◌∷◌, Memᴰ}
use lib.Dec.{ltb}
use Rattle.std.proofs.Common.{cond, not, count_by}
use Rattle.std.specs.List.{filter, fold}
use Rattle.std.proofs.lemmas.List.Sums.{length-filter}
use borrow.Author.Tests.{ltb-true, ltb-false}
use lib.ListN.{length, get_or, take, drop, drop_of_length-le}
use lib.Seq.{drop-cons}
use Rattle.base.specs.Choice.{when◌then◌else◌}
use Rattle.register.specs.Register.{register_of}
use Rattle.register.specs.declared.Department.{Department}
use Rattle.register.specs.declared.StorageBox.{StorageBox}
use Rattle.tally.specs.Tally.{not_away, highest_write, tally_of}
use Rattle.tally.specs.Claims.{Counts, TallyTheorem}
use Rattle.tally.specs.declared.Tally.{Tally}

-- past the end of a list there is nothing to take
pub take_min : {A : Type 0} (n : ℕ) (l : List A) → take (min n (length l)) l ≡ take n l
take_min zero l = rw zero-min refl
take_min (suc n) [] = rw min-zero refl
take_min {A = A} (suc n) (x ∷ l) = rw suc-min-suc (ap (λ (k : List A). x ∷ k) (take_min n l))

-- the boxes that are not away, and the highest rank of some, in the library's words
kept_or_not : (t : Bool) (y : StorageBox) (l : List StorageBox) → cond (not t) (y ∷ l) l ≡ (when t then l else y ∷ l)
unfolding when◌then◌else◌
kept_or_not true y l = refl
kept_or_not false y l = refl

going : (ys : List StorageBox) → filter (λ y. not y.away) ys ≡ not_away ys
unfolding not_away
going [] = refl
going (y ∷ ys) = ap (λ (l : List StorageBox). cond (not y.away) (y ∷ l) l) (going ys) ∙ kept_or_not y.away y (not_away ys)

highest_from : (d : Department) (h : ℕ) (ys : List StorageBox) → fold (λ h y. max h (register_of d y).write) h ys ≡ max h (highest_write d ys)
unfolding highest_write
highest_from d h [] = sym (max-zero h)
highest_from d h (y ∷ ys) = highest_from d (max h (register_of d y).write) ys ∙ grind arith

-- a department and its tally
module _ (d : Department) where
  -- in the library's words
  pub tallies : (c h : ℕ) (ys : List StorageBox) → c ≡ count_by (λ y. not y.away) ys → h ≡ fold (λ h y. max h (register_of d y).write) 0 (filter (λ y. not y.away) ys)
      → record { count = c; highest = h } ≡ tally_of d ys
  unfolding tally_of
  tallies c h ys e f =
      ap₂ (λ (m n : ℕ). record { count = m; highest = n }) (e ∙ sym (length-filter (λ y. not y.away) ys) ∙ ap length (going ys))
      (f ∙ highest_from d 0 (filter (λ y. not y.away) ys) ∙ zero-max _ ∙ ap (highest_write d) (going ys))

  -- a tally begins with 0 and 0
  pub tally_nil : tally_of d [] ≡ record { count = 0; highest = 0 }
  unfolding tally_of not_away highest_write
  tally_nil = refl

  -- one box more, at the front: one that is away changes nothing, another is counted
  pub tally_away : (y : StorageBox) (ys : List StorageBox) → y.away ≡ true → tally_of d (y ∷ ys) ≡ tally_of d ys
  unfolding tally_of not_away when◌then◌else◌
  tally_away y ys e = rw e refl

  pub tally_going : (y : StorageBox) (ys : List StorageBox) → y.away ≡ false → tally_of d (y ∷ ys) ≡ record { count = (tally_of d ys).count + 1; highest = max (tally_of d ys).highest (register_of d y).write }
  unfolding tally_of not_away highest_write when◌then◌else◌
  tally_going y ys e = rw (e, add-one) refl

  -- no more are counted than there are
  count_behind : (s : Bool) (y : StorageBox) (ys : List StorageBox) → y.away ≡ s → (tally_of d ys).count ≤ length ys → (tally_of d (y ∷ ys)).count ≤ length (y ∷ ys)
  count_behind true y ys e h = rw (tally_away y ys e) (omega (arith, h))
  count_behind false y ys e h = rw (tally_going y ys e) (omega (arith, h))

  pub count_le : (ys : List StorageBox) → (tally_of d ys).count ≤ length ys
  count_le [] = rw tally_nil (le_refl 0)
  count_le (y ∷ ys) = count_behind y.away y ys refl (count_le ys)

  -- the tally of a run, from that of the boxes seen and that of those from a place on
  abbrev pub Joined : List StorageBox → ℕ → Tally → Type 0
  Joined ys k t = tally_of d ys ≡ record { count = t.count + (tally_of d (drop k ys)).count; highest = max t.highest (tally_of d (drop k ys)).highest }

  module _ (ys : List StorageBox) (k : ℕ) (y x : StorageBox) (l : k < length ys) (e : get_or ys k x ≡ y) (t : Tally) (j : Joined ys k t) where
    at_place : drop k ys ≡ y ∷ drop (k + 1) ys
    at_place = drop-cons ys k x l ∙ ap₂ (λ (z : StorageBox) (zs : List StorageBox). z ∷ zs) e (ap (λ (m : ℕ). drop m ys) (sym (add-one k)))

    pub joined_away : y.away ≡ true → Joined ys (k + 1) t
    joined_away a =
        let u = ap (tally_of d) at_place ∙ tally_away y (drop (k + 1) ys) a in
        j ∙ ap (λ (u : Tally). record { count = t.count + u.count; highest = max t.highest u.highest }) u

    pub joined_going : y.away ≡ false → Joined ys (k + 1) (record { count = t.count + 1; highest = max t.highest (register_of d y).write })
    joined_going a =
        let u = ap (tally_of d) at_place ∙ tally_going y (drop (k + 1) ys) a in
        j ∙ ap (λ (u : Tally). record { count = t.count + u.count; highest = max t.highest u.highest }) u
        ∙ ap₂ (λ (m n : ℕ). record { count = m; highest = n }) (omega arith) (omega arith)

  pub joined_last : (ys : List StorageBox) (k : ℕ) (t : Tally) → length ys ≤ k → Joined ys k t → t ≡ tally_of d ys
  joined_last ys k t h j =
      sym (j ∙ ap (λ (u : Tally). record { count = t.count + u.count; highest = max t.highest u.highest }) (ap (tally_of d) (drop_of_length-le ys h) ∙ tally_nil)
      ∙ ap₂ (λ (m n : ℕ). record { count = m; highest = n }) (omega arith) (omega arith))

  -- ---- the tally as facts
  -- no box that is not away has a higher write rank
  most_behind : (s : Bool) (y : StorageBox) (ys : List StorageBox) (r : ℕ) → y.away ≡ s → r ≤ (tally_of d ys).highest → r ≤ (tally_of d (y ∷ ys)).highest
  most_behind true y ys r e h = rw (tally_away y ys e) h
  most_behind false y ys r e h = rw (tally_going y ys e) (le_trans h (le-max_left (tally_of d ys).highest (register_of d y).write))

  most : (ys : List StorageBox) (x : StorageBox) → Memᴰ x ys → x.away ≡ false → (register_of d x).write ≤ (tally_of d ys).highest
  most [] x m e = absurd (Memᴰ.not-nil m)
  most (y ∷ ys) x (Memᴰ.head q) e = rw (q, tally_going y ys (rw q at e)) (le-max_right (tally_of d ys).highest (register_of d y).write)
  most (y ∷ ys) x (Memᴰ.tail m) e = most_behind y.away y ys (register_of d x).write refl (most ys x m e)

  -- where none is counted the rank is 0
  none_left : (l : List StorageBox) → length l ≡ 0 → highest_write d l ≡ 0
  unfolding highest_write
  none_left [] e = refl
  none_left (y ∷ l) e = absurd (suc-ne-zero (length l) e)

  none_counted : (ys : List StorageBox) → (tally_of d ys).count ≡ 0 → (tally_of d ys).highest ≡ 0
  unfolding tally_of
  none_counted ys e = none_left (not_away ys) e

  -- where all are away none is counted
  all_away : (ys : List StorageBox) → ((y : StorageBox) → Memᴰ y ys → y.away ≡ true) → (tally_of d ys).count ≡ 0
  all_away [] h = ap (λ (t : Tally). t.count) tally_nil
  all_away (y ∷ ys) h = ap (λ (t : Tally). t.count) (tally_away y ys (h y (Memᴰ.head refl))) ∙ all_away ys (λ x m. h x (Memᴰ.tail m))

  -- some box that is not away has this write rank
  abbrev Reached : List StorageBox → ℕ → Type 0
  Reached ys r = (y : StorageBox) × (Counts ys y × ((register_of d y).write ≡ r))

  reached_behind : (y : StorageBox) (ys : List StorageBox) (r : ℕ) → Reached ys r → Reached (y ∷ ys) r
  reached_behind y ys r x = (x.0, (record { member = Memᴰ.tail x.1.0.member; going = x.1.0.going }, x.1.1))

  -- the first box has the larger of two ranks, or one behind it
  first_or_behind : (y : StorageBox) (ys : List StorageBox) (h : ℕ) (t : Bool) → ltb (register_of d y).write h ≡ t → y.away ≡ false → (0 < h → Reached ys h) → Reached (y ∷ ys) (max h (register_of d y).write)
  first_or_behind y ys h true l f k =
      let lt : (register_of d y).write < h = ltb-true (register_of d y).write h l in
      subst (Reached (y ∷ ys)) (sym (max-eq_left (le_of_lt lt))) (reached_behind y ys h (k (omega (arith, lt))))
  first_or_behind y ys h false l f k = (y, (record { member = Memᴰ.head refl; going = f }, sym (max-eq_right (ltb-false (register_of d y).write h l))))

  -- a rank above 0 is that of a box which is counted
  some_counted : (ys : List StorageBox) → 0 < (tally_of d ys).highest → 0 < (tally_of d ys).count
  some_counted ys p = by_count (eq-zero-or-pos (tally_of d ys).count)
    where
      by_count : ((tally_of d ys).count ≡ 0) ⊎ (0 < (tally_of d ys).count) → 0 < (tally_of d ys).count
      by_count (inl z) = absurd (omega (arith, p, none_counted ys z))
      by_count (inr q) = q

  reached_by : (s : Bool) (y : StorageBox) (ys : List StorageBox) → y.away ≡ s → (0 < (tally_of d ys).count → Reached ys (tally_of d ys).highest)
      → 0 < (tally_of d (y ∷ ys)).count → Reached (y ∷ ys) (tally_of d (y ∷ ys)).highest
  reached_by true y ys e k p = rw (tally_away y ys e) (reached_behind y ys (tally_of d ys).highest (k (subst (λ (t : Tally). 0 < t.count) (tally_away y ys e) p)))
  reached_by false y ys e k p = rw (tally_going y ys e) (first_or_behind y ys (tally_of d ys).highest (ltb (register_of d y).write (tally_of d ys).highest) refl e (λ q. k (some_counted ys q)))

  reached : (ys : List StorageBox) → 0 < (tally_of d ys).count → Reached ys (tally_of d ys).highest
  reached [] p = absurd (not-suc-le-zero (subst (λ (t : Tally). 0 < t.count) tally_nil p))
  reached (y ∷ ys) p = reached_by y.away y ys refl (reached ys) p

-- what a tally means
pub tallied : TallyTheorem
unfolding tally_of
tallied d ys = record {
  count = refl;
  most = λ y c. most d ys y c.member c.going;
  reached = reached d ys;
  none = λ h. (all_away d ys h, none_counted d ys (all_away d ys h));
}
