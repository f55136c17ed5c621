-- What a free row is, and which row a begin takes.
use Prim.Native.Nat.{ℕ, zero, suc, ◌+◌, ◌-◌, ◌<◌, ◌≤◌}
use native.Mathlib.Omega.{arith}
use native.Mathlib.Nat.{le_refl}
use native.Mathlib.Decide.{dec_lt}
use mathlib.Core.Path.{◌≡◌, refl, sym, subst}
use mathlib.Core.Logic.{inl, inr}
use mathlib.Core.Bool.{Bool, true, false}
use Rattle.std.proofs.Common.{Option, Some, None}
use borrow.Author.Tests.{lt-ltb, le-ltb}
use Rattle.base.proofs.Cases.{clash, up_to}
use Rattle.base.proofs.Choices.{on_true, on_false, first_false, by_test}
use Rattle.register.specs.declared.Department.{Department}
use Rattle.attempts.specs.Stations.{is_active}
use Rattle.attempts.specs.Rows.{row_department, first_row, waits_at, used_after}
use Rattle.attempts.proofs.RowDepartments.{row_own, first_most, row_least, row_number, row_most}
use Rattle.attempts.specs.declared.Row.{Row}
use Rattle.attempts.proofs.UsedLaws.{used_more, used_full, none_waits, waits_none}
use Rattle.places.specs.Search.{lower_in}
use Rattle.places.specs.declared.Lowest.{Lowest}
use Rattle.places.proofs.PlaceLaws.{lower_means, lower_not, lower_first}
use Rattle.floor.specs.Floors.{row_at, owner_at, used_of, end_of}
use Rattle.floor.specs.Free.{still_served, all_served, free_in, is_free, better_in, free_below, row_in, next_row}
use Rattle.floor.specs.Claims.{Free, TakesRow, unused, free, none}
use Rattle.floor.specs.declared.Floor.{Floor}

-- one box more
still_before : (t w : Bool) → still_served t w ≡ true → t ≡ true
unfolding still_served
still_before t w = by_test (λ (x : Bool). x ≡ true → t ≡ true) w _ _ (λ _ e. clash e refl) (λ _ e. e)

still_here : (t w : Bool) → still_served t w ≡ true → w ≡ false
unfolding still_served
still_here t w = by_test (λ (x : Bool). x ≡ true → w ≡ false) w _ _ (λ _ e. clash e refl) (λ q _. q)

still_holds : (t w : Bool) → t ≡ true → w ≡ false → still_served t w ≡ true
unfolding still_served
still_holds t w e h = by_test (λ (x : Bool). x ≡ true) w _ _ (λ u. clash u h) (λ _. e)

module _ (w : Row) where
  abbrev Rests : ℕ → Type 0
  Rests b = waits_at w b ≡ false

  served_means : (k : ℕ) → all_served w k ≡ true → (b : ℕ) → b < k → Rests b
  unfolding all_served
  served_means zero e b h = absurd (omega arith)
  served_means (suc k) e b h = elim (up_to h) [
    | inl q ↦ subst Rests (sym q) (still_here _ _ e)
    | inr q ↦ served_means k (still_before _ _ e) b q
  ]

  served_holds : (k : ℕ) → ((b : ℕ) → b < k → Rests b) → all_served w k ≡ true
  unfolding all_served
  served_holds zero h = refl
  served_holds (suc k) h = still_holds _ _ (served_holds k (λ b l. h b (omega arith))) (h k (omega arith))

module _ (f : Floor) (a : ℕ) where
  pub free_holds : Free f a → is_free f a ≡ true
  unfolding free_in
  free_holds z =
      sym (on_false _ z.over (sym (served_holds (row_at f a) f.n (λ b h. waits_none (row_at f a) b (z.served b h)))))

  pub free_means : is_free f a ≡ true → Free f a
  unfolding free_in
  free_means e = let p = first_false _ _ e in record {
    over = p.0;
    served = λ b h. none_waits (row_at f a) b (served_means (row_at f a) f.n p.1 b h);
  }

-- the row a, with its rank
abbrev at : Floor → ℕ → Lowest
at f a = record { row = a; rank = (row_at f a).rank }

module _ (f : Floor) (d : Department) where
  -- the rows of the department, by their numbers in it
  abbrev own : ℕ → ℕ
  own k = first_row d + k

  abbrev rank : ℕ → ℕ
  rank k = (row_at f (own k)).rank

  abbrev freed : ℕ → Bool
  freed k = is_free f (own k)

  own_most : (k : ℕ) → k < 64 → own k < 128
  own_most k h = omega (arith, first_most d)

  -- the best of the first k
  data BestBelow (k : ℕ) : Option Lowest → Type 0 where
    best : {a : ℕ} → a < k → freed a ≡ true → ((c : ℕ) → c < k → freed c ≡ true → rank a ≤ rank c)
        → ((c : ℕ) → c < a → freed c ≡ true → rank a < rank c) → BestBelow k (Some (at f (own a)))
    nothing : ((c : ℕ) → c < k → freed c ≡ false) → BestBelow k None

  module _ (k : ℕ) (h : k < 64) where
    abbrev Next : Option Lowest → Type 0
    Next x = BestBelow (suc k) x

    -- the row k is worse than a, or not free
    stays : {a : ℕ} → a < k → freed a ≡ true → ((c : ℕ) → c < k → freed c ≡ true → rank a ≤ rank c)
        → ((c : ℕ) → c < a → freed c ≡ true → rank a < rank c) → (freed k ≡ true → rank a ≤ rank k) → Next (Some (at f (own a)))
    stays {a} l e all first here =
        best {a = a} (omega arith) e
        (λ c i q. elim (up_to i) [ inl p ↦ subst (λ (j : ℕ). rank a ≤ rank j) (sym p) (here (subst (λ (j : ℕ). freed j ≡ true) p q)) | inr i ↦ all c i q ]) first

    still_nothing : ((c : ℕ) → c < k → freed c ≡ false) → freed k ≡ false → Next None
    still_nothing all e = nothing (λ c i. elim (up_to i) [ inl p ↦ subst (λ (j : ℕ). freed j ≡ false) (sym p) e | inr i ↦ all c i ])

    more : {x : Option Lowest} → BestBelow k x → Next (better_in x (row_at f (own k)) (owner_at f (own k)).state f.n (own k))
    unfolding better_in
    more (best {a} l e all first) =
        by_test Next (lower_in (Some (at f (own a))) (rank k)) _ _
        (λ t. let lt = lower_means (at f (own a)) (rank k) t in by_test Next (freed k) _ _
        (λ u. best {a = k} (omega arith) u
        (λ c i q. elim (up_to i) [ inl p ↦ subst (λ (j : ℕ). rank k ≤ rank j) (sym p) (le_refl (rank k)) | inr i ↦ omega (arith, all c i q) ])
        (λ c i q. omega (arith, all c i q)))
        (λ u. stays l e all first (λ v. clash v u)))
        (λ t. stays l e all first (λ _. lower_not (at f (own a)) (rank k) t))
    more (nothing all) =
        by_test Next (lower_in None (rank k)) _ _
        (λ _. by_test Next (freed k) _ _
        (λ u. best {a = k} (omega arith) u
        (λ c i q. elim (up_to i) [ inl p ↦ subst (λ (j : ℕ). rank k ≤ rank j) (sym p) (le_refl (rank k)) | inr i ↦ clash q (all c i) ])
        (λ c i q. clash q (all c i)))
        (λ u. still_nothing all u))
        (λ t. clash (lower_first (rank k)) t)

  best_below : (k : ℕ) → k ≤ 64 → BestBelow k (free_below f d k)
  unfolding free_below
  best_below zero h = nothing (λ c l. absurd (omega arith))
  best_below (suc k) h = more k (omega arith) (best_below k (omega arith))

  pub next_unused : used_of f d < 64 → next_row f d ≡ end_of f d
  unfolding next_row
  next_unused h = sym (on_true _ (lt-ltb (used_of f d) 64 h) refl)

  pub next_full : 64 ≤ used_of f d → next_row f d ≡ row_in (free_below f d 64)
  unfolding next_row
  next_full h = sym (on_false _ (le-ltb (used_of f d) 64 h) refl)

  -- a row of the department by its number in it
  of_own : (P : ℕ → Type 0) → ((k : ℕ) → k < 64 → P (own k)) → (c : ℕ) → row_department c ≡ d → c < 128 → P c
  of_own P p c e h = subst P (sym (row_number d c e)) (p (c - first_row d) (omega (arith, row_least d c e, row_most d c e h)))

  takes_best : {x : Option Lowest} → 64 ≤ used_of f d → BestBelow 64 x → TakesRow f d (row_in x)
  takes_best h (best {a} l e all first) =
      free h (row_own d a l) (own_most a l) e (of_own (λ c. is_free f c ≡ true → rank a ≤ (row_at f c).rank) all)
      (λ c q i. of_own (λ c. c < own a → is_free f c ≡ true → rank a < (row_at f c).rank) (λ k _ i. first k (omega arith)) c q (omega (arith, own_most a l)) i)
  takes_best h (nothing all) = none h (of_own (λ c. is_free f c ≡ false) all)

  pub takes_row : TakesRow f d (next_row f d)
  takes_row = elim (dec_lt (used_of f d) 64) [
    | yes h ↦ subst (TakesRow f d) (sym (next_unused h)) (unused h)
    | no h ↦ subst (TakesRow f d) (sym (next_full (omega arith))) (takes_best (omega arith) (best_below 64 (omega arith)))
  ]

  -- the row taken is one of the department, in use once it was begun, and every other row in use then was in use before
  taken_own : {x : ℕ} → TakesRow f d x → x < 128 → row_department x ≡ d
  taken_own (unused h) l = row_own d (used_of f d) h
  taken_own (free h q _ _ _ _) l = q
  taken_own (none _ _) l = absurd (omega arith)

  taken_in : {x : ℕ} → TakesRow f d x → x < 128 → x < first_row d + used_after (used_of f d)
  taken_in (unused h) l = omega (arith, used_more (used_of f d) h)
  taken_in (free h q i _ _ _) l = omega (arith, used_full (used_of f d) h, row_most d _ q i)
  taken_in (none _ _) l = absurd (omega arith)

  below_next : used_of f d < 64 → (j : ℕ) → j < first_row d + used_after (used_of f d) → j < suc (end_of f d)
  below_next h j l = omega (arith, used_more (used_of f d) h)

  taken_other : {x : ℕ} → TakesRow f d x → (j : ℕ) → j < first_row d + used_after (used_of f d) → ¬ (j ≡ x) → j < end_of f d
  taken_other (unused h) j l n = elim (up_to (below_next h j l)) [ inl q ↦ absurd (n q) | inr q ↦ q ]
  taken_other (free h _ _ _ _ _) j l n = omega (arith, used_full (used_of f d) h)
  taken_other (none h _) j l n = omega (arith, used_full (used_of f d) h)

  -- one that was in use is free
  taken_free : {x : ℕ} → TakesRow f d x → x < end_of f d → x < 128 → is_free f x ≡ true
  taken_free (unused h) l i = absurd (omega arith)
  taken_free (free h _ _ e _ _) l j = e
  taken_free (none h _) l i = absurd (omega arith)

  taken_most : {x : ℕ} → TakesRow f d x → x ≤ 128
  taken_most (unused h) = omega (arith, first_most d)
  taken_most (free h _ i _ _ _) = omega arith
  taken_most (none h _) = omega arith

  pub next_most : next_row f d ≤ 128
  next_most = taken_most takes_row

  pub next_own : next_row f d < 128 → row_department (next_row f d) ≡ d
  next_own = taken_own takes_row

  pub next_in : next_row f d < 128 → next_row f d < first_row d + used_after (used_of f d)
  next_in = taken_in takes_row

  pub next_other : (j : ℕ) → j < first_row d + used_after (used_of f d) → ¬ (j ≡ next_row f d) → j < end_of f d
  next_other = taken_other takes_row

  pub next_free : next_row f d < end_of f d → next_row f d < 128 → is_free f (next_row f d) ≡ true
  next_free = taken_free takes_row

  pub next_over : next_row f d < end_of f d → next_row f d < 128 → is_active (owner_at f (next_row f d)).state (next_row f d) ≡ false
  next_over l i = (free_means f (next_row f d) (next_free l i)).over

  -- where a row in use of the department is free there is one to take
  taken_some : {x : ℕ} → TakesRow f d x → used_of f d ≤ 64 → (a : ℕ) → row_department a ≡ d → a < end_of f d → is_free f a ≡ true → x < 128
  taken_some (unused h) u a q l e = omega (arith, first_most d)
  taken_some (free h _ i _ _ _) u a q l e = i
  taken_some (none h all) u a q l e = clash e (all a q (omega (arith, first_most d)))

  pub next_some : used_of f d ≤ 64 → (a : ℕ) → row_department a ≡ d → a < end_of f d → is_free f a ≡ true → next_row f d < 128
  next_some = taken_some takes_row
