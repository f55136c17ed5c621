-- The laws of one phase: requests issued wait at every box below n; one served there is on its way; the q-th answer; all said yes.
use Prim.Native.Nat.{ℕ, zero, suc, ◌+◌, ◌≤◌, ◌<◌, min}
use native.Mathlib.Nat.{min-eq_left, min-eq_right}
use native.Mathlib.Omega.{arith}
use native.Mathlib.Numerals.{add-one}
use mathlib.Core.Path.{◌≡◌, refl, sym, ap, ◌∙◌}
use mathlib.Core.Logic.{◌⊎◌, inl, inr}
use mathlib.Core.Bool.{Bool, true, false}
use lib.Dec.{ltb}
use lib.ListN.{length, get_or, length-set}
use lib.Seq.{set_out, get_or-set_same, get_or-set_other}
use borrow.Author.Tests.{ltb-true, ltb-false, eqb-true, eq-eqb, ne_eqb}
use Rattle.base.specs.Choice.{when◌then◌else◌}
use Rattle.base.specs.Numbers.{quorum}
use Rattle.base.proofs.Choices.{on_true, on_false, by_test, both_true}
use Rattle.base.specs.Mask.{count_below}
use Rattle.base.specs.Quorum.{Majority}
use Rattle.base.proofs.MaskLaws.{bit_zero, bit_same, bit_other, mask_majority}
use Rattle.requests.specs.Requests.{slot0, slot_at, heard_from, standing, standing_of, is_waiting, is_on_the_way, slot_waiting, waiting_below, issued_to, served_at, received_from, at_quorum, still_yes, all_yes, read_verdict, write_verdict, verdict_of}
use Rattle.requests.specs.declared.Phase.{Phase}
use Rattle.requests.specs.declared.Phase.TheVariants.{Read, Write}
use Rattle.requests.specs.declared.Stage.TheVariants.{Answered}
use Rattle.requests.specs.declared.Slot.{Slot}
use Rattle.requests.specs.declared.Requests.{Requests}
use Rattle.requests.specs.declared.Verdict.{Verdict}
use Rattle.requests.specs.declared.Verdict.TheVariants.{Open, Yes, No}
use Rattle.base.proofs.Cases.{clash, by_cases, not_true_false, up_to}
use Rattle.requests.proofs.Standings.{waits_holds, arrives_holds}
use Rattle.base.proofs.Stores.{set_in, set_all, get_d_same}

-- the array keeps its length
pub waiting_length : (k : ℕ) → length (waiting_below k) ≡ 9
unfolding waiting_below
waiting_length zero = refl
waiting_length (suc k) = length-set (waiting_below k) k _ ∙ waiting_length k

-- past its end nothing is stored
pub waiting_most : (n : ℕ) → waiting_below (min n 9) ≡ waiting_below n
unfolding waiting_below
waiting_most zero = refl
waiting_most (suc n) =
    by_cases (ltb n 9)
    (λ e. rw (min-eq_left {n = suc n} {m = 9} (ltb-true n 9 e)))
    (λ e. let h = ltb-false n 9 e in
    rw (min-eq_right {n = 9} {m = suc n} (omega arith), set_out (waiting_below n) n slot_waiting (omega (arith, waiting_length n)))
    (rw (min-eq_right {n = 9} {m = n} h) at (waiting_most n)))

pub served_length : (h : Requests) (b : ℕ) (t : Bool) → length (served_at h b t).slots ≡ length h.slots
served_length h b t = length-set h.slots b _

-- requests issued: below k they wait, from k on they are not issued
pub wait_below : (k : ℕ) → k ≤ 9 → (j : ℕ) → j < k → get_or (waiting_below k) j slot0 ≡ slot_waiting
unfolding waiting_below
wait_below zero h i l = absurd (omega arith)
wait_below (suc k) h i l =
    set_in slot0 (λ (j : ℕ) (x : Slot). j < suc k → x ≡ slot_waiting) (waiting_below k) k slot_waiting (omega (arith, waiting_length k))
    (λ j e p. wait_below k (omega arith) j (omega (arith, e))) (λ _. refl) i l

pub none_past : (k j : ℕ) → k ≤ j → get_or (waiting_below k) j slot0 ≡ slot0
unfolding waiting_below
none_past zero i h = get_d_same 9 i slot0
none_past (suc k) i h =
    set_all slot0 (λ (j : ℕ) (x : Slot). suc k ≤ j → get_or (waiting_below k) j slot0 ≡ slot0 → x ≡ slot0) (waiting_below k) k slot_waiting
    (λ j l e. e) (λ l _. absurd (omega arith)) i h (none_past k i (omega arith))

-- "waits at every box"
pub issued_waits : (n b : ℕ) → n ≤ 9 → b < n → is_waiting (standing_of (issued_to n) b) ≡ true
issued_waits n b h l = waits_holds _ 0 b (rw (wait_below n h b l)) (bit_zero b)

-- an answer is on the way once its box has served, and received once it is delivered; at other boxes nothing moves
module _ (h : Requests) (b : ℕ) (l : b < length h.slots) where
  pub served_slot : (t : Bool) → slot_at (served_at h b t) b ≡ record { stage = Answered; ok = t }
  served_slot t = get_or-set_same h.slots b _ slot0 l

  pub served_comes : (t : Bool) → heard_from h b ≡ false → is_on_the_way (standing_of (served_at h b t) b) ≡ true
  served_comes t e = arrives_holds _ h.heard b (rw (served_slot t)) e

pub served_other : (h : Requests) (b : ℕ) (t : Bool) (j : ℕ) → ¬ (j ≡ b) → standing_of (served_at h b t) j ≡ standing_of h j
served_other h b t j e = ap (λ (x : Slot). standing x.stage h.heard j) (get_or-set_other h.slots b j _ slot0 e)

pub received_same : (h : Requests) (b : ℕ) → heard_from (received_from h b) b ≡ true
received_same h b = bit_same h.heard b

pub received_other : (h : Requests) (b j : ℕ) → ¬ (j ≡ b) → heard_from (received_from h b) j ≡ heard_from h j
received_other h b j e = bit_other h.heard b j e

-- The q-th answer.
module _ (h : Requests) (n : ℕ) where
  pub quorum_means : at_quorum h n ≡ true → count_below h.heard n ≡ quorum n
  unfolding at_quorum
  quorum_means e = eqb-true _ _ e

  pub quorum_holds : count_below h.heard n ≡ quorum n → at_quorum h n ≡ true
  unfolding at_quorum
  quorum_holds e = eq-eqb _ _ e

  pub quorum_not : ¬ (count_below h.heard n ≡ quorum n) → at_quorum h n ≡ false
  unfolding at_quorum
  quorum_not e = ne_eqb _ _ e

  -- the boxes that answered are then a majority
  pub quorum_majority : {P : ℕ → Type 0} → at_quorum h n ≡ true → ((b : ℕ) → b < n → heard_from h b ≡ true → P b) → Majority n P
  quorum_majority e p = mask_majority h.heard n (omega (arith, quorum_means e)) p

-- One more answer.
still_means : (before heard : Bool) (s : Slot) → still_yes before heard s ≡ true → (before ≡ true) × (heard ≡ true → s.ok ≡ true)
unfolding still_yes when◌then◌else◌
still_means before true s e = let p = both_true s.ok before e in (p.1, λ _. p.0)
still_means before false s e = (e, λ q. clash q refl)

still_not : (before heard : Bool) (s : Slot) → still_yes before heard s ≡ false → (before ≡ false) ⊎ ((heard ≡ true) × (s.ok ≡ false))
unfolding still_yes
still_not before heard s =
    by_test P _ _ _ (λ r. by_test P _ _ _ (λ _ e. inl e) (λ t _. inr (r, t))) (λ _ e. inl e)
  where
    P : Bool → Type 0
    P x = x ≡ false → (before ≡ false) ⊎ ((heard ≡ true) × (s.ok ≡ false))

-- "all q say taken": each box below k whose answer was received said yes, or one of them did not
module _ (h : Requests) where
  pub yes_means : (k : ℕ) → all_yes h k ≡ true → (b : ℕ) → b < k → heard_from h b ≡ true → (slot_at h b).ok ≡ true
  unfolding all_yes
  yes_means zero e b l i = absurd (omega arith)
  yes_means (suc k) e b l i =
      let p = still_means _ _ _ e in
      elim (up_to l) [ inl q ↦ ap (λ (c : ℕ). (slot_at h c).ok) q ∙ p.1 (ap (heard_from h) (sym q) ∙ i) | inr q ↦ yes_means k p.0 b q i ]

  pub yes_not : (k : ℕ) → all_yes h k ≡ false → (b : ℕ) × (b < k) × (heard_from h b ≡ true) × ((slot_at h b).ok ≡ false)
  unfolding all_yes
  yes_not zero e = clash refl e
  yes_not (suc k) e = elim (still_not _ _ _ e) [
    | inl q ↦ (let r = yes_not k q in (r.0, omega (arith, r.1), r.2, r.3))
    | inr q ↦ (k, omega arith, q.0, q.1)
  ]

  pub yes_holds : (k : ℕ) → ((b : ℕ) → b < k → heard_from h b ≡ true → (slot_at h b).ok ≡ true) → all_yes h k ≡ true
  yes_holds k p = by_value (all_yes h k) refl
    where
      by_value : (t : Bool) → all_yes h k ≡ t → t ≡ true
      by_value true e = refl
      by_value false e = let r = yes_not k e in clash (p r.0 r.1 r.2) r.3

  -- as the code asks one box after the other
  pub yes_begins : all_yes h 0 ≡ true
  unfolding all_yes
  yes_begins = refl

  pub yes_unheard : (k : ℕ) → all_yes h k ≡ true → heard_from h k ≡ false → all_yes h (k + 1) ≡ true
  unfolding all_yes still_yes
  yes_unheard k e t = rw add-one (sym (on_false _ t (sym e)))

  pub yes_said : (k : ℕ) → all_yes h k ≡ true → (slot_at h k).ok ≡ true → all_yes h (k + 1) ≡ true
  unfolding all_yes still_yes
  yes_said k e t = rw add-one (by_test (λ (x : Bool). x ≡ true) (heard_from h k) _ _ (λ _. sym (on_true _ t (sym e))) (λ _. e))

  pub yes_denied : (n k : ℕ) → k < n → heard_from h k ≡ true → (slot_at h k).ok ≡ false → all_yes h n ≡ false
  yes_denied n k l t u = not_true_false (all_yes h n) (λ e. clash (yes_means n e k l t) u)

pub ruleset answers = (yes_begins, yes_unheard, yes_said, yes_denied)

-- What the answers received come to, as facts: the q-th was not received, and of reads none says no; it was, and each says yes; or one says
-- no, of writes with the q-th.
pub data Came (p : Phase) (h : Requests) (n : ℕ) : Verdict → Type 0 where
  still : at_quorum h n ≡ false → (p ≡ Read → all_yes h n ≡ true) → Came p h n Open
  agreed : at_quorum h n ≡ true → all_yes h n ≡ true → Came p h n Yes
  denied : all_yes h n ≡ false → (p ≡ Write → at_quorum h n ≡ true) → Came p h n No

module _ (h : Requests) (n : ℕ) where
  pub verdict_came : (p : Phase) → Came p h n (verdict_of p h n)
  unfolding read_verdict write_verdict
  verdict_came Read =
      by_test (Came Read h n) (all_yes h n) _ _
      (λ y. by_test (Came Read h n) (at_quorum h n) _ _ (λ q. agreed q y) (λ q. still q (λ _. y)))
      (λ y. denied y (λ e. absurd (let z : ◌≡◌ {A = ℕ} 0 1 = cc in omega arith)))
  verdict_came Write =
      by_test (Came Write h n) (at_quorum h n) _ _
      (λ q. by_test (Came Write h n) (all_yes h n) _ _ (λ y. agreed q y) (λ y. denied y (λ _. q)))
      (λ q. still q (λ e. absurd (let z : ◌≡◌ {A = ℕ} 0 1 = cc in omega arith)))

  -- the q-th answer ends a phase
  pub verdict_yes : (p : Phase) → at_quorum h n ≡ true → all_yes h n ≡ true → verdict_of p h n ≡ Yes
  unfolding read_verdict write_verdict
  verdict_yes Read q y = sym (on_true _ y (on_true _ q refl))
  verdict_yes Write q y = sym (on_true _ q (on_true _ y refl))

  pub verdict_no : (p : Phase) → at_quorum h n ≡ true → all_yes h n ≡ false → verdict_of p h n ≡ No
  unfolding read_verdict write_verdict
  verdict_no Read q y = sym (on_false _ y refl)
  verdict_no Write q y = sym (on_true _ q (on_false _ y refl))

  -- before it a no ends reads alone
  pub verdict_open : (p : Phase) → at_quorum h n ≡ false → (p ≡ Read → all_yes h n ≡ true) → verdict_of p h n ≡ Open
  unfolding read_verdict write_verdict
  verdict_open Read q y = sym (on_true _ (y refl) (on_false _ q refl))
  verdict_open Write q y = sym (on_false _ q refl)

  pub read_no : all_yes h n ≡ false → verdict_of Read h n ≡ No
  unfolding read_verdict
  read_no y = sym (on_false _ y refl)
