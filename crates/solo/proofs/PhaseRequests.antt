-- The requests of one phase of an attempt, while box after box is asked: those from some box on wait, and the answers received are
-- counted. What is shown of the reads and of the writes alike is shown of a stage for each box and a mask.
use Prim.Native.Nat.{ℕ, ◌+◌, ◌≤◌, ◌<◌}
use native.Mathlib.Omega.{arith}
use mathlib.Core.Path.{◌≡◌, ap, subst, ◌∙◌}
use mathlib.Core.Bool.{true, false}
use Rattle.base.specs.Mask.{bit, set_bit, count_below}
use Rattle.base.proofs.MaskLaws.{bit_zero, bit_other, count_zero, count_more, added}
use Rattle.requests.specs.Requests.{standing, is_waiting, is_on_the_way}
use Rattle.base.proofs.Cases.{clash}
use Rattle.requests.proofs.Standings.{waits_means, waits_holds, arrives_means, arrives_holds}
use Rattle.requests.specs.declared.Stage.{Stage}
use Rattle.requests.specs.declared.Stage.TheVariants.{Waiting, Answered}

-- from box p on each waits, k answers are received, and each of those is good
pub record Waits (n : ℕ) (stage : ℕ → Stage) (mask : ℕ) (Good : ℕ → Type 0) (p k : ℕ) : Type 0 where
  pub waiting : (j : ℕ) → p ≤ j → j < n → is_waiting (standing (stage j) mask j) ≡ true
  pub count : count_below mask n ≡ k
  pub good : (j : ℕ) → bit mask j ≡ true → Good j

-- box b was asked: its answer, a good one, is on the way
pub record Sent (n : ℕ) (stage : ℕ → Stage) (mask : ℕ) (Good : ℕ → Type 0) (b k : ℕ) : Type 0 where
  pub coming : is_on_the_way (standing (stage b) mask b) ≡ true
  pub waiting : (j : ℕ) → b < j → j < n → is_waiting (standing (stage j) mask j) ≡ true
  pub count : count_below mask n ≡ k
  pub good : (j : ℕ) → bit mask j ≡ true → Good j
  pub answer : Good b

-- requests just issued
pub all_wait : (n : ℕ) (stage : ℕ → Stage) (Good : ℕ → Type 0) → ((j : ℕ) → j < n → stage j ≡ Waiting) → Waits n stage 0 Good 0 0
all_wait n stage Good h = record {
  waiting = λ j _ l. waits_holds (stage j) 0 j (h j l) (bit_zero j);
  count = count_zero n;
  good = λ j e. clash e (bit_zero j);
}

-- box b serves the request
module _ {n : ℕ} {stage : ℕ → Stage} {mask : ℕ} {Good : ℕ → Type 0} {p k : ℕ} (w : Waits n stage mask Good p k) (b : ℕ) (l : p ≤ b) (h : b < n) where
  clear : bit mask b ≡ false
  clear = (waits_means (stage b) mask b (w.waiting b l h)).1

  pub one_sent : (next : ℕ → Stage) (Next : ℕ → Type 0) → next b ≡ Answered → ((j : ℕ) → ¬ (j ≡ b) → next j ≡ stage j)
      → ((j : ℕ) → ¬ (j ≡ b) → Good j → Next j) → Next b → Sent n next mask Next b k
  one_sent next Next here others goods a = record {
    coming = arrives_holds (next b) mask b here clear;
    waiting = λ j u v. rw (others j (λ (e : j ≡ b). omega arith)) (w.waiting j (omega arith) v);
    count = w.count;
    good = λ j e.
        let o : ¬ (j ≡ b) = λ (q : j ≡ b). clash (subst (λ (i : ℕ). bit mask i ≡ true) q e) clear in
        goods j o (w.good j e);
    answer = a;
  }

-- and its answer is received
pub one_heard : {n : ℕ} {stage : ℕ → Stage} {mask : ℕ} {Good : ℕ → Type 0} {b k : ℕ} → Sent n stage mask Good b k → b < n
    → Waits n stage (set_bit mask b) Good (b + 1) (k + 1)
one_heard {n} {stage} {mask} {Good} {b} {k} s h =
    let c = (arrives_means (stage b) mask b s.coming).1 in
    record {
      waiting = λ j u v.
          let m = waits_means (stage j) mask j (s.waiting j (omega arith) v) in
          waits_holds (stage j) (set_bit mask b) j m.0 (bit_other mask b j (λ (e : j ≡ b). omega arith) ∙ m.1);
      count = count_more mask b n h c ∙ ap (λ (i : ℕ). i + 1) s.count;
      good = added Good mask b s.good s.answer;
    }
