-- Each step of the machine is a step of the view, so every run has the invariant; and a write refused, or a read told so, was outranked.
use mathlib.Core.Path.{◌≡◌, refl, sym, ap, subst, ◌∙◌}
use mathlib.Core.Logic.{inl, inr}
use mathlib.Core.List.Memᴰ
use mathlib.Core.List.{List, ◌∷◌, Memᴰ}
use Prim.Native.Nat.{ℕ, ◌≤◌, ◌<◌}
use native.Mathlib.Decide.{dec_le}
use native.Mathlib.Nat.{eq-or-lt_of_le}
use native.Mathlib.Omega.{arith}
use Rattle.protocol.specs.View.{Stored, kept, stored, Took, Answered, Wrote, MayIssue, Transition}
use Rattle.protocol.specs.Invariant.{Inv}
use Rattle.protocol.specs.Trace.{Box, read_box, write_box, Event, read, nack, issued, took, refused, there, other, view, Granted, by_read, by_write, Outranked, Step, serve_read, serve_nack, issue, take, refuse, other_event, Run, new, next}
use Rattle.protocol.specs.Claims.{Persistent}
use Rattle.protocol.proofs.Invariance.{start_inv, transition_inv}

module _ {A : Type 0} where
  abbrev read_rank_of : Box A → ℕ
  read_rank_of c = c.read_rank

  abbrev write_rank_of : Box A → ℕ
  write_rank_of c = c.write_rank

  abbrev value_of : Box A → A
  value_of c = c.value

module _ {A N : Type 0} where
  -- what an event does to the box j
  data Change (x : ℕ → Box A) (l : List (Event A N)) (y : ℕ → Box A) (e : Event A N) (j : ℕ) : Type 0 where
    same : y j ≡ x j → Change x l y e j
    raised : {r w : ℕ} {v : A} → read r j w v ≡ e → y j ≡ read_box r (x j) → Change x l y e j
    written : {r : ℕ} {v : A} → took r j ≡ e → Memᴰ (issued r v) l → (x j).write_rank < r → y j ≡ write_box r v (x j) → Change x l y e j

  pub granted_more : {l : List (Event A N)} {r b : ℕ} (e : Event A N) → Granted l r b → Granted (e ∷ l) r b
  granted_more e (by_read m) = by_read (Memᴰ.tail m)
  granted_more e (by_write m) = by_write (Memᴰ.tail m)

  pub outranked_more : {l : List (Event A N)} {r b : ℕ} (e : Event A N) → Outranked l r b → Outranked (e ∷ l) r b
  outranked_more e k = record { rank = k.rank; higher = k.higher; granted = granted_more e k.granted }

  -- the ranks that boxes hold are of attempts served there
  pub record Known (x : ℕ → Box A) (l : List (Event A N)) : Type 0 where
    pub readers : (b : ℕ) → 0 < (x b).read_rank → Granted l (x b).read_rank b
    pub writers : (b : ℕ) → 0 < (x b).write_rank → Memᴰ (took (x b).write_rank b) l

  module _ (n : ℕ) (◌⊑◌ : A → A → Type 0) (Offered : List (Event A N) → A → Type 0) where
    infix 20 ◌⊑◌
    module _ {x y : ℕ → Box A} {l : List (Event A N)} where
      change : {e : Event A N} → Step n ◌⊑◌ Offered x l y e → (j : ℕ) → Change x l y e j
      change (serve_read {r} {b} {w} {v} f g h) j = elim (f j) [ there p q ↦ raised (ap (λ (i : ℕ). read r i w v) p) q | other p q ↦ same q ]
      change (serve_nack q _) j = same (q j)
      change (issue q _ _) j = same (q j)
      change (take {r} {b} m h k f) j = elim (f j) [
        | there p q ↦ written (ap (λ (i : ℕ). took r i) p) m (omega (arith, ap (λ (i : ℕ). (x i).write_rank) p)) q
        | other p q ↦ same q
      ]
      change (refuse q _) j = same (q j)
      change (other_event q) j = same (q j)

      -- what the step of each event says
      read_now : {r b w : ℕ} {v : A} → Step n ◌⊑◌ Offered x l y (read r b w v) → (r ≤ (y b).read_rank) × (w ≡ (y b).write_rank) × (v ≡ (y b).value)
      read_now (serve_read {b = b} f g h) = elim (f b) [
        | there p q ↦ (omega (arith, ap read_rank_of q), g ∙ sym (ap write_rank_of q), h ∙ sym (ap value_of q))
        | other p q ↦ absurd (p refl)
      ]

      took_now : {r b : ℕ} → Step n ◌⊑◌ Offered x l y (took r b) → ((x b).read_rank ≤ r) × ((x b).write_rank < r) × (r ≤ (y b).write_rank)
      took_now (take {b = b} m h k f) = elim (f b) [ there p q ↦ omega (arith, ap write_rank_of q) | other p q ↦ absurd (p refl) ]

      pub issued_now : {r : ℕ} {v : A} → Step n ◌⊑◌ Offered x l y (issued r v)
          → MayIssue n ◌⊑◌ (view Offered x l) r v × ((u : A) → Memᴰ (issued r u) (issued r v ∷ l) → u ≡ v)
      issued_now (issue _ q f) = (q, λ u m. elim (Memᴰ.cases_cons m) [ inl p ↦ cc | inr o ↦ cc (f u o) ])

      step_as : {d e : Event A N} → d ≡ e → Step n ◌⊑◌ Offered x l y e → Step n ◌⊑◌ Offered x l y d
      step_as q s = subst (λ (e : Event A N). Step n ◌⊑◌ Offered x l y e) (sym q) s

      module _ {e : Event A N} (s : Step n ◌⊑◌ Offered x l y e) where
        up : (j : ℕ) → ((x j).read_rank ≤ (y j).read_rank) × ((x j).write_rank ≤ (y j).write_rank)
        up j = elim (change s j) [
          | same q ↦ omega (arith, ap read_rank_of q, ap write_rank_of q)
          | raised p q ↦ omega (arith, ap read_rank_of q, ap write_rank_of q)
          | written p m h q ↦ omega (arith, ap read_rank_of q, ap write_rank_of q)
        ]

        store_now : (j : ℕ) → Stored (view Offered x l) (view Offered y (e ∷ l)) j
        store_now j = elim (change s j) [
          | same q ↦ kept (ap write_rank_of q) (ap value_of q)
          | raised p q ↦ kept (ap write_rank_of q) (ap value_of q)
          | written p m h q ↦ stored (Memᴰ.tail {xs = l} (rw (ap write_rank_of q, ap value_of q) m))
        ]

        took_cases : (r b : ℕ) → Memᴰ (took r b) (e ∷ l) → Took (view Offered x l) (view Offered y (e ∷ l)) r b
        took_cases r b t = elim (Memᴰ.cases_cons t) [ inl q ↦ (let k = took_now (step_as q s) in Took.now k.0 k.1 k.2) | inr o ↦ Took.before o ]

        read_cases : (r b w : ℕ) (v : A) → Memᴰ (read r b w v) (e ∷ l) → Answered (view Offered x l) (view Offered y (e ∷ l)) r b w v
        read_cases r b w v t = elim (Memᴰ.cases_cons t) [ inl q ↦ (let k = read_now (step_as q s) in Answered.now k.0 k.1 k.2) | inr o ↦ Answered.before o ]

        issued_cases : (r : ℕ) (v : A) → Memᴰ (issued r v) (e ∷ l) → Wrote n ◌⊑◌ (view Offered x l) (view Offered y (e ∷ l)) r v
        issued_cases r v t = elim (Memᴰ.cases_cons t) [
          | inl q ↦ (let k = issued_now (step_as q s) in Wrote.now k.0 (λ u m. k.1 u (subst (Memᴰ (issued r u)) (ap (λ (d : Event A N). d ∷ l) (sym q)) m)))
          | inr o ↦ Wrote.before o
        ]

        known_step : Known x l → Known y (e ∷ l)
        known_step k = record {
          readers = λ j p. elim (change s j) [
            | same q ↦ reader j (ap read_rank_of q) p
            | raised {r = r} {w = w} {v = v} h q ↦ elim (dec_le r (x j).read_rank) [
              | yes c ↦ reader j (omega (arith, ap read_rank_of q)) p
              | no c ↦ (
                  let z : (y j).read_rank ≡ r = omega (arith, ap read_rank_of q) in
                  by_read {w = w} {v = v} (Memᴰ.head {xs = l} (ap (λ (i : ℕ). read i j w v) z ∙ h)))
            ]
            | written h m c q ↦ reader j (ap read_rank_of q) p
          ];
          writers = λ j p. elim (change s j) [
            | same q ↦ writer j (ap write_rank_of q) p
            | raised h q ↦ writer j (ap write_rank_of q) p
            | written h m c q ↦ Memᴰ.head {xs = l} (ap (λ (i : ℕ). took i j) (ap write_rank_of q) ∙ h)
          ];
        }
          where
            reader : {t : ℕ} (j : ℕ) → t ≡ (x j).read_rank → 0 < t → Granted (e ∷ l) t j
            reader j q p = rw q (granted_more e (k.readers j (omega arith)))

            writer : {t : ℕ} (j : ℕ) → t ≡ (x j).write_rank → 0 < t → Memᴰ (took t j) (e ∷ l)
            writer j q p = Memᴰ.tail {xs = l} (rw q (k.writers j (omega arith)))

        module _ (more : Persistent Offered) where
          pub step_transition : Transition n ◌⊑◌ (view Offered x l) (view Offered y (e ∷ l))
          step_transition = record {
            reads_up = λ b. (up b).0;
            writes_up = λ b. (up b).1;
            store = store_now;
            take = took_cases;
            answer = read_cases;
            issue = issued_cases;
            issued_kept = λ r v t. Memᴰ.tail t;
            taken_kept = λ r b t. Memᴰ.tail t;
            offered_kept = λ v t. more e l v t;
          }

    -- every run has the invariant
    module _ (trans : (u v w : A) → u ⊑ v → v ⊑ w → u ⊑ w) (more : Persistent Offered) where
      pub run_inv : {x : ℕ → Box A} {l : List (Event A N)} → Run n ◌⊑◌ Offered x l → Inv n ◌⊑◌ (view Offered x l)
      run_inv (new p q) = start_inv n ◌⊑◌ (record {
        unwritten = q;
        no_read = λ r b w v t. Memᴰ.not-nil t;
        no_issued = λ r v t. Memᴰ.not-nil t;
        no_taken = λ r b t. Memᴰ.not-nil t;
      })
      run_inv (next k s) = transition_inv n ◌⊑◌ trans (step_transition s more) (run_inv k)

    pub run_known : {x : ℕ → Box A} {l : List (Event A N)} → Run n ◌⊑◌ Offered x l → Known x l
    run_known (new p q) = record { readers = λ b h. absurd (omega (arith, p b)); writers = λ b h. absurd (omega (arith, q b)) }
    run_known (next k s) = known_step s (run_known k)

    -- a write that a box refuses, and did not take, was outranked
    pub refused_outranked : {x y : ℕ → Box A} {l : List (Event A N)} {r b : ℕ} → Known x l → 0 < r → Step n ◌⊑◌ Offered x l y (refused r b)
        → ¬ Memᴰ (took r b) l → Outranked l r b
    refused_outranked {x} {b = b} k p (refuse _ c) f = elim c [
      | inl h ↦ record { rank = (x b).read_rank; higher = omega arith; granted = k.readers b (omega arith) }
      | inr h ↦ elim (eq-or-lt_of_le h) [
        | inl z ↦ absurd (f (rw z (k.writers b (omega arith))))
        | inr o ↦ record { rank = (x b).write_rank; higher = omega arith; granted = by_write (k.writers b (omega arith)) }
      ]
    ]

    pub outranked : {x : ℕ → Box A} {l : List (Event A N)} → Run n ◌⊑◌ Offered x l → (r b : ℕ) → 0 < r → Memᴰ (refused r b) l
        → ¬ Memᴰ (took r b) l → Outranked l r b
    outranked (new _ _) r b p m f = absurd (Memᴰ.not-nil m)
    outranked (next {e = e} k s) r b p m f = outranked_more e (elim (Memᴰ.cases_cons m) [
      | inl q ↦ refused_outranked (run_known k) p (step_as q s) (λ t. f (Memᴰ.tail t))
      | inr o ↦ outranked k r b p o (λ t. f (Memᴰ.tail t))
    ])

    -- a read that a box tells so was outranked
    pub told_outranked : {x y : ℕ → Box A} {l : List (Event A N)} {r b : ℕ} → Known x l → Step n ◌⊑◌ Offered x l y (nack r b) → Outranked l r b
    told_outranked {x} {b = b} k (serve_nack _ c) = elim c [
      | inl h ↦ record { rank = (x b).read_rank; higher = omega arith; granted = k.readers b (omega arith) }
      | inr h ↦ record { rank = (x b).write_rank; higher = omega arith; granted = by_write (k.writers b (omega arith)) }
    ]

    pub nack_outranked : {x : ℕ → Box A} {l : List (Event A N)} → Run n ◌⊑◌ Offered x l → (r b : ℕ) → Memᴰ (nack r b) l → Outranked l r b
    nack_outranked (new _ _) r b m = absurd (Memᴰ.not-nil m)
    nack_outranked (next {e = e} k s) r b m = outranked_more e (elim (Memᴰ.cases_cons m) [
      | inl q ↦ told_outranked (run_known k) (step_as q s)
      | inr o ↦ nack_outranked k r b o
    ])
