-- Two runs of three boxes, so that the claims are not about nothing. Example I of document 01: a value is chosen, a write is taken
-- below it and refused elsewhere, a read answers a rank above its own, a third attempt writes the chosen value, and a fourth is told that
-- it is outranked. And a replicated object, of which two different states are chosen.
use mathlib.Core.Path.{◌≡◌, refl, sym, subst, ◌∙◌}
use mathlib.Core.Logic.{◌≢◌, inl, inr}
use mathlib.Core.List.Memᴰ
use mathlib.Core.List.{List, [], ◌∷◌, Memᴰ, IsPrefix}
use Prim.Native.Nat.{ℕ, zero, suc, ◌≤◌, ◌<◌}
use native.Mathlib.Decide.{ℕ_discrete}
use native.Mathlib.Omega.{arith}
use lib.Dec.{eqb}
use borrow.Author.Tests.{eq-eqb, ne_eqb}
use Rattle.base.specs.Choice.{when◌then◌else◌}
use Rattle.base.proofs.Choices.{on_true, on_false}
use Rattle.base.specs.Mask.{set_bit}
use Rattle.base.specs.Quorum.{Majority}
use Rattle.protocol.specs.View.{Chosen}
use Rattle.protocol.specs.Trace.{Box, read_box, write_box, Event, read, nack, issued, took, refused, note, Edit, there, other, view, Run, Outranked, new, next, serve_read, serve_nack, issue, take, refuse, other_event}
use Rattle.protocol.specs.Claims.{Claims}
use Rattle.protocol.specs.Instances.{Submitted, Replicated}
use Rattle.base.proofs.MaskLaws.{bit_zero, bit_other, count_zero, count_more, added, mask_majority}
use Rattle.protocol.proofs.Theory.{theory}
use Rattle.protocol.proofs.Instances.{equality, replicated_theorem}

differ : ◌≡◌ {A = ℕ} 0 1 → ⊥
differ z = omega arith

two_of_three : {P : ℕ → Type 0} (b c : ℕ) → b < 3 → c < 3 → c ≢ b → P b → P c → Majority 3 P
two_of_three {P} b c h k d p q =
    mask_majority (set_bit (set_bit 0 b) c) 3
    (omega (arith, count_zero 3, count_more 0 b 3 h (bit_zero b), count_more (set_bit 0 b) c 3 k (bit_other 0 b c d ∙ bit_zero c)))
    (λ j _. added P (set_bit 0 b) c (added P 0 b (λ i e. let o = bit_zero i in absurd (differ (cc))) p) q j)

module _ {A : Type 0} where
  -- new boxes
  abbrev empty : A → ℕ → Box A
  empty v b = record { read_rank = 0; write_rank = 0; value = v }

  -- the boxes with f done at the box k
  abbrev at : ℕ → (Box A → Box A) → (ℕ → Box A) → ℕ → Box A
  at k f x j = when eqb j k then f (x j) else x j

  edited : (k : ℕ) (f : Box A → Box A) (x : ℕ → Box A) (j : ℕ) → Edit x (at k f x) k f j
  edited k f x j = elim (ℕ_discrete j k) [
    | yes p ↦ there p (sym (on_true (x j) (eq-eqb j k p) refl))
    | no p ↦ other p (sym (on_false (f (x j)) (ne_eqb j k p) refl))
  ]

module _ {E : Type 0} where
  -- the element at a place of a list
  abbrev Place : ℕ → E → List E → Type 0
  Place i e [] = ⊥
  Place zero e (d ∷ l) = e ≡ d
  Place (suc i) e (d ∷ l) = Place i e l

  place : {e : E} {l : List E} (i : ℕ) → Place i e l → Memᴰ e l
  place {l = []} i p = absurd p
  place {l = d ∷ l} zero p = Memᴰ.head p
  place {l = d ∷ l} (suc i) p = Memᴰ.tail (place {l = l} i p)

module _ {A N : Type 0} where
  -- no write of rank r was issued
  abbrev Fresh : ℕ → List (Event A N) → Type 0
  Fresh r [] = Unit {0}
  Fresh r (read s b w v ∷ l) = Fresh r l
  Fresh r (nack s b ∷ l) = Fresh r l
  Fresh r (issued s v ∷ l) = (r ≢ s) × Fresh r l
  Fresh r (took s b ∷ l) = Fresh r l
  Fresh r (refused s b ∷ l) = Fresh r l
  Fresh r (note v ∷ l) = Fresh r l

  unissued : (r : ℕ) (l : List (Event A N)) → Fresh r l → (u : A) → ¬ Memᴰ (issued r u) l
  unissued r [] h u m = Memᴰ.not-nil m
  unissued r (read s b w v ∷ l) h u m = elim (Memᴰ.cases_cons m) [ inl q ↦ differ (cc) | inr o ↦ unissued r l h u o ]
  unissued r (nack s b ∷ l) h u m = elim (Memᴰ.cases_cons m) [ inl q ↦ differ (cc) | inr o ↦ unissued r l h u o ]
  unissued r (issued s v ∷ l) h u m = elim (Memᴰ.cases_cons m) [ inl q ↦ h.0 (cc) | inr o ↦ unissued r l h.1 u o ]
  unissued r (took s b ∷ l) h u m = elim (Memᴰ.cases_cons m) [ inl q ↦ differ (cc) | inr o ↦ unissued r l h u o ]
  unissued r (refused s b ∷ l) h u m = elim (Memᴰ.cases_cons m) [ inl q ↦ differ (cc) | inr o ↦ unissued r l h u o ]
  unissued r (note v ∷ l) h u m = elim (Memᴰ.cases_cons m) [ inl q ↦ differ (cc) | inr o ↦ unissued r l h u o ]

  -- one step more
  module _ {⊑ : A → A → Type 0} {Offered : List (Event A N) → A → Type 0} {x : ℕ → Box A} {l : List (Event A N)} (k : Run 3 ⊑ Offered x l) where
    notes : (c : N) → Run 3 ⊑ Offered x (note c ∷ l)
    notes c = next k (other_event (λ j. refl))

    reads : (r b : ℕ) → Run 3 ⊑ Offered (at b (read_box r) x) (read r b (x b).write_rank (x b).value ∷ l)
    reads r b = next k (serve_read (edited b (read_box r) x) refl refl)

    -- of the answers of the boxes b and c the one of b, (w, y), is the higher
    issues : (r : ℕ) (v : A) (b c w z : ℕ) (y u : A) → b < 3 → c < 3 → b ≢ c → z ≤ w → Memᴰ (read r b w y) l → Memᴰ (read r c z u) l
        → (0 < w → ⊑ y v) → Offered l v → Fresh r l → Run 3 ⊑ Offered x (issued r v ∷ l)
    issues r v b c w z y u hb hc d h p q e o f = next k (issue (λ j. refl) (record {
      rank = w;
      value = y;
      read = record {
        majority = two_of_three c b hc hb d (record { rank = z; value = u; read = q; at_most = h }) (record { rank = w; value = y; read = p; at_most = omega arith });
        highest = λ _. (b, p);
      };
      follows = e;
      offered = λ _. o;
    }) (λ i m. absurd (unissued r l f i m)))

    takes : (r b : ℕ) (v : A) → (x b).read_rank ≤ r → (x b).write_rank < r → Memᴰ (issued r v) l → Run 3 ⊑ Offered (at b (write_box r v) x) (took r b ∷ l)
    takes r b v h p m = next k (take m h p (edited b (write_box r v) x))

    tells : (r b : ℕ) → r < (x b).read_rank → Run 3 ⊑ Offered x (nack r b ∷ l)
    tells r b h = next k (serve_nack (λ j. refl) (inl h))

    refuses : (r b : ℕ) → r < (x b).read_rank → Run 3 ⊑ Offered x (refused r b ∷ l)
    refuses r b h = next k (refuse (λ j. refl) (inl h))

-- Example I. An offer is noted.
abbrev Noted : List (Event ℕ ℕ) → ℕ → Type 0
Noted l v = Memᴰ (note v) l

start : Run 3 ◌≡◌ Noted (empty 0) []
start = new (λ b. refl) (λ b. refl)

-- attempt 0, of rank 16, offers 7, reads boxes 0 and 1, and issues its write
abbrev history0 : List (Event ℕ ℕ)
history0 = issued 16 7 ∷ read 16 1 0 0 ∷ read 16 0 0 0 ∷ note 7 ∷ []

abbrev boxes0 : ℕ → Box ℕ
boxes0 = at 1 (read_box 16) (at 0 (read_box 16) (empty 0))

run0 : Run 3 ◌≡◌ Noted boxes0 history0
unfolding when◌then◌else◌
run0 =
    let a = reads (reads (notes start 7) 16 0) 16 1 in
    issues a 16 7 1 0 0 0 0 0 (omega arith) (omega arith) (omega arith) (omega arith) (place 0 refl) (place 1 refl) (λ h. absurd (omega arith)) (place 2 refl) tt

-- attempt 1, of rank 17, offers 9, and reads and writes at boxes 1 and 2
abbrev history1 : List (Event ℕ ℕ)
history1 = took 17 2 ∷ took 17 1 ∷ issued 17 9 ∷ read 17 2 0 0 ∷ read 17 1 0 0 ∷ note 9 ∷ history0

abbrev boxes1 : ℕ → Box ℕ
boxes1 = at 2 (write_box 17 9) (at 1 (write_box 17 9) (at 2 (read_box 17) (at 1 (read_box 17) boxes0)))

run1 : Run 3 ◌≡◌ Noted boxes1 history1
unfolding when◌then◌else◌
run1 =
    let a = reads (reads (notes run0 9) 17 1) 17 2 in
    let b = issues a 17 9 2 1 0 0 0 0 (omega arith) (omega arith) (omega arith) (omega arith) (place 0 refl) (place 1 refl) (λ h. absurd (omega arith)) (place 2 refl) (omega arith, tt) in
    takes (takes b 17 1 9 (omega arith) (omega arith) (place 0 refl)) 17 2 9 (omega arith) (omega arith) (place 1 refl)

-- the write of attempt 0 is taken at box 0, refused at box 1 and, after that, at box 2; last its read is served at box 2
abbrev history2 : List (Event ℕ ℕ)
history2 = read 16 2 17 9 ∷ refused 16 2 ∷ refused 16 1 ∷ took 16 0 ∷ history1

abbrev boxes2 : ℕ → Box ℕ
boxes2 = at 2 (read_box 16) (at 0 (write_box 16 7) boxes1)

run2 : Run 3 ◌≡◌ Noted boxes2 history2
unfolding when◌then◌else◌
run2 = reads (refuses (refuses (takes run1 16 0 7 (omega arith) (omega arith) (place 6 refl)) 16 1 (omega arith)) 16 2 (omega arith)) 16 2

-- a third attempt, of rank 33, offers 5, reads boxes 0 and 1, and issues the value of the higher answer
abbrev history3 : List (Event ℕ ℕ)
history3 = issued 33 9 ∷ read 33 1 17 9 ∷ read 33 0 16 7 ∷ note 5 ∷ history2

abbrev boxes3 : ℕ → Box ℕ
boxes3 = at 1 (read_box 33) (at 0 (read_box 33) boxes2)

run3 : Run 3 ◌≡◌ Noted boxes3 history3
unfolding when◌then◌else◌
run3 =
    let a = reads (reads (notes run2 5) 33 0) 33 1 in
    issues a 33 9 1 0 17 16 9 7 (omega arith) (omega arith) (omega arith) (omega arith) (place 0 refl) (place 1 refl) (λ h. refl) (place 12 refl) (omega arith, (omega arith, tt))

pub chosen : Chosen 3 (view Noted boxes3 history3) 17 9
chosen = record { issued = place 10 refl; taken = two_of_three 1 2 (omega arith) (omega arith) (omega arith) (place 9 refl) (place 8 refl) }

pub claims : Claims 3 ◌≡◌ Noted boxes3 history3
claims = theory ℕ ℕ 3 ◌≡◌ Noted equality (λ e l v m. Memᴰ.tail m) boxes3 history3 run3

-- a fourth attempt, of rank 18, is told by box 1 that it is outranked
abbrev history4 : List (Event ℕ ℕ)
history4 = nack 18 1 ∷ history3

run4 : Run 3 ◌≡◌ Noted boxes3 history4
unfolding when◌then◌else◌
run4 = tells run3 18 1 (omega arith)

pub outranked : Outranked history4 18 1
outranked = (theory ℕ ℕ 3 ◌≡◌ Noted equality (λ e l v m. Memᴰ.tail m) boxes3 history4 run4).nack_outranked 18 1 (place 0 refl)

-- A replicated object: its states are lists of operations.
abbrev Log : Type 0
Log = List (Event (List ℕ) ℕ)

abbrev ObjectRun : (ℕ → Box (List ℕ)) → Log → Type 0
ObjectRun = Run 3 IsPrefix Submitted

started : ObjectRun (empty []) []
started = new (λ b. refl) (λ b. refl)

submit : (l : Log) (c : ℕ) (v : List ℕ) → Memᴰ (note c) l → Submitted l v → Submitted l (c ∷ v)
submit l c v p h d m = elim (Memᴰ.cases_cons m) [ inl q ↦ subst (λ (z : ℕ). Memᴰ (note z) l) (sym q) p | inr o ↦ h d o ]

-- the operation 1 is submitted, and the state 1 is chosen at rank 1, by boxes 0 and 1
abbrev log1 : Log
log1 = took 1 1 ∷ took 1 0 ∷ issued 1 (1 ∷ []) ∷ read 1 1 0 [] ∷ read 1 0 0 [] ∷ note 1 ∷ []

abbrev states1 : ℕ → Box (List ℕ)
states1 = at 1 (write_box 1 (1 ∷ [])) (at 0 (write_box 1 (1 ∷ [])) (at 1 (read_box 1) (at 0 (read_box 1) (empty []))))

object1 : ObjectRun states1 log1
unfolding when◌then◌else◌
object1 =
    let a = reads (reads (notes started 1) 1 0) 1 1 in
    let b = issues a 1 (1 ∷ []) 1 0 0 0 [] [] (omega arith) (omega arith) (omega arith) (omega arith) (place 0 refl) (place 1 refl) (λ h. absurd (omega arith))
    (submit _ 1 [] (place 2 refl) (λ c m. absurd (Memᴰ.not-nil m))) tt in
    takes (takes b 1 0 (1 ∷ []) (omega arith) (omega arith) (place 0 refl)) 1 1 (1 ∷ []) (omega arith) (omega arith) (place 1 refl)

-- the operation 2 is submitted, and the state 1, 2 is chosen at rank 2, by boxes 1 and 2
abbrev log2 : Log
log2 = took 2 2 ∷ took 2 1 ∷ issued 2 (1 ∷ 2 ∷ []) ∷ read 2 2 0 [] ∷ read 2 1 1 (1 ∷ []) ∷ note 2 ∷ log1

abbrev states2 : ℕ → Box (List ℕ)
states2 = at 2 (write_box 2 (1 ∷ 2 ∷ [])) (at 1 (write_box 2 (1 ∷ 2 ∷ [])) (at 2 (read_box 2) (at 1 (read_box 2) states1)))

object2 : ObjectRun states2 log2
unfolding when◌then◌else◌
object2 =
    let a = reads (reads (notes object1 2) 2 1) 2 2 in
    let b = issues a 2 (1 ∷ 2 ∷ []) 1 2 1 0 (1 ∷ []) [] (omega arith) (omega arith) (omega arith) (omega arith) (place 1 refl) (place 0 refl) (λ h. (2 ∷ [], refl))
    (submit _ 1 (2 ∷ []) (place 8 refl) (submit _ 2 [] (place 2 refl) (λ c m. absurd (Memᴰ.not-nil m)))) (omega arith, tt) in
    takes (takes b 2 1 (1 ∷ 2 ∷ []) (omega arith) (omega arith) (place 0 refl)) 2 2 (1 ∷ 2 ∷ []) (omega arith) (omega arith) (place 1 refl)

pub earlier : Chosen 3 (view Submitted states2 log2) 1 (1 ∷ [])
earlier = record { issued = place 8 refl; taken = two_of_three 0 1 (omega arith) (omega arith) (omega arith) (place 7 refl) (place 6 refl) }

pub later : Chosen 3 (view Submitted states2 log2) 2 (1 ∷ 2 ∷ [])
later = record { issued = place 2 refl; taken = two_of_three 1 2 (omega arith) (omega arith) (omega arith) (place 1 refl) (place 0 refl) }

pub replicated : Replicated 3 states2 log2
replicated = replicated_theorem ℕ 3 states2 log2 object2
