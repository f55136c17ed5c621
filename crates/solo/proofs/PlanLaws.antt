-- The begin of the plan, the boxes that answer, and how many steps the exchanges with them are.
use Prim.Native.Nat.{ℕ, zero, suc, ◌+◌, ◌*◌, ◌≤◌}
use native.Mathlib.Omega.{arith}
use native.Mathlib.Numerals.{add-one}
use mathlib.Core.Path.{◌≡◌, refl, ap, ◌∙◌}
use mathlib.Core.Bool.{Bool, not, cond}
use mathlib.Core.List.{List, ◌∷◌}
use lib.ListN.{length, get_or, take, drop, length-take, length-append}
use lib.Seq.{drop-cons}
use Rattle.std.specs.List.{count_by}
use Rattle.std.proofs.lemmas.List.Sums.{sum_by-cons}
use Rattle.suits.specs.declared.Suit.{Suit}
use Rattle.base.specs.Numbers.{quorum}
use Rattle.base.proofs.Choices.{by_test}
use Rattle.register.specs.Register.{box0}
use Rattle.register.specs.declared.StorageBox.{StorageBox}
use Rattle.requests.specs.declared.Phase.{Phase}
use Rattle.requests.specs.declared.Phase.TheVariants.{Read, Write}
use Rattle.commands.specs.Commands.{command_of}
use Rattle.commands.specs.declared.Command.TheVariants.{Begin}
use Rattle.commands.proofs.Encodings.{decode_encode}
use Rattle.plans.specs.Plans.{exchanges}
use Rattle.plans.proofs.ExchangeLaws.{exchanges_length}
use Rattle.floor.specs.Effects.{row_taken}
use Rattle.floor.specs.declared.Floor.{Floor}
use Rattle.solo.specs.Plan.{round_of, answering_from, lowest, asked_of, begin_of, exchanges_of, plan_of}

-- the plan begins with this station and this revision
pub plan_begins : (f : Floor) (s : ℕ) (v : Suit) → command_of (begin_of f s v) ≡ Begin s (round_of f s) v
plan_begins f s v = decode_encode (Begin s (round_of f s) v)

pub answering_most : (k b : ℕ) (boxes : List StorageBox) → length (answering_from k b boxes) ≤ k
unfolding answering_from
answering_most zero b boxes = omega arith
answering_most (suc k) b boxes =
    let h = answering_most k (b + 1) boxes in
    by_test (λ (l : List ℕ). length l ≤ suc k) _ _ _ (λ _. omega arith) (λ _. omega arith)

abbrev not_away : (x : StorageBox) → Bool
not_away x = not x.away

-- two steps with each box
pub exchanges_most : (p : Phase) (a q n : ℕ) (boxes : List StorageBox) → length (exchanges p a (lowest q boxes n)) ≤ 2 * n
unfolding lowest
exchanges_most p a q n boxes =
    omega (arith, exchanges_length p a (take q (answering_from n 0 boxes)), length-take q (answering_from n 0 boxes), answering_most n 0 boxes)

-- the whole plan
pub plan_most : (f : Floor) (s : ℕ) (v : Suit) → length (plan_of f s v) ≤ 4 * f.n + 1
unfolding exchanges_of
plan_most f s v =
    let reads : List (List ℕ) = exchanges Read (row_taken f s) (asked_of f) in
    let writes : List (List ℕ) = exchanges Write (row_taken f s) (asked_of f) in
    let r = exchanges_most Read (row_taken f s) (quorum f.n) f.n f.boxes in
    let w = exchanges_most Write (row_taken f s) (quorum f.n) f.n f.boxes in
    omega (arith, length-append reads writes)

-- how many answer, as the boxes themselves are counted
answering_count : (k b : ℕ) (boxes : List StorageBox) → b + k ≤ length boxes → count_by not_away (take k (drop b boxes)) ≡ length (answering_from k b boxes)
unfolding answering_from
answering_count zero b boxes h = refl
answering_count (suc k) b boxes h =
    let r = answering_count k (b + 1) boxes (omega arith) in
    let x = get_or boxes b box0 in
    let l = take k (drop (b + 1) boxes) in
    let at : take (suc k) (drop b boxes) ≡ x ∷ l = rw add-one (ap (take (suc k)) (drop-cons boxes b box0 (omega arith))) in
    ap (count_by not_away) at
    ∙ sum_by-cons (λ (x : StorageBox). cond (not_away x) 1 0) x l
    ∙ by_test (λ (u : List ℕ). cond (not_away x) 1 0 + count_by not_away l ≡ length u) x.away _ _ (λ e. rw e (omega (arith, r))) (λ e. rw e (omega (arith, r)))

pub answering_counted : (boxes : List StorageBox) (n : ℕ) → n ≤ length boxes → count_by not_away (take n boxes) ≡ length (answering_from n 0 boxes)
answering_counted boxes n h = answering_count n 0 boxes (omega arith)
