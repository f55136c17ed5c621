-- What a solo finish asks of a floor, read off the list, and what its plan delivers.
use Prim.Native.Nat.{ℕ, zero, suc, ◌+◌, ◌≤◌, ◌<◌}
use native.Mathlib.Nat.{zero-add, le_trans}
use native.Mathlib.Omega.{arith}
use mathlib.Core.Path.{◌≡◌, refl, sym, ap, subst, ◌∙◌}
use mathlib.Core.Bool.{Bool, true, false}
use mathlib.Core.List.{List, [], ◌∷◌, ◌++◌}
use lib.ListN.{length, get_or}
use Rattle.suits.specs.declared.Suit.{Suit}
use Rattle.base.proofs.Choices.{by_test}
use Rattle.register.specs.declared.StorageBox.{StorageBox}
use Rattle.base.specs.Quorum.{indicator, count, Majority}
use Rattle.base.proofs.QuorumLaws.{count_low}
use Rattle.requests.specs.declared.Phase.{Phase}
use Rattle.requests.specs.declared.Phase.TheVariants.{Read, Write}
use Rattle.register.specs.Register.{box0}
use Rattle.commands.specs.Commands.{command_of, encode_of}
use Rattle.floor.specs.Floors.{department_at}
use Rattle.floor.specs.Effects.{row_taken}
use Rattle.floor.specs.Soundness.{Sound}
use Rattle.floor.specs.declared.Floor.{Floor}
use Rattle.commands.specs.declared.Command.{Command}
use Rattle.commands.specs.declared.Command.TheVariants.{Begin, Serve, Deliver, Stop, Leave, Return, Malformed}
use Rattle.base.proofs.Cases.{clash}
use Rattle.commands.proofs.Encodings.{decode_encode}
use Rattle.plans.specs.Plans.{exchange, exchanges}
use Rattle.solo.specs.Plan.{round_of, answering_from, asked_of, exchanges_of, plan_of}
use Rattle.solo.specs.Claims.{Ready}
use Rattle.solo.proofs.RoundLaws.{round_smallest}
use Rattle.floor.specs.Runs.{floor_at}
use Rattle.agreement.specs.Words.{Answering, IdleAt, RowLeft, RoundLeft}
use Rattle.agreement.proofs.Boxes.{answering_means}
use Rattle.agreement.proofs.Stations.{idle_state}
use Rattle.agreement.proofs.Shares.{round_outranks}
use Rattle.agreement.specs.Demand.{trace_of}
use Rattle.floor.proofs.Reached.{New, size_at, department_at_lem, stations_at}
use Rattle.agreement.proofs.FreeRows.{row_left}

-- a set of boxes that are not away is no larger than the list of them
count_answering : (boxes : List StorageBox) (k b : ℕ) (set : ℕ → Bool) → ((j : ℕ) → j < k → set j ≡ true → (get_or boxes (b + j) box0).away ≡ false)
    → count set k ≤ length (answering_from k b boxes)
unfolding count answering_from
count_answering boxes zero b set h = omega arith
count_answering boxes (suc k) b set h =
    let rest = count_answering boxes k (b + 1) (λ j. set (suc j)) (λ j u t. let q : b + suc j ≡ b + 1 + j = omega arith in subst At q (h (suc j) (omega arith) t)) in
    by_test (λ (x : List ℕ). count set (suc k) ≤ length x) (get_or boxes b box0).away _ _
    (λ e. omega (arith, count_low k set, rest, none (set 0) (λ t. clash e (subst At first (h 0 (omega arith) t)))))
    (λ e. omega (arith, count_low k set, rest, at_most (set 0)))
  where
    At : ℕ → Type 0
    At c = (get_or boxes c box0).away ≡ false

    first : b + 0 ≡ b
    first = omega arith

    none : (t : Bool) → ¬ (t ≡ true) → indicator t ≡ 0
    none true n = absurd (n refl)
    none false n = refl

    at_most : (t : Bool) → indicator t ≤ 1
    at_most true = omega arith
    at_most false = omega arith

-- the words of the list, on the floor before the step at i
module _ (f : Floor) (l : List (List ℕ)) (new : New f) (z : Sound f) (s i : ℕ) where
  pub ready : s < f.m → IdleAt (trace_of f l) s i → Majority f.n (Answering (trace_of f l) i) → RowLeft (trace_of f l) (department_at f s) i → RoundLeft (trace_of f l) (department_at f s) s i → Ready (floor_at f l i) s
  ready place idle boxes row round = record {
    station = omega (arith, stations_at f l i);
    idle = idle_state f l new s i idle;
    round = omega (
      arith,
      (round_smallest (floor_at f l i) s).least round.round round.least
          (rw (department_at_lem f l s i) (round_outranks f l new (department_at f s) s i round)),
      round.most,
    );
    row = rw (department_at_lem f l s i) (row_left f l new z (department_at f s) i row);
    boxes = rw (size_at f l i) (le_trans boxes.large
        (count_answering (floor_at f l i).boxes f.n 0 boxes.set (λ j h t. subst (λ (b : ℕ). (get_or (floor_at f l i).boxes b box0).away ≡ false) (sym (zero-add j))
        (answering_means f l new j i (boxes.each j h t)))));
  }

-- Of the records of the plan, a delivery of a write answer is one of the attempt a.
abbrev Delivers : ℕ → List ℕ → Type 0
Delivers a r = (x b : ℕ) → command_of r ≡ Deliver Write x b → x ≡ a

abbrev Each : (List ℕ → Type 0) → List (List ℕ) → Type 0
Each P [] = Unit {0}
Each P (r ∷ l) = P r × Each P l

each_at : (P : List ℕ → Type 0) (l : List (List ℕ)) → Each P l → (i : ℕ) → i < length l → P (get_or l i [])
each_at P [] e i h = absurd (omega arith)
each_at P (r ∷ l) e zero h = e.0
each_at P (r ∷ l) e (suc i) h = each_at P l e.1 i (omega arith)

each_append : (P : List ℕ → Type 0) (l k : List (List ℕ)) → Each P l → Each P k → Each P (l ++ k)
each_append P [] k e g = g
each_append P (r ∷ l) k e g = (e.0, each_append P l k e.1 g)

-- and no other record of it than the first is a begin
abbrev pub NoBegin : List ℕ → Type 0
NoBegin r = (s round : ℕ) (v : Suit) → ¬ (command_of r ≡ Begin s round v)

delivers : (a : ℕ) (c : Command) → ((x b : ℕ) → c ≡ Deliver Write x b → x ≡ a) → Delivers a (encode_of c)
delivers a c d x b q = d x b (sym (decode_encode c) ∙ q)

exchanges_deliver : (a : ℕ) (p : Phase) (l : List ℕ) → Each (Delivers a) (exchanges p a l)
unfolding exchanges exchange
exchanges_deliver a p [] = tt
exchanges_deliver a p (b ∷ l) = (delivers a (Serve p a b) (λ x y q. cc), (delivers a (Deliver p a b) (λ x y q. cc), exchanges_deliver a p l))

abbrev is_begin : Command → Bool
is_begin (Begin s r v) = true
is_begin (Serve p a b) = false
is_begin (Deliver p a b) = false
is_begin (Stop b) = false
is_begin (Leave s) = false
is_begin (Return b) = false
is_begin Malformed = false

no_begin : (c : Command) → is_begin c ≡ false → NoBegin (encode_of c)
no_begin c h s r v e = clash (ap is_begin (sym (decode_encode c) ∙ e)) h

exchanges_no_begin : (a : ℕ) (p : Phase) (l : List ℕ) → Each NoBegin (exchanges p a l)
unfolding exchanges exchange
exchanges_no_begin a p [] = tt
exchanges_no_begin a p (b ∷ l) = (no_begin (Serve p a b) refl, (no_begin (Deliver p a b) refl, exchanges_no_begin a p l))

pub plan_no_begin : (g : Floor) (s : ℕ) (v : Suit) (i : ℕ) → suc i < length (plan_of g s v) → NoBegin (get_or (plan_of g s v) (suc i) [])
unfolding exchanges_of
plan_no_begin g s v i h =
    each_at NoBegin (exchanges_of g s)
    (each_append NoBegin (exchanges Read (row_taken g s) (asked_of g)) _ (exchanges_no_begin (row_taken g s) Read (asked_of g)) (exchanges_no_begin (row_taken g s) Write (asked_of g)))
    i (omega arith)

plan_each : (g : Floor) (s : ℕ) (v : Suit) → Each (Delivers (row_taken g s)) (plan_of g s v)
unfolding exchanges_of
plan_each g s v = (
  delivers (row_taken g s) (Begin s (round_of g s) v) (λ x b q. cc),
  each_append (Delivers (row_taken g s)) (exchanges Read (row_taken g s) (asked_of g)) _ (exchanges_deliver (row_taken g s) Read (asked_of g)) (exchanges_deliver (row_taken g s) Write (asked_of g)),
)

pub plan_delivers : (g : Floor) (s : ℕ) (v : Suit) (i : ℕ) → i < length (plan_of g s v) → Delivers (row_taken g s) (get_or (plan_of g s v) i [])
plan_delivers g s v = each_at (Delivers (row_taken g s)) (plan_of g s v) (plan_each g s v)
