-- The buffer that the plan is written into: what stands at its front, box by box.
use Prim.Native.Nat.{ℕ, zero, suc, ◌+◌, ◌*◌, ◌%◌, ◌<◌, ◌≤◌}
use native.Mathlib.Omega.{arith}
use mathlib.Core.Path.{◌≡◌, refl, sym, ap, ◌∙◌}
use mathlib.Core.Bool.{Bool, not}
use mathlib.Core.List.{List, [], ◌∷◌, ◌++◌, flatten, map, append_assoc, append-nil}
use lib.ListN.{length, get_or, take, length-take, length-append}
use Rattle.std.specs.List.{filter, range_with_len}
use Rattle.std.specs.Prelude.{Ok}
use Rattle.suits.specs.declared.Suit.{Suit}
use Rattle.base.specs.Numbers.{quorum}
use Rattle.base.specs.Bytes.{bytes_put}
use Rattle.base.specs.Records.{records_in}
use Rattle.base.proofs.Choices.{by_test}
use Rattle.base.proofs.RecordLaws.{joined_append, joined_length, all_eight, records_again}
use Rattle.register.specs.Register.{box0}
use Rattle.register.specs.declared.StorageBox.{StorageBox}
use Rattle.requests.specs.declared.Phase.{Phase}
use Rattle.requests.specs.declared.Phase.TheVariants.{Read, Write}
use Rattle.commands.specs.Commands.{encode_of}
use Rattle.commands.specs.declared.Command.TheVariants.{Begin}
use Rattle.plans.specs.Plans.{exchange, exchanges}
use Rattle.plans.proofs.ExchangeLaws.{exchange_taken}
use Rattle.floor.specs.Runs.{run_of, driven_in}
use Rattle.floor.specs.Soundness.{Sound}
use Rattle.floor.specs.Floors.{department_at}
use Rattle.floor.specs.Effects.{row_taken}
use Rattle.floor.proofs.FreeLaws.{next_most}
use Rattle.floor.specs.declared.Floor.{Floor}
use Rattle.floor.specs.declared.Ran.{Ran}
use Rattle.runs.specs.declared.Until.TheVariants.{End}
use Rattle.floor.proofs.SoundLaws.{sound_holds}
use Rattle.floor.proofs.RunCalls.{run_0, driven_whole}
use Rattle.solo.specs.Plan.{round_of, answering_from, lowest, asked_of, begin_of, exchanges_of}
use Rattle.solo.proofs.PlanRecords.{plan_rest}

-- the numbers from b on whose box is not away are those that answer
abbrev pub answers_at : (boxes : List StorageBox) (b : ℕ) → Bool
answers_at boxes b = not (get_or boxes b box0).away

answering_filtered : (k b : ℕ) (boxes : List StorageBox) → filter (answers_at boxes) (range_with_len b k) ≡ answering_from k b boxes
unfolding answering_from
answering_filtered zero b boxes = refl
answering_filtered (suc k) b boxes =
    let r = answering_filtered k (b + 1) boxes in
    by_test (λ (u : List ℕ). filter (answers_at boxes) (b ∷ range_with_len (b + 1) k) ≡ u) (get_or boxes b box0).away _ _ (λ e. rw e r)
    (λ e. rw e (ap (λ (l : List ℕ). b ∷ l) r))

pub lowest_filtered : (q : ℕ) (boxes : List StorageBox) (n : ℕ) → take q (filter (answers_at boxes) (range_with_len 0 n)) ≡ lowest q boxes n
unfolding lowest
lowest_filtered q boxes n = ap (take q) (answering_filtered n 0 boxes)

exchanges_append : (p : Phase) (a : ℕ) (xs ys : List ℕ) → exchanges p a (xs ++ ys) ≡ exchanges p a xs ++ exchanges p a ys
unfolding exchanges
exchanges_append p a [] ys = refl
exchanges_append p a (x ∷ xs) ys = ap (λ (l : List (List ℕ)). exchange p a x ++ l) (exchanges_append p a xs ys) ∙ sym (append_assoc (exchange p a x) (exchanges p a xs) (exchanges p a ys))

-- The loop's invariant: the exchanges with the boxes bs stand behind the first bytes.
pub record Writing (s : List ℕ) (at : ℕ) (p : Phase) (a : ℕ) (l : List ℕ) (end : ℕ) (bs : List ℕ) : Type 0 where
  pub same : length l ≡ length s
  pub place : end ≡ at + 16 * length bs
  pub bytes : take end l ≡ take at s ++ flatten (exchanges p a bs)

pub writing_none : (s : List ℕ) (at : ℕ) (p : Phase) (a : ℕ) → Writing s at p a s at []
unfolding flatten exchanges
writing_none s at p a = record { same = refl; place = omega arith; bytes = sym (append-nil (take at s)) }

one_exchange : (p : Phase) (a b : ℕ) → exchanges p a (b ∷ []) ≡ exchange p a b
unfolding exchanges
one_exchange p a b = append-nil (exchange p a b)

pub box_asked : {s : List ℕ} {at : ℕ} {p : Phase} {a : ℕ} {l : List ℕ} {end : ℕ} {bs : List ℕ} → Writing s at p a l end bs → (b : ℕ) (x : List ℕ) → end + 16 ≤ length l
    → length x ≡ length l → x ≡ bytes_put l end (flatten (exchange p a b)) → Writing s at p a x (end + 16) (bs ++ b ∷ [])
box_asked {s} {at} {p} {a} {l} {end} {bs} w b x fits es eb = record {
  same = es ∙ w.same;
  place = omega (arith, w.place, length-append bs (b ∷ []));
  bytes =
      ap (take (end + 16)) eb ∙ exchange_taken l end p a b fits ∙ ap (λ (u : List ℕ). u ++ flatten (exchange p a b)) w.bytes
      ∙ append_assoc (take at s) (flatten (exchanges p a bs)) (flatten (exchange p a b))
      ∙ ap (λ (u : List ℕ). take at s ++ u)
      (sym (ap flatten (exchanges_append p a bs (b ∷ []) ∙ ap (λ (u : List (List ℕ)). exchanges p a bs ++ u) (one_exchange p a b)) ∙ joined_append (exchanges p a bs) (exchange p a b)));
}

map_same : (bs : List ℕ) → map (λ (b : ℕ). b) bs ≡ bs
map_same [] = refl
map_same (b ∷ bs) = ap (λ (l : List ℕ). b ∷ l) (map_same bs)

module _ {s : List ℕ} {at : ℕ} {p : Phase} {a : ℕ} {l : List ℕ} {end : ℕ} {bs : List ℕ} (w : Writing s at p a l end bs) (q n : ℕ) (e : q ≡ quorum n) where
  -- one of the q boxes is left, and there is room for it
  pub room_left : (xs : List ℕ) → at + 16 * quorum n ≤ length s → length bs < length (take q xs) → end + 16 ≤ length l
  room_left xs room h = omega (arith, w.place, w.same, length-take q xs, h, room, e)

  -- none is left
  pub writing_all : (boxes : List StorageBox) → map (λ (b : ℕ). b) bs ≡ take q (filter (answers_at boxes) (range_with_len 0 n))
      → (end ≤ at + 16 * quorum n) × (take end l ≡ take at s ++ flatten (exchanges p a (lowest (quorum n) boxes n)))
  writing_all boxes h =
      let xs = filter (answers_at boxes) (range_with_len 0 n) in
      let all : bs ≡ take q xs = sym (map_same bs) ∙ h in
      let these : bs ≡ lowest (quorum n) boxes n = all ∙ lowest_filtered q boxes n ∙ ap (λ (k : ℕ). lowest k boxes n) e in
      (omega (arith, w.place, ap length all, length-take q xs, e), w.bytes ∙ ap (λ (u : List ℕ). take at s ++ flatten (exchanges p a u)) these)

-- Both phases are written, with the places m and end behind them: the run of the begin and of the records there is that of the plan.
module _ (f : Floor) (s : ℕ) (l l' : List ℕ) (m end a : ℕ) where
  plan_written : a ≡ row_taken f s → take m l ≡ flatten (exchanges Read a (asked_of f)) → take end l' ≡ take m l ++ flatten (exchanges Write a (asked_of f))
      → take end l' ≡ flatten (exchanges_of f s)
  unfolding exchanges_of
  plan_written e r w = w ∙ rw (r, e) (sym (joined_append (exchanges Read (row_taken f s) (asked_of f)) (exchanges Write (row_taken f s) (asked_of f))))

module _ (f : Floor) (s : ℕ) (v : Suit) (round : ℕ) (r l : List ℕ) (x : Ran) where
  plan_run : Sound f → round ≡ round_of f s → r ≡ encode_of (Begin s round v) → l ≡ flatten (exchanges_of f s)
      → x ≡ driven_in f r l → x ≡ run_of End f (begin_of f s v) (exchanges_of f s)
  plan_run z hr er el ex =
      let all = plan_rest f s (omega (arith, next_most f (department_at f s))) (omega (arith, z.box_most)) in
      let whole : length l % 8 ≡ 0 = omega (arith, ap length el, joined_length (exchanges_of f s) (all_eight (exchanges_of f s) all)) in
      ex ∙ sym (driven_whole f l {A = ℕ} (Ok 0) (run_0 f l (sound_holds f z) whole) r 0 refl (run_of End f r (records_in l)) refl)
      ∙ rw (er, hr, el, records_again (exchanges_of f s) all)

-- the records of both phases, written and run behind the begin
pub plan_ran : (f : Floor) (s : ℕ) (v : Suit) (round a m end : ℕ) (r l l' : List ℕ) (x : Ran) → Sound f → round ≡ round_of f s → a ≡ row_taken f s → r ≡ encode_of (Begin s round v)
    → take m l ≡ flatten (exchanges Read a (asked_of f)) → take end l' ≡ take m l ++ flatten (exchanges Write a (asked_of f)) → x ≡ driven_in f r (take end l')
    → x ≡ run_of End f (begin_of f s v) (exchanges_of f s)
plan_ran f s v round a m end r l l' x z hr ha er reads writes ex =
    plan_run f s v round r (take end l') x z hr er (plan_written f s l l' m end a ha reads writes) ex
