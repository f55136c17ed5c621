-- An attempt driven alone on a floor where it has begun: step by step, exchange by exchange and phase by phase, to its end after 4q + 1
-- steps.
use Prim.Native.Nat.{ℕ, ◌+◌, ◌*◌, ◌≤◌, ◌<◌}
use native.Mathlib.Omega.{arith}
use mathlib.Core.Path.{◌≡◌, refl}
use mathlib.Core.Bool.{true, false}
use mathlib.Core.List.{List, [], ◌∷◌, ◌++◌, append-nil}
use lib.ListN.{length, get_or}
use Rattle.suits.specs.declared.Suit.{Suit}
use Rattle.base.specs.Choice.{when◌then◌else◌}
use Rattle.base.specs.Numbers.{quorum}
use Rattle.base.proofs.Cases.{clash, by_cases, not_true_false}
use Rattle.base.proofs.Choices.{by_test}
use Rattle.register.specs.Register.{box0}
use Rattle.requests.specs.declared.Verdict.TheVariants.{No}
use Rattle.requests.proofs.RequestLaws.{verdict_no, read_no}
use Rattle.requests.specs.declared.Phase.{Phase}
use Rattle.requests.specs.declared.Phase.TheVariants.{Read, Write}
use Rattle.commands.specs.Commands.{command_of, encode_of}
use Rattle.commands.specs.Outcomes.{is_refused}
use Rattle.commands.specs.declared.Command.{Command}
use Rattle.commands.specs.declared.Command.TheVariants.{Serve, Deliver}
use Rattle.commands.specs.declared.Outcome.{Outcome}
use Rattle.commands.specs.declared.Outcome.TheVariants.{Served, Decided, Aborted}
use Rattle.commands.proofs.Encodings.{decode_encode}
use Rattle.attempts.specs.Rows.{requests_of}
use Rattle.runs.specs.Runs.{ran_from, stops_by}
use Rattle.floor.specs.Floors.{row_at}
use Rattle.floor.specs.Effects.{stepped, after_serve, verdict_on}
use Rattle.floor.specs.Step.{apply_of}
use Rattle.floor.specs.Runs.{stops_at, run_from}
use Rattle.floor.specs.declared.Floor.{Floor}
use Rattle.floor.specs.declared.Ran.{Ran}
use Rattle.runs.specs.declared.Until.TheVariants.{End}
use Rattle.plans.specs.Plans.{exchange, exchanges}
use Rattle.solo.proofs.Driven.{Attempt, Driven, RequestsAt, RequestsSent, served, served_driven, served_sent, all_said, all_said_lem, more, more_driven, more_requests, full, aborts, read_last, read_last_driven, read_last_writes, write_decides}

-- A run that is over, with its number of steps: the station has decided, as it does where its rank is the highest; or the attempt has
-- aborted with the q-th write answer, or with the k-th read answer.
pub data Over (t : Attempt) : Outcome → ℕ → Type 0 where
  has_decided : (v : Suit) → Over t (Decided v) (4 * quorum t.n + 1)
  has_aborted : t.highest ≡ false → Over t (Aborted t.number) (4 * quorum t.n + 1)
  was_outranked : t.highest ≡ false → (k : ℕ) → 1 ≤ k → k ≤ quorum t.n → Over t (Aborted t.number) (2 * k + 1)

abbrev pub AtEnd : (t : Attempt) (x : Ran) → Type 0
AtEnd t x = Over t x.outcome x.accepted

-- the records rs, after c accepted steps that left the floor g, lead there; no record does not
abbrev pub Leads : (t : Attempt) (c : ℕ) (g : Floor) (rs : List (List ℕ)) → Type 0
Leads t c g [] = ⊥
Leads t c g (r ∷ rs) = AtEnd t (run_from End c g (command_of r) rs)

module _ (t : Attempt) (c : ℕ) (g h : Floor) (k : Command) (o : Outcome) (e : apply_of g k ≡ stepped h o) where
  -- an accepted step behind which the run goes on
  pub step_on : (rs : List (List ℕ)) → stops_at End o ≡ false → Leads t (c + 1) h rs → Leads t c g (encode_of k ∷ rs)
  unfolding ran_from
  step_on [] s p = absurd p
  step_on (r ∷ rs) s p = rw (decode_encode k, e) (by_test (AtEnd t) (stops_at End o) _ _ (λ i. clash i s) (λ _. p))

  -- one behind which it ends
  counted : is_refused o ≡ false → Over t o (c + 1) → Over t o (when is_refused o then c else c + 1)
  counted a s = by_test (Over t o) (is_refused o) c (c + 1) (λ i. clash i a) (λ _. s)

  step_last : (rs : List (List ℕ)) → is_refused o ≡ false → stops_at End o ≡ true → Over t o (c + 1) → Leads t c g (encode_of k ∷ rs)
  unfolding ran_from
  step_last [] a q s = rw (decode_encode k, e) (counted a s)
  step_last (r ∷ rs) a q s = rw (decode_encode k, e) (by_test (AtEnd t) (stops_at End o) _ _ (λ _. counted a s) (λ i. clash q i))

-- Between two exchanges of a phase: k of them are made, the boxes from lo on were not asked.
pub record AtPhase (t : Attempt) (p : Phase) (lo k : ℕ) (g : Floor) : Type 0 where
  pub floor : Driven t p lo g
  pub requests : RequestsAt t lo k (requests_of p (row_at g t.number))

-- one exchange more, before the q-th and as the q-th
module _ (t : Attempt) (lo k c b : ℕ) (l : lo ≤ b) (h : b < t.n) (o : (get_or t.boxes b box0).away ≡ false) (g : Floor) where
  module _ (p : Phase) (r : AtPhase t p lo k g) where
    abbrev next : Floor
    next = after_serve g p t.number b

    next_driven : Driven t p (b + 1) next
    next_driven = served_driven p r.floor r.requests b l h o

    next_sent : RequestsSent t b k (requests_of p (row_at next t.number))
    next_sent = served_sent p r.floor r.requests b l h o

    exchange_served : (rs : List (List ℕ)) → Leads t (c + 1) next (encode_of (Deliver p t.number b) ∷ rs) → Leads t c g (exchange p t.number b ++ rs)
    unfolding exchange stops_by when◌then◌else◌
    exchange_served rs = step_on t c g next (Serve p t.number b) (Served t.number) (served p r.floor r.requests b l h o) _ refl

    -- an answer that says no and ends the phase, as none does where the attempt's rank is the highest
    stops : (rs : List (List ℕ)) → verdict_on next p t.number b ≡ No → all_said p next_driven h next_sent ≡ false
        → (t.highest ≡ false → Over t (Aborted t.number) (c + 1 + 1)) → Leads t c g (exchange p t.number b ++ rs)
    unfolding stops_by when◌then◌else◌
    stops rs q e s =
        let u = not_true_false t.highest (λ i. clash (all_said_lem p next_driven h next_sent i) e) in
        exchange_served rs (step_last t (c + 1) next _ (Deliver p t.number b) _ (aborts p next_driven h next_sent q) rs refl refl (s u))

    -- one before the q-th that does not end it
    goes_on : (rs : List (List ℕ)) → k + 1 < quorum t.n → (p ≡ Read → all_said p next_driven h next_sent ≡ true)
        → ((y : Floor) → AtPhase t p (b + 1) (k + 1) y → Leads t (c + 1 + 1) y rs) → Leads t c g (exchange p t.number b ++ rs)
    unfolding stops_by when◌then◌else◌
    goes_on rs q e w =
        exchange_served rs
        (step_on t (c + 1) next _ (Deliver p t.number b) _ (more p next_driven h next_sent q e) rs refl
        (w _ (record { floor = more_driven p next_driven h next_sent q e; requests = more_requests p next_driven h next_sent q })))

  -- before the q-th an answer may end the reads
  goes_more : (p : Phase) (rs : List (List ℕ)) → AtPhase t p lo k g → k + 1 < quorum t.n → (p ≡ Read → t.highest ≡ false → Over t (Aborted t.number) (c + 1 + 1))
      → ((y : Floor) → AtPhase t p (b + 1) (k + 1) y → Leads t (c + 1 + 1) y rs) → Leads t c g (exchange p t.number b ++ rs)
  goes_more Read rs r q s w =
      by_cases (all_said Read (next_driven Read r) h (next_sent Read r))
      (λ e. goes_on Read r rs q (λ _. e) w)
      (λ e. stops Read r rs (read_no _ _ e) e (s refl))
  goes_more Write rs r q s w = goes_on Write r rs q (λ e. absurd (let z : ◌≡◌ {A = ℕ} 0 1 = cc in omega arith)) w

  reads_last : (rs : List (List ℕ)) → AtPhase t Read lo k g → k + 1 ≡ quorum t.n → (t.highest ≡ false → Over t (Aborted t.number) (c + 1 + 1))
      → ((y : Floor) → AtPhase t Write 0 0 y → Leads t (c + 1 + 1) y rs) → Leads t c g (exchange Read t.number b ++ rs)
  unfolding stops_by when◌then◌else◌
  reads_last rs r q v w =
      let x = next_driven Read r in
      let s = next_sent Read r in
      by_cases (all_said Read x h s)
      (λ e. exchange_served Read r rs
      (step_on t (c + 1) (next Read r) _ (Deliver Read t.number b) _ (read_last x h s q e) rs refl
      (w _ (record { floor = read_last_driven x h s q e; requests = read_last_writes x h s q e }))))
      (λ e. stops Read r rs (read_no _ _ e) e v)

  writes_last : AtPhase t Write lo k g → k + 1 ≡ quorum t.n → c + 1 + 1 ≡ 4 * quorum t.n + 1 → Leads t c g (exchange Write t.number b ++ [])
  unfolding stops_by when◌then◌else◌
  writes_last r q n =
      let x = next_driven Write r in
      let s = next_sent Write r in
      by_cases (all_said Write x h s)
      (λ e. exchange_served Write r []
      (step_last t (c + 1) (next Write r) _ (Deliver Write t.number b) _ (write_decides x h s q e) [] refl refl (rw n (has_decided _))))
      (λ e. stops Write r [] (verdict_no _ _ Write (full Write x h s q) e) e (λ u. rw n (has_aborted u)))

-- boxes in ascending order from p on that are not away
abbrev pub Ascending : Attempt → ℕ → List ℕ → Type 0
Ascending t lo [] = Unit {0}
Ascending t lo (b ∷ bs) = (lo ≤ b) × (b < t.n) × ((get_or t.boxes b box0).away ≡ false) × Ascending t (b + 1) bs

-- a phase that starts after `start` steps: an exchange with each of q boxes, of which `last` is the q-th, and then the rest; where the
-- attempt's rank is not the highest it may end before
module _ (t : Attempt) (p : Phase) (start : ℕ) (rest : List (List ℕ))
    (early : (k : ℕ) → k + 1 < quorum t.n → p ≡ Read → t.highest ≡ false → Over t (Aborted t.number) (start + 2 * k + 1 + 1))
    (last : (lo k b : ℕ) → lo ≤ b → b < t.n → (get_or t.boxes b box0).away ≡ false → (g : Floor) → AtPhase t p lo k g → k + 1 ≡ quorum t.n
    → Leads t (start + 2 * k) g (exchange p t.number b ++ rest)) where
  phase_driven : (bs : List ℕ) (b lo k : ℕ) (g : Floor) → k + length (b ∷ bs) ≡ quorum t.n → Ascending t lo (b ∷ bs) → AtPhase t p lo k g
      → Leads t (start + 2 * k) g (exchanges p t.number (b ∷ bs) ++ rest)
  unfolding exchanges exchange
  phase_driven [] b lo k g h u r = last lo k b u.0 u.1 u.2 g r (omega arith)
  phase_driven (b' ∷ bs) b lo k g h u r =
      let e : start + 2 * k + 1 + 1 ≡ start + 2 * (k + 1) = omega arith in
      goes_more t lo k (start + 2 * k) b u.0 u.1 u.2 g p (exchanges p t.number (b' ∷ bs) ++ rest) r (omega arith) (early k (omega arith))
      (λ y a. rw e (phase_driven bs b' (b + 1) (k + 1) y (omega arith) u.3 a))

-- both phases, after the begin
module _ (t : Attempt) (bs : List ℕ) (b : ℕ) (h : length (b ∷ bs) ≡ quorum t.n) (u : Ascending t 0 (b ∷ bs)) where
  writes_driven : (c : ℕ) (g : Floor) → c ≡ 1 + 2 * quorum t.n → AtPhase t Write 0 0 g → Leads t c g (exchanges Write t.number (b ∷ bs))
  writes_driven c g e r =
      let start : c + 2 * 0 ≡ c = omega arith in
      rw (start, append-nil) at
      (phase_driven t Write c [] (λ k l e. absurd (let z : ◌≡◌ {A = ℕ} 0 1 = cc in omega arith)) (λ lo k j l i o y a q. writes_last t lo k (c + 2 * k) j l i o y a q (omega arith)) bs b 0 0 g (omega arith) u r)

  -- the read answer behind k others
  outranked_by : (k : ℕ) → k < quorum t.n → t.highest ≡ false → Over t (Aborted t.number) (1 + 2 * k + 1 + 1)
  outranked_by k l i = let n : 1 + 2 * k + 1 + 1 ≡ 2 * (k + 1) + 1 = omega arith in rw n (was_outranked i (k + 1) (omega arith) (omega arith))

  pub both_driven : (g : Floor) → AtPhase t Read 0 0 g → Leads t 1 g (exchanges Read t.number (b ∷ bs) ++ exchanges Write t.number (b ∷ bs))
  both_driven g r =
      phase_driven t Read 1 (exchanges Write t.number (b ∷ bs)) (λ k l _. outranked_by k (omega arith))
      (λ lo k j l i o y a q. reads_last t lo k (1 + 2 * k) j l i o y _ a q (outranked_by k (omega arith)) (λ z w. writes_driven _ z (omega arith) w)) bs b 0 0 g (omega arith) u r
