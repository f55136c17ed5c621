-- A run by positions: its history, what it shows, and so its safety.
use Prim.Native.Nat.{ℕ, zero, suc, ◌+◌, ◌≤◌, ◌<◌}
use native.Mathlib.Nat.{eq-or-lt_of_le}
use native.Mathlib.Decide.{ℕ_discrete, dec_le}
use native.Mathlib.Omega.{arith}
use mathlib.Core.Path.{◌≡◌, refl, sym, ap, subst, ◌∙◌}
use mathlib.Core.Logic.{◌⊎◌, inl, inr}
use mathlib.Core.Bool.{Bool, true, false}
use mathlib.Core.List.Memᴰ
use mathlib.Core.List.{[], ◌∷◌, Memᴰ}
use Rattle.base.specs.Numbers.{rank_of}
use Rattle.base.specs.Quorum.{Majority}
use Rattle.base.proofs.Cases.{clash, up_to}
use Rattle.base.specs.Positions.{Before}
use Rattle.base.proofs.QuorumLaws.{majority_map}
use Rattle.requests.specs.declared.Phase.{Phase}
use Rattle.requests.specs.declared.Phase.TheVariants.{Read, Write}
use Rattle.protocol.specs.View.{Chosen}
use Rattle.protocol.specs.Claims.{Claims}
use Rattle.protocol.specs.Trace.{Event, read, nack, issued, took, refused, note, view, Granted, by_read, by_write, Outranked}
use Rattle.protocol.specs.Trace as theory
use Rattle.protocol.proofs.Theory.{theory}
use Rattle.requests.specs.declared.Stage.{Stage}
use Rattle.requests.specs.declared.Stage.TheVariants.{Unissued, Waiting, Answered}
use Rattle.machine.specs.Machine.{Machine, Label, Row, Same, RowMoved, began, reading, writing}
use Rattle.machine.specs.Machine as machine
use Rattle.machine.specs.Rules.{Rule, Made, Fits}
use Rattle.machine.specs.Runs.{Run, Attempt, Named, RowOf, DecidedAt, OfferedAt, OfferedBefore, HeldAt, GrantedAt, OutrankedAt, TakenAt, IssuedAt, SafetyTheorem}
use Rattle.machine.proofs.Shows.{Note, begun, nothing, History, Begun, OfferedIn, SeatShows, Shows}
use Rattle.base.proofs.Positions.{later, now}
use Rattle.machine.proofs.Steps.{event_of, step_to, decided_chosen, Beaten, aborted_beaten, heard_same}

module _ {A O : Type 0} {n : ℕ} {R : Rule A O} (F : Fits R) (k : Run n R) where
  abbrev event_at : ℕ → Event A (Note O)
  event_at i = event_of (k.at i) (k.said i)

  -- what happened before the step at i
  pub history : ℕ → History A O
  history zero = []
  history (suc i) = event_at i ∷ history i

  happened : (e : Event A (Note O)) (i : ℕ) → Memᴰ e (history i) → Before (λ j. e ≡ event_at j) i
  unfolding history
  happened e zero m = absurd (Memᴰ.not-nil m)
  happened e (suc i) m = elim (Memᴰ.cases_cons m) [ inl q ↦ now i q | inr o ↦ later (happened e i o) ]

  -- what happened before i happened before every later position
  pub still_happened : {e : Event A (Note O)} (i t : ℕ) → i ≤ t → Memᴰ e (history i) → Memᴰ e (history t)
  unfolding history
  still_happened {e} i zero h m = let q : i ≡ 0 = omega arith in subst (λ (j : ℕ). Memᴰ e (history j)) q m
  still_happened {e} i (suc t) h m = elim (eq-or-lt_of_le h) [
    | inl q ↦ subst (λ (j : ℕ). Memᴰ e (history j)) q m
    | inr o ↦ Memᴰ.tail (still_happened i t (omega arith) m)
  ]

  record Reached (i : ℕ) : Type 0 where
    run : theory.Run n R.Follows (OfferedIn R) (k.at i).box (history i)
    shows : Shows R (k.at i) (history i)

  reached : (i : ℕ) → Reached i
  unfolding history
  reached zero = let x = k.new in record {
    run = theory.new x.reads x.writes;
    shows = record {
      boxes = λ b _. x.value b;
      rows = λ a h. absurd (x.unused a h);
      distinct = λ a c h. absurd (x.unused a h);
      begun = λ a h. absurd (x.unused a h);
      unbegun = λ r h e m. absurd (Memᴰ.not-nil m);
      seats = λ j. rw (x.seats j) tt;
    };
  }
  reached (suc i) = let r = reached i in let g = step_to n R F r.shows (k.step i) in record { run = theory.next r.run g.step; shows = g.shows }

  claims : (i : ℕ) → Claims n R.Follows (OfferedIn R) (k.at i).box (history i)
  claims i = theory A (Note O) n R.Follows (OfferedIn R) F.preorder (λ e l v. F.more (Begun l) (Begun (e ∷ l)) (λ o. Memᴰ.tail) v) (k.at i).box (history i) (reached i).run

  -- what an event came of
  abbrev Cause : ℕ → Event A (Note O) → Type 0
  Cause j (read r b w v) = GrantedAt k r b j
  Cause j (nack r b) = Unit {0}
  Cause j (issued r v) = IssuedAt k r v j
  Cause j (took r b) = GrantedAt k r b j
  Cause j (refused r b) = Unit {0}
  Cause j (note (begun o)) = OfferedAt k o j
  Cause j (note nothing) = Unit {0}

  cause : (j : ℕ) {t : Label A O} → machine.Step n R.Makes (k.at j) (k.at (suc j)) t → k.said j ≡ t → Cause j (event_of (k.at j) t)
  cause j (machine.begin {s = s} {round = round} {a = a} boxes h _ u m edit) e = record { station = s; round = round; row = a; said = e }
  cause j (machine.answer {a = a} edit m same) e = record { phase = Read; row = a; used = m.mine; said = e; rank = refl }
  cause j (machine.tell high boxes m same) e = tt
  cause j (machine.take {a = a} waits p q edit m same) e = record { phase = Write; row = a; used = m.mine; said = e; rank = refl }
  cause j (machine.refuse waits high boxes m same) e = tt
  cause j (machine.hear h boxes m same) e = tt
  cause j (machine.issue {a = a} {b = b} h boxes seat m g top makes edit) e = record { row = a; box = b; said = e; rank = refl }
  cause j (machine.decide h boxes seat m g edit) e = tt
  cause j (machine.abort h boxes m d edit) e = tt
  cause j (machine.leave boxes rows edit) e = tt
  cause j (machine.rest boxes rows same) e = tt

  pub caused : (e : Event A (Note O)) (i : ℕ) → Memᴰ e (history i) → Before (λ j. Cause j e) i
  caused e i m = let x = happened e i m in record { at = x.at; earlier = x.earlier; holds = subst (Cause x.at) (sym x.holds) (cause x.at (k.step x.at) refl) }

  granted_before : (i r b : ℕ) → Granted (history i) r b → Before (GrantedAt k r b) i
  granted_before i r b (by_read {w = w} {v = v} m) = caused (read r b w v) i m
  granted_before i r b (by_write m) = caused (took r b) i m

  -- a value decided at i was chosen, and stays so
  chosen_at : (i t : ℕ) (v : A) → i ≤ t → (d : DecidedAt k v i) → Chosen n (view (OfferedIn R) (k.at t).box (history t)) ((k.at i).row d.row).rank v
  chosen_at i t v h d =
      let c = decided_chosen n R F (reached i).shows d.row d.box v (subst (machine.Step n R.Makes (k.at i) (k.at (suc i))) d.said (k.step i)) in
      record { issued = still_happened i t h c.issued; taken = majority_map (λ b m. still_happened i t h m) c.taken }

  pub agreement : (i j : ℕ) (u v : A) → DecidedAt k u i → DecidedAt k v j → R.Follows u v ⊎ R.Follows v u
  agreement i j u v d e =
      let c = chosen_at i (i + j) u (omega arith) d in
      let g = chosen_at j (i + j) v (omega arith) e in
      elim (dec_le ((k.at i).row d.row).rank ((k.at j).row e.row).rank) [
        | yes h ↦ inl ((claims (i + j)).agreement _ _ u v c g h)
        | no h ↦ inr ((claims (i + j)).agreement _ _ v u g c (omega arith))
      ]

  -- what was issued is made of offers begun before
  offered : (i r : ℕ) (v : A) → Memᴰ (issued r v) (history i) → OfferedBefore k v i
  offered i r v m = F.more (Begun (history i)) (λ o. Before (OfferedAt k o) i) (λ o. caused (note (begun o)) i) v ((claims i).validity r v m)

  validity : (i : ℕ) (v : A) → DecidedAt k v i → OfferedBefore k v i
  validity i v d = offered i _ v (chosen_at i i v (omega arith) d).issued

  outranked_by : (i r : ℕ) (p : Phase) (c : ℕ) → 0 < r → Beaten (history i) r p c → Outranked (history i) r c
  outranked_by i r Read c h m = (claims i).nack_outranked r c m
  outranked_by i r Write c h m = (claims i).outranked r c h m.0 m.1

  -- the row of a step that aborts
  aborts_in : {x y : Machine A O} {p : Phase} {a b : ℕ} → machine.Step n R.Makes x y (machine.aborted p a b) → x.Used a
  aborts_in (machine.abort h boxes m d edit) = m.mine

  abort : (i : ℕ) (p : Phase) (a b : ℕ) → k.said i ≡ machine.aborted p a b → OutrankedAt k ((k.at i).row a).rank i
  abort i p a b e =
      let q = subst (machine.Step n R.Makes (k.at i) (k.at (suc i))) e (k.step i) in
      let c = aborted_beaten n R F (reached i).shows p a b q in
      let o = outranked_by i ((k.at i).row a).rank p c.0 ((reached i).shows.rows a (aborts_in q)).positive c.1 in
      record { rank = o.rank; box = c.0; higher = o.higher; granted = granted_before i o.rank c.0 o.granted }

  -- what was issued at i is noted from then on
  issued_noted : (i z r : ℕ) (v : A) → i < z → IssuedAt k r v i → Memᴰ (issued r v) (history z)
  unfolding history
  issued_noted i z r v h d = still_happened (suc i) z (omega arith) (Memᴰ.head (rw d.said (ap (λ (w : ℕ). issued w v) (sym d.rank))))

  settled : (t i j s r : ℕ) (u v : A) → Majority n (λ b. Before (TakenAt k s b) t) → IssuedAt k s u i → IssuedAt k r v j → s < r → R.Follows u v
  unfolding history
  settled t i j s r u v m c d h =
      let z = t + suc (i + j) in
      (claims z).settled s r u v (record {
        issued = issued_noted i z s u (omega arith) c;
        taken = majority_map (λ b o. still_happened (suc o.at) z (omega (arith, o.earlier)) (Memᴰ.head (rw o.holds.said (ap (λ (w : ℕ). took w b) (sym o.holds.rank))))) m;
      }) (issued_noted j z r v (omega arith) d) h

  row_same : {w z : Row A O} → z ≡ w → Same w z
  row_same e = record { station = ap (λ (x : Row A O). x.station) e; rank = ap (λ (x : Row A O). x.rank) e; offer = ap (λ (x : Row A O). x.offer) e }

  -- A row in use after a step: the step began its attempt, or it was in use before and is the same attempt's.
  record Opens (y : Machine A O) (t : Label A O) (a : ℕ) : Type 0 where
    station : ℕ
    round : ℕ
    offer : O
    said : t ≡ began station round offer a
    owner : (y.row a).station ≡ station
    rank : (y.row a).rank ≡ rank_of round station
    made : (y.row a).offer ≡ offer

  record Stays (x y : Machine A O) (t : Label A O) (a : ℕ) : Type 0 where
    used : x.Used a
    same : Same (x.row a) (y.row a)
    other : (s round : ℕ) (o : O) → ¬ (t ≡ began s round o a)

  module _ {x y : Machine A O} {t : Label A O} (not : (s round a : ℕ) (o : O) → ¬ (t ≡ began s round o a)) (a : ℕ) where
    moved_stays : {c : ℕ} {C : Row A O → Row A O → Type 0} → RowMoved x y c C → Same (x.row c) (y.row c) → y.Used a → Opens y t a ⊎ Stays x y t a
    moved_stays {c} m q h = inr (record {
      used = m.used a h;
      same = elim (ℕ_discrete a c) [ yes p ↦ subst (λ (j : ℕ). Same (x.row j) (y.row j)) (sym p) q | no p ↦ row_same (m.same a p) ];
      other = λ s r o. not s r a o;
    })

    rows_stay : machine.SameRows x y → y.Used a → Opens y t a ⊎ Stays x y t a
    rows_stay m h = inr (record { used = m.used a h; same = row_same (m.same a h); other = λ s r o. not s r a o })

  -- nothing but a begin says began
  abbrev is_began : Label A O → Bool
  is_began (began s round o a) = true
  is_began (machine.served p a b ok) = false
  is_began (machine.heard p a b) = false
  is_began (machine.issued a b v) = false
  is_began (machine.decided a b v) = false
  is_began (machine.aborted p a b) = false
  is_began (machine.left s) = false
  is_began machine.quiet = false

  not_began : {t : Label A O} → is_began t ≡ false → (s round a : ℕ) (o : O) → ¬ (t ≡ began s round o a)
  not_began e s round a o q = clash (ap is_began q) e

  row_from : {x y : Machine A O} {t : Label A O} → machine.Step n R.Makes x y t → (a : ℕ) → y.Used a → Opens y t a ⊎ Stays x y t a
  row_from (machine.begin {s = s} {round = round} {a = c} {o = o} boxes h _ u m edit) a k = elim (ℕ_discrete a c) [
    | yes q ↦ inl (record { station = s; round = round; offer = o; said = ap (began s round o) (sym q); owner = rw q m.taken.station; rank = rw q m.taken.rank; made = rw q m.taken.offer })
    | no q ↦ inr (record {
      used = m.used a k q;
      same = row_same (m.same a q);
      other = λ s r o e. q (cc (e));
    })
  ]
  row_from (machine.answer edit m same) a k = moved_stays (not_began refl) a m m.moved.same k
  row_from (machine.tell high boxes m same) a k = moved_stays (not_began refl) a m m.moved.same k
  row_from (machine.take waits p q edit m same) a k = moved_stays (not_began refl) a m m.moved.same k
  row_from (machine.refuse waits high boxes m same) a k = moved_stays (not_began refl) a m m.moved.same k
  row_from {x} {y} (machine.hear {p = p} {a = c} {b = b} h boxes m same) a k = moved_stays (not_began refl) a m (heard_same p b (x.row c) (y.row c) m.moved).0 k
  row_from (machine.issue h boxes seat m g top makes edit) a k = moved_stays (not_began refl) a m m.moved.same k
  row_from (machine.decide h boxes seat m g edit) a k = moved_stays (not_began refl) a m m.moved.same k
  row_from {x} {y} (machine.abort {p = p} {a = c} {b = b} h boxes m d edit) a k = moved_stays (not_began refl) a m (heard_same p b (x.row c) (y.row c) m.moved).0 k
  row_from (machine.leave boxes rows edit) a k = rows_stay (not_began refl) a rows k
  row_from (machine.rest boxes rows same) a k = rows_stay (not_began refl) a rows k

  named_more : {x : Attempt k} {i : ℕ} → ((s round : ℕ) (o : O) → ¬ (k.said i ≡ began s round o x.number)) → Named k x i → Named k x (suc i)
  named_more {x} {i} d m = record {
    earlier = omega (arith, m.earlier);
    last = λ j s r o h u e. elim (up_to u) [ inl q ↦ d s r o (ap k.said (sym q) ∙ e) | inr q ↦ m.last j s r o h q e ];
  }

  row_at_lem : (i a : ℕ) → (k.at i).Used a → RowOf k i a
  row_at_lem zero a h = absurd (k.new.unused a h)
  row_at_lem (suc i) a h = elim (row_from (k.step i) a h) [
    | inl b ↦ record {
      attempt = record { at = i; station = b.station; round = b.round; offer = b.offer; number = a; begun = b.said };
      number = refl;
      named = record { earlier = omega arith; last = λ j s r o p q. absurd (omega arith) };
      station = sym b.owner;
      rank = sym b.rank;
      offer = sym b.made;
    }
    | inr u ↦ (
        let o = row_at_lem i a u.used in
        record {
          attempt = o.attempt;
          number = o.number;
          named = named_more (λ s r v e. u.other s r v (subst (λ (c : ℕ). k.said i ≡ began s r v c) o.number e)) o.named;
          station = o.station ∙ sym u.same.station;
          rank = o.rank ∙ sym u.same.rank;
          offer = o.offer ∙ sym u.same.offer;
        })
  ]

  -- a request that was not issued
  unissued : (g : Stage) → ¬ (¬ (g ≡ Unissued)) → g ≡ Unissued
  unissued Unissued n = refl
  unissued Waiting n = absurd (n (λ e. let q : ◌≡◌ {A = ℕ} 0 1 = cc in omega arith))
  unissued Answered n = absurd (n (λ e. let q : ◌≡◌ {A = ℕ} 0 1 = cc in omega arith))

  reads : (i j a : ℕ) → ((k.at i).station j).seat ≡ reading a → (k.at i).Used a × (((k.at i).row a).station ≡ j) × ((b : ℕ) → (((k.at i).row a).write.slot b).stage ≡ Unissued)
  reads i j a e =
      let s = (reached i).shows in
      let v = subst (SeatShows R (k.at i) (history i) j) e (s.seats j) in
      (v.0, v.1, λ b. unissued _ (λ n. v.2 _ ((s.rows a v.0).writes.issue b n) refl))

  writes : (i j a : ℕ) → ((k.at i).station j).seat ≡ writing a → (k.at i).Used a × (((k.at i).row a).station ≡ j)
  writes i j a e = let v = subst (SeatShows R (k.at i) (history i) j) e ((reached i).shows.seats j) in (v.0, v.1)

  received : (i a b : ℕ) (p : Phase) → (k.at i).Used a → (machine.asked_of p ((k.at i).row a)).heard b ≡ true → ((machine.asked_of p ((k.at i).row a)).slot b).stage ≡ Answered
  received i a b Read u = ((reached i).shows.rows a u).reads.received b
  received i a b Write u = ((reached i).shows.rows a u).writes.received b

  held : (i b : ℕ) → HeldAt k ((k.at i).box b).write_rank ((k.at i).box b).value i
  held i b = ((reached i).shows.boxes b, λ h. offered i _ _ ((claims i).invariant.held b h))

  found : (i a b : ℕ) → (k.at i).Used a → (((k.at i).row a).read.slot b).stage ≡ Answered → (((k.at i).row a).read.slot b).ok ≡ true
      → HeldAt k (((k.at i).row a).found b).rank (((k.at i).row a).found b).value i
  found i a b u h t =
      let r = ((reached i).shows.rows a u).reads in
      (r.empty b h t, λ p. offered i _ _ ((claims i).answer_issued _ b _ _ (r.answered b h t) p))

  written : (i a b : ℕ) → (k.at i).Used a → ¬ ((((k.at i).row a).write.slot b).stage ≡ Unissued) → OfferedBefore k ((k.at i).row a).written i
  written i a b u n = offered i _ _ (((reached i).shows.rows a u).writes.issue b n)

  -- what is decided was made from the offer of its attempt
  decides_made : {x y : Machine A O} {l : History A O} {a b : ℕ} {v : A} → Shows R x l → machine.Step n R.Makes x y (machine.decided a b v) → Made R (x.row a).offer v
  decides_made {a = a} {b = b} s (machine.decide h boxes seat m g edit) = (s.rows a m.mine).made b (λ q. let z : ◌≡◌ {A = ℕ} 0 1 = cc (h, q) in omega arith)

  made : (i : ℕ) (v : A) (d : DecidedAt k v i) → Made R ((k.at i).row d.row).offer v
  made i v d = decides_made (reached i).shows (subst (machine.Step n R.Makes (k.at i) (k.at (suc i))) d.said (k.step i))

pub safety : SafetyTheorem
safety A O n R F k = record {
  agreement = agreement F k;
  validity = validity F k;
  made = made F k;
  abort = abort F k;
  settled = settled F k;
  row = row_at_lem F k;
  positive = λ i a u. ((reached F k i).shows.rows a u).positive;
  reads = reads F k;
  writes = writes F k;
  received = received F k;
  held = held F k;
  found = found F k;
  written = written F k;
}
