-- The history of a run, for the theory of crate `protocol`, and the relation between a machine and its history.
use Prim.Native.Nat.{ℕ, suc, ◌/◌, ◌%◌, ◌≤◌, ◌<◌}
use native.Mathlib.Omega.{arith}
use native.Mathlib.Decide.{ℕ_discrete}
use mathlib.Core.Path.{◌≡◌, sym, ap, subst, ◌∙◌}
use mathlib.Core.Logic.{◌⊎◌, inl, inr}
use mathlib.Core.Bool.{true, false}
use mathlib.Core.List.Memᴰ
use mathlib.Core.List.{List, ◌∷◌, Memᴰ}
use Rattle.requests.specs.declared.Stage.TheVariants.{Unissued, Answered}
use Rattle.protocol.specs.Trace.{Event, read, nack, issued, took, refused, note, there, other}
use Rattle.machine.specs.Machine.{Asked, Found, Row, Seat, none, reading, writing, Machine, SameBoxes, SameStations, SameRows, Sits}
use Rattle.machine.specs.Rules.{Rule, Made}

-- What a history keeps besides reads and writes: that an attempt with this offer was begun, or nothing.
pub data Note (O : Type 0) : Type 0 where
  begun : O → Note O
  nothing : Note O

-- newest first, one event for each step
abbrev pub History : (A O : Type 0) → Type 0
History A O = List (Event A (Note O))

abbrev pub Begun : {A O : Type 0} → History A O → O → Type 0
Begun l o = Memᴰ (note (begun o)) l

-- the value v is made of offers begun
abbrev pub OfferedIn : {A O : Type 0} → Rule A O → History A O → A → Type 0
OfferedIn R l v = R.Offered (Begun l) v

module _ {A O : Type 0} where
  -- 1 more than the rank at which an event issues or takes a write; 0 for every other event
  abbrev pub writer_of : Event A (Note O) → ℕ
  writer_of (read r b w v) = 0
  writer_of (nack r b) = 0
  writer_of (issued r v) = suc r
  writer_of (took r b) = suc r
  writer_of (refused r b) = 0
  writer_of (note k) = 0

  -- nothing was written at the rank r
  abbrev pub Unwritten : History A O → ℕ → Type 0
  Unwritten l r = (e : Event A (Note O)) → Memᴰ e l → ¬ (writer_of e ≡ suc r)

  pub unwritten_more : (l : History A O) (r : ℕ) (e : Event A (Note O)) → ¬ (writer_of e ≡ suc r) → Unwritten l r → Unwritten (e ∷ l) r
  unwritten_more l r e d u x m q = elim (Memᴰ.cases_cons m) [ inl p ↦ d (ap writer_of (sym p) ∙ q) | inr o ↦ u x o q ]

-- From the machine x by an event e to y: no row is new, and each but the row a is as it was; that keeps its station and its rank, each station
-- its last round, and a write is at the rank of the row a.
pub record Moves {A O : Type 0} (x y : Machine A O) (e : Event A (Note O)) (a : ℕ) : Type 0 where
  pub mine : x.Used a
  pub used : (j : ℕ) → y.Used j → x.Used j
  pub still : (j : ℕ) → x.Used j → y.Used j
  pub same : (j : ℕ) → ¬ (j ≡ a) → y.row j ≡ x.row j
  pub rank : (y.row a).rank ≡ (x.row a).rank
  pub station : (y.row a).station ≡ (x.row a).station
  pub last : (j : ℕ) → (y.station j).last ≡ (x.station j).last
  pub own : (r : ℕ) → writer_of e ≡ suc r → r ≡ (x.row a).rank

module _ {A O : Type 0} (R : Rule A O) where
  -- The reads of a row: what was received was answered, and each answer was given at that box: what it held, or that the read was outranked.
  pub record ReadsShow (rank : ℕ) (q : Asked) (found : ℕ → Found A) (l : History A O) : Type 0 where
    pub received : (b : ℕ) → q.heard b ≡ true → (q.slot b).stage ≡ Answered
    pub answered : (b : ℕ) → (q.slot b).stage ≡ Answered → (q.slot b).ok ≡ true → Memᴰ (read rank b (found b).rank (found b).value) l
    pub empty : (b : ℕ) → (q.slot b).stage ≡ Answered → (q.slot b).ok ≡ true → (found b).rank ≡ 0 → (found b).value ≡ R.start
    pub told : (b : ℕ) → (q.slot b).stage ≡ Answered → (q.slot b).ok ≡ false → Memᴰ (nack rank b) l

  -- The writes of a row: they were issued with the row's value, and each answer was given at that box; no other write of this rank was taken.
  pub record WritesShow (rank : ℕ) (written : A) (q : Asked) (l : History A O) : Type 0 where
    pub received : (b : ℕ) → q.heard b ≡ true → (q.slot b).stage ≡ Answered
    pub issue : (b : ℕ) → ¬ ((q.slot b).stage ≡ Unissued) → Memᴰ (issued rank written) l
    pub taken : (b : ℕ) → (q.slot b).stage ≡ Answered → (q.slot b).ok ≡ true → Memᴰ (took rank b) l
    pub refusal : (b : ℕ) → (q.slot b).stage ≡ Answered → (q.slot b).ok ≡ false → Memᴰ (refused rank b) l
    pub only : (b : ℕ) → Memᴰ (took rank b) l → ((q.slot b).stage ≡ Answered) × ((q.slot b).ok ≡ true)

  pub record RowShows (w : Row A O) (l : History A O) : Type 0 where
    pub positive : 0 < w.rank
    pub place : w.rank % 16 ≡ w.station
    pub offer : Begun l w.offer
    pub reads : ReadsShow w.rank w.read w.found l
    pub writes : WritesShow w.rank w.written w.write l
    -- what it writes was made by the rule, from its offer
    pub made : (b : ℕ) → ¬ ((w.write.slot b).stage ≡ Unissued) → Made R w.offer w.written

  module _ (x : Machine A O) (l : History A O) (j : ℕ) where
    -- The station j, where it reads or writes, is in a row in use, of its own; it reads before its write is issued, and writes after.
    abbrev pub SeatShows : Seat → Type 0
    SeatShows none = Unit {0}
    SeatShows (reading a) = x.Used a × ((x.row a).station ≡ j) × Unwritten l (x.row a).rank
    SeatShows (writing a) = x.Used a × ((x.row a).station ≡ j) × Memᴰ (issued (x.row a).rank (x.row a).written) l

  -- What a machine shows of its history. Rows have ranks of their own, none above its station's last round; above that round nothing was
  -- written yet.
  pub record Shows (x : Machine A O) (l : History A O) : Type 0 where
    pub boxes : (b : ℕ) → (x.box b).write_rank ≡ 0 → (x.box b).value ≡ R.start
    pub rows : (a : ℕ) → x.Used a → RowShows (x.row a) l
    pub distinct : (a c : ℕ) → x.Used a → x.Used c → (x.row a).rank ≡ (x.row c).rank → a ≡ c
    pub begun : (a : ℕ) → x.Used a → (x.row a).rank / 16 ≤ (x.station ((x.row a).rank % 16)).last
    pub unbegun : (r : ℕ) → (x.station (r % 16)).last < r / 16 → Unwritten l r
    pub seats : (j : ℕ) → SeatShows x l j (x.station j).seat

  -- one event more
  module _ {l : History A O} (e : Event A (Note O)) where
    pub reads_more : {rank : ℕ} {q : Asked} {found : ℕ → Found A} → ReadsShow rank q found l → ReadsShow rank q found (e ∷ l)
    reads_more s = record {
      received = s.received;
      answered = λ b h t. Memᴰ.tail (s.answered b h t);
      empty = s.empty;
      told = λ b h t. Memᴰ.tail (s.told b h t);
    }

    pub writes_more : {rank : ℕ} {written : A} {q : Asked} → ¬ (writer_of e ≡ suc rank) → WritesShow rank written q l → WritesShow rank written q (e ∷ l)
    writes_more {rank} d s = record {
      received = s.received;
      issue = λ b h. Memᴰ.tail (s.issue b h);
      taken = λ b h t. Memᴰ.tail (s.taken b h t);
      refusal = λ b h t. Memᴰ.tail (s.refusal b h t);
      only = λ b m. elim (Memᴰ.cases_cons m) [ inl q ↦ absurd (d (ap writer_of (sym q))) | inr o ↦ s.only b o ];
    }

    pub row_more : {w : Row A O} → ¬ (writer_of e ≡ suc w.rank) → RowShows w l → RowShows w (e ∷ l)
    row_more d s = record {
      positive = s.positive;
      place = s.place;
      offer = Memᴰ.tail s.offer;
      reads = reads_more s.reads;
      writes = writes_more d s.writes;
      made = s.made;
    }

  -- what is left to show of y
  module _ {x y : Machine A O} {l : History A O} (s : Shows x l) (e : Event A (Note O)) where
    module _ {a : ℕ} (m : Moves x y e a) where
      not_own : (j : ℕ) → x.Used j → ¬ (j ≡ a) → ¬ (writer_of e ≡ suc (x.row j).rank)
      not_own j u n q = n (s.distinct j a u m.mine (m.own (x.row j).rank q))

      rank_kept : (j : ℕ) → (y.row j).rank ≡ (x.row j).rank
      rank_kept j = elim (ℕ_discrete j a) [ yes q ↦ rw q m.rank | no q ↦ ap (λ (w : Row A O). w.rank) (m.same j q) ]

      not_unbegun : (r : ℕ) → (x.station (r % 16)).last < r / 16 → ¬ (writer_of e ≡ suc r)
      not_unbegun r h q = omega (arith, subst (λ (k : ℕ). (x.station (k % 16)).last < k / 16) (m.own r q) h, s.begun a m.mine)

      -- a seat in another row stays, and one in the row a where the step keeps it
      seat_kept : (j : ℕ) (t : Seat) → (SeatShows x l j (reading a) → SeatShows y (e ∷ l) j (reading a)) → (SeatShows x l j (writing a) → SeatShows y (e ∷ l) j (writing a))
          → SeatShows x l j t → SeatShows y (e ∷ l) j t
      seat_kept j none r w v = tt
      seat_kept j (reading i) r w v = elim (ℕ_discrete i a) [
        | yes q ↦ subst (λ (k : ℕ). SeatShows x l j (reading k) → SeatShows y (e ∷ l) j (reading k)) (sym q) r v
        | no q ↦ (m.still i v.0, ap (λ (w : Row A O). w.station) (m.same i q) ∙ v.1, rw (m.same i q) (unwritten_more l _ e (not_own i v.0 q) v.2))
      ]
      seat_kept j (writing i) r w v = elim (ℕ_discrete i a) [
        | yes q ↦ subst (λ (k : ℕ). SeatShows x l j (writing k) → SeatShows y (e ∷ l) j (writing k)) (sym q) w v
        | no q ↦ (m.still i v.0, ap (λ (w : Row A O). w.station) (m.same i q) ∙ v.1, rw (m.same i q) (Memᴰ.tail v.2))
      ]

      -- no station moves, and the row keeps what it writes
      pub seats_same : SameStations x y → (Unwritten l (x.row a).rank → ¬ (writer_of e ≡ suc (x.row a).rank)) → (y.row a).written ≡ (x.row a).written
          → (j : ℕ) → SeatShows y (e ∷ l) j (y.station j).seat
      seats_same same d w j = rw (same j) (seat_kept j (x.station j).seat
          (λ v. (m.still a v.0, m.station ∙ v.1, rw m.rank (unwritten_more l _ e (d v.2) v.2)))
          (λ v. (m.still a v.0, m.station ∙ v.1, rw (m.rank, w) (Memᴰ.tail v.2)))
          (s.seats j))

      -- the station of the row moves to the seat t
      pub seats_moved : (t : Seat) → Sits x y (x.row a).station t → SeatShows y (e ∷ l) (x.row a).station t → (j : ℕ) → SeatShows y (e ∷ l) j (y.station j).seat
      seats_moved t edit here j = elim (edit j) [
        | there p q ↦ rw (q, p) here
        | other p q ↦ rw q (seat_kept j (x.station j).seat (λ v. absurd (p (sym v.1))) (λ v. absurd (p (sym v.1))) (s.seats j))
      ]

      pub shows_moved : ((b : ℕ) → (y.box b).write_rank ≡ 0 → (y.box b).value ≡ R.start) → RowShows (y.row a) (e ∷ l) → ((j : ℕ) → SeatShows y (e ∷ l) j (y.station j).seat) → Shows y (e ∷ l)
      shows_moved boxes row seats = record {
        boxes = boxes;
        rows = λ j h. elim (ℕ_discrete j a) [
          | yes q ↦ rw q row
          | no q ↦ rw (m.same j q) (row_more e (not_own j (m.used j h) q) (s.rows j (m.used j h)))
        ];
        distinct = λ i j hi hj q. s.distinct i j (m.used i hi) (m.used j hj) (sym (rank_kept i) ∙ q ∙ rank_kept j);
        begun = λ j h. rw (rank_kept j, m.last ((x.row j).rank % 16)) (s.begun j (m.used j h));
        unbegun = λ r h. let o = rw (m.last (r % 16)) at h in unwritten_more l r e (not_unbegun r o) (s.unbegun r o);
        seats = seats;
      }

  -- nothing is noted, the rows stay, and each station stays or leaves its seat
  module _ {x y : Machine A O} {l : History A O} (s : Shows x l) (boxes : SameBoxes x y) (k : SameRows x y) where
    seat_rests : (j : ℕ) (t : Seat) → SeatShows x l j t → SeatShows y (note nothing ∷ l) j t
    seat_rests j none v = tt
    seat_rests j (reading a) v = let u = k.still a v.0 in (u, ap (λ (w : Row A O). w.station) (k.same a u) ∙ v.1, rw (k.same a u) (unwritten_more l _ _ (λ q. omega arith) v.2))
    seat_rests j (writing a) v = let u = k.still a v.0 in (u, ap (λ (w : Row A O). w.station) (k.same a u) ∙ v.1, rw (k.same a u) (Memᴰ.tail v.2))

    pub shows_rest : ((j : ℕ) → (y.station j).last ≡ (x.station j).last) → ((j : ℕ) → ((y.station j).seat ≡ none) ⊎ ((y.station j).seat ≡ (x.station j).seat)) → Shows y (note nothing ∷ l)
    shows_rest last seats = record {
      boxes = λ b. rw (boxes b) (s.boxes b);
      rows = λ a h. rw (k.same a h) (row_more (note nothing) (λ q. omega arith) (s.rows a (k.used a h)));
      distinct = λ a c h i q. s.distinct a c (k.used a h) (k.used c i) (ap (λ (w : Row A O). w.rank) (sym (k.same a h)) ∙ q ∙ ap (λ (w : Row A O). w.rank) (k.same c i));
      begun = λ a h. rw (k.same a h, last ((x.row a).rank % 16)) (s.begun a (k.used a h));
      unbegun = λ r h. unwritten_more l r _ (λ q. omega arith) (s.unbegun r (rw (last (r % 16)) at h));
      seats = λ j. elim (seats j) [ inl q ↦ rw q tt | inr q ↦ rw q (seat_rests j (x.station j).seat (s.seats j)) ];
    }
