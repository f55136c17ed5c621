-- A run of the machine by positions, and what is claimed of every run: read off what its steps said.
use Rattle.std.specs.Prelude.{ℕ, suc, ◌<◌, ◌≡◌, ◌⊎◌, true}
use Rattle.base.specs.Positions.{Before}
use Rattle.base.specs.Numbers.{rank_of}
use Rattle.base.specs.Quorum.{Majority}
use Rattle.requests.specs.declared.Phase.{Phase}
use Rattle.requests.specs.declared.Phase.TheVariants.{Write}
use Rattle.requests.specs.declared.Stage.TheVariants.{Unissued, Answered}
use Rattle.machine.specs.Machine.{Machine, Label, none, reading, writing, began, served, issued, decided, aborted, asked_of, Step}
use Rattle.machine.specs.Rules.{Rule, Fits, Made}

-- Figure 3, "Initially x = ⟨r0, r0, ⊥⟩"; no attempt is begun.
pub record New {A O : Type 0} (start : A) (x : Machine A O) : Type 0 where
  pub reads : (b : ℕ) → (x.box b).read_rank ≡ 0
  pub writes : (b : ℕ) → (x.box b).write_rank ≡ 0
  pub value : (b : ℕ) → (x.box b).value ≡ start
  pub unused : (a : ℕ) → ¬ x.Used a
  pub seats : (j : ℕ) → (x.station j).seat ≡ none

-- The machine before the step at each position, and what that step says. A run has no end: behind a list of steps it is quiet.
pub record Run {A O : Type 0} (n : ℕ) (R : Rule A O) : Type 1 where
  pub at : ℕ → Machine A O
  pub said : ℕ → Label A O
  pub new : New R.start (at 0)
  pub step : (i : ℕ) → Step n R.Makes (at i) (at (suc i)) (said i)

module _ {A O : Type 0} {n : ℕ} {R : Rule A O} (k : Run n R) where
  -- an attempt is a begin; its number is that of its row
  pub record Attempt : Type 0 where
    pub at : ℕ
    pub station : ℕ
    pub round : ℕ
    pub offer : O
    pub number : ℕ
    pub begun : k.said at ≡ began station round offer number

  -- its number names it at the position i: its begin is the last before i in this row
  pub record Named (x : Attempt) (i : ℕ) : Type 0 where
    pub earlier : x.at < i
    pub last : (j s round : ℕ) (o : O) → x.at < j → j < i → ¬ (k.said j ≡ began s round o x.number)

  -- the row a in use before the step at i is that of an attempt
  pub record RowOf (i a : ℕ) : Type 0 where
    pub attempt : Attempt
    pub number : attempt.number ≡ a
    pub named : Named attempt i
    pub station : attempt.station ≡ ((k.at i).row a).station
    pub rank : rank_of attempt.round attempt.station ≡ ((k.at i).row a).rank
    pub offer : attempt.offer ≡ ((k.at i).row a).offer

  -- the value v is decided at i
  pub record DecidedAt (v : A) (i : ℕ) : Type 0 where
    pub row : ℕ
    pub box : ℕ
    pub said : k.said i ≡ decided row box v

  -- the offer o was made at i
  pub record OfferedAt (o : O) (i : ℕ) : Type 0 where
    pub station : ℕ
    pub round : ℕ
    pub row : ℕ
    pub said : k.said i ≡ began station round o row

  -- the value v is made of offers begun before i
  abbrev pub OfferedBefore : (v : A) (i : ℕ) → Type 0
  OfferedBefore v i = R.Offered (λ o. Before (OfferedAt o) i) v

  -- what a box holds with the write rank w, before the step at i: the start value at the start rank, else one made of offers
  abbrev pub HeldAt : (w : ℕ) (v : A) (i : ℕ) → Type 0
  HeldAt w v i = (w ≡ 0 → v ≡ R.start) × (0 < w → OfferedBefore v i)

  -- the rank r was granted at the box b by the step at i: its read was answered, or its write taken
  pub record GrantedAt (r b i : ℕ) : Type 0 where
    pub phase : Phase
    pub row : ℕ
    pub used : (k.at i).Used row
    pub said : k.said i ≡ served phase row b true
    pub rank : ((k.at i).row row).rank ≡ r

  pub record OutrankedAt (r i : ℕ) : Type 0 where
    pub rank : ℕ
    pub box : ℕ
    pub higher : r < rank
    pub granted : Before (GrantedAt rank box) i

  -- the write of the rank r was served at the box b, and taken
  pub record TakenAt (r b i : ℕ) : Type 0 where
    pub row : ℕ
    pub said : k.said i ≡ served Write row b true
    pub rank : ((k.at i).row row).rank ≡ r

  -- a write of the value v was issued at the rank r
  pub record IssuedAt (r : ℕ) (v : A) (i : ℕ) : Type 0 where
    pub row : ℕ
    pub box : ℕ
    pub said : k.said i ≡ issued row box v
    pub rank : ((k.at i).row row).rank ≡ r

  pub record Safety : Type 0 where
    -- of two values decided one follows the other; with equality they are one (Theorem 1)
    pub agreement : (i j : ℕ) (u v : A) → DecidedAt u i → DecidedAt v j → R.Follows u v ⊎ R.Follows v u
    -- a value decided is made of offers begun before (Theorem 1), and by the rule from its attempt's own
    pub validity : (i : ℕ) (v : A) → DecidedAt v i → OfferedBefore v i
    pub made : (i : ℕ) (v : A) (d : DecidedAt v i) → Made R ((k.at i).row d.row).offer v
    -- before an attempt aborts, a rank above its own was granted at a box (Property 2, Non-Triviality)
    pub abort : (i : ℕ) (p : Phase) (a b : ℕ) → k.said i ≡ aborted p a b → OutrankedAt ((k.at i).row a).rank i
    -- a write that was taken at a majority of the boxes is settled (Lemma 1): every value issued at a higher rank, earlier or later, follows it
    pub settled : (t i j s r : ℕ) (u v : A) → Majority n (λ b. Before (TakenAt s b) t) → IssuedAt s u i → IssuedAt r v j → s < r → R.Follows u v
    -- a row in use is an attempt's, with a rank above the start rank
    pub row : (i a : ℕ) → (k.at i).Used a → RowOf i a
    pub positive : (i a : ℕ) → (k.at i).Used a → 0 < ((k.at i).row a).rank
    -- a station that reads or writes is in a row of its own; it reads before its write is issued
    pub reads : (i j a : ℕ) → ((k.at i).station j).seat ≡ reading a → (k.at i).Used a × (((k.at i).row a).station ≡ j) × ((b : ℕ) → (((k.at i).row a).write.slot b).stage ≡ Unissued)
    pub writes : (i j a : ℕ) → ((k.at i).station j).seat ≡ writing a → (k.at i).Used a × (((k.at i).row a).station ≡ j)
    -- what was received was answered
    pub received : (i a b : ℕ) (p : Phase) → (k.at i).Used a → (asked_of p ((k.at i).row a)).heard b ≡ true → ((asked_of p ((k.at i).row a)).slot b).stage ≡ Answered
    -- every value anywhere, in a box, answered to a read or written by an attempt, is the start value or made of offers
    pub held : (i b : ℕ) → HeldAt ((k.at i).box b).write_rank ((k.at i).box b).value i
    pub found : (i a b : ℕ) → (k.at i).Used a → (((k.at i).row a).read.slot b).stage ≡ Answered → (((k.at i).row a).read.slot b).ok ≡ true
        → HeldAt (((k.at i).row a).found b).rank (((k.at i).row a).found b).value i
    pub written : (i a b : ℕ) → (k.at i).Used a → ¬ ((((k.at i).row a).write.slot b).stage ≡ Unissued) → OfferedBefore ((k.at i).row a).written i

-- of every run, whatever the rule
abbrev pub SafetyTheorem : Type 1
SafetyTheorem = (A O : Type 0) (n : ℕ) (R : Rule A O) → Fits R → (k : Run n R) → Safety k
