-- A row of the table of document 01's lettered examples, and the claim on all rows.
use Rattle.std.specs.Prelude.{ℕ, ◌≡◌, Bool, List, [], ◌∷◌, Option}
use Rattle.suits.specs.declared.Suit.{Suit}
use Rattle.register.specs.declared.Register.{Register}
use Rattle.register.specs.declared.ReadDone.{ReadDone}
use Rattle.register.specs.declared.WriteDone.{WriteDone}
use Rattle.attempts.specs.declared.State.{State}
use Rattle.commands.specs.declared.Outcome.{Outcome}

pub data Letter : Type 0 where
  A : Letter
  B : Letter
  C : Letter
  D : Letter
  E : Letter
  F : Letter
  G : Letter
  H : Letter
  I : Letter
  J : Letter
  K : Letter

-- what the program drill prints for a station: "number, state, rank of its last attempt (0 if none), decided revision", or none (wish 7 of
-- document 02: "the drill prints `none` where it has not" decided)
pub record StationLine : Type 0 where
  pub number : ℕ
  pub state : State
  pub rank : ℕ
  pub decided : Option Suit

-- what it prints: label, n and m; the station lines in order; "last `end`, accepted steps, refusal (0 if none)"
pub record Printed : Type 0 where
  pub label : List ℕ
  pub boxes : ℕ
  pub stations : ℕ
  pub lines : List StationLine
  pub accepted : ℕ
  pub refusal : ℕ

-- What an example is about, at the types of the definitions that it is shown of.
pub data Shown : Type 0 where
  -- a size or a rank
  number : ℕ → Shown
  -- a box's read and its write, with the register after it
  read : ReadDone → Shown
  wrote : WriteDone → Shown
  -- of an attempt: its rank, the answers received to its reads, and what the delivery of the last of them said
  gathered : ℕ → List (ℕ × Suit) → Outcome → Shown
  -- what each step of a run said
  said : List Outcome → Shown
  -- the answers to an attempt's write, and what the registers hold, at boxes 0, 1, ..
  taken : List Bool → Shown
  held : List Register → Shown
  -- of a solo finish: the number of its steps, and what the last one said
  drove : ℕ → Outcome → Shown
  printed : Printed → Shown

-- the letter, what the definitions give, and what document 01 expects
pub record Row : Type 0 where
  pub letter : Letter
  pub given : Shown
  pub expected : Shown

abbrev pub Holds : (x : Row) → Type 0
Holds r = r.given ≡ r.expected

-- the one claim
abbrev pub AllHold : (rows : List Row) → Type 0
AllHold [] = Unit
AllHold (r ∷ rs) = Holds r × AllHold rs
