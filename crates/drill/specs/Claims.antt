-- What is claimed of the lines that the program drill prints. The proof is `report_claims` in proofs/Claims.
use Rattle.std.specs.Prelude.{ℕ, ◌+◌, ◌-◌, ◌*◌, ◌^◌, ◌≤◌, ◌<◌, ◌≡◌, List, [], ◌∷◌, length, codes, None, Some}
use Rattle.suits.specs.Suits.{suit0}
use Rattle.suits.specs.declared.Suit.{Suit}
use Rattle.drill_file.specs.DrillFile.{file_refusal, label_of}
use Rattle.player.specs.Play.{played_of}
use Rattle.drill.specs.Report.{decimal_of, decision_word, end_line, lines_of, report_of}

-- the number that decimal digits spell behind those that spelt `so`
unfoldable pub spelt : (so : ℕ) (digits : List ℕ) → ℕ
spelt so [] = so
spelt so (d ∷ digits) = spelt (so * 10 + (d - 48)) digits

pub record ReportClaims : Type 0 where
  -- wish 7: "the drill prints `none` where it has not" decided, and nowhere else: a withdrawal is printed as 0
  pub none : decision_word None ≡ codes "none"
  pub withdrawn : decision_word (Some suit0) ≡ codes "0"
  pub decided : (v : Suit) → ¬ (decision_word (Some v) ≡ codes "none")
  -- what is printed of a number tells the number, for each of 64 bits
  pub number : (n : ℕ) → n < 10 ^ 20 → spelt 0 (decimal_of n) ≡ n
  -- which lines are printed, and that a buffer of 2,048 bytes has room for them
  pub lines : (s : List ℕ) → file_refusal s ≡ 0 → report_of s ≡ lines_of (label_of s) (played_of s)
  pub end : (s : List ℕ) → ¬ (file_refusal s ≡ 0) → report_of s ≡ end_line 0 (file_refusal s)
  pub few : (s : List ℕ) → length (report_of s) ≤ 2048
