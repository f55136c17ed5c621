-- Where the requests of a new row, and of a row whose write is issued, stand: waiting at every box below n.
use Prim.Native.Nat.{ℕ, ◌<◌, ◌≤◌}
use mathlib.Core.Path.{◌≡◌}
use mathlib.Core.Bool.{true}
use Rattle.suits.specs.declared.Suit.{Suit}
use Rattle.requests.specs.Requests.{standing_of, is_waiting}
use Rattle.requests.proofs.RequestLaws as requests
use Rattle.attempts.specs.Rows.{new_row, issued}
use Rattle.attempts.specs.declared.Row.{Row}

-- "a read request waiting at every box"
pub new_row_waits : (n s round b : ℕ) (v : Suit) → n ≤ 9 → b < n → is_waiting (standing_of (new_row n s round v).read b) ≡ true
unfolding new_row
new_row_waits n s round b v h l = requests.issued_waits n b h l

-- "The write .. waits at every box"
pub issued_waits : (w : Row) (v : Suit) (n b : ℕ) → n ≤ 9 → b < n → is_waiting (standing_of (issued w v n).write b) ≡ true
unfolding issued
issued_waits w v n b h l = requests.issued_waits n b h l
