-- What is claimed of one phase of an attempt. The proof is `request_claims` in proofs/Claims.
use Rattle.std.specs.Prelude.{ℕ, ◌≤◌, ◌<◌, ◌≡◌, Bool, true, false, length}
use Rattle.base.specs.Quorum.{Majority}
use Rattle.requests.specs.Requests.{slot_at, heard_from, received, not_received, standing, standing_of, is_waiting, is_on_the_way, issued_to, served_at, received_from, at_quorum, all_yes, verdict_of}
use Rattle.base.specs.Mask.{bit}
use Rattle.requests.specs.declared.Phase.{Phase}
use Rattle.requests.specs.declared.Phase.TheVariants.{Read}
use Rattle.requests.specs.declared.Stage.{Stage}
use Rattle.requests.specs.declared.Requests.{Requests}
use Rattle.requests.specs.declared.Verdict.TheVariants.{Open, Yes, No}

pub record RequestClaims : Type 1 where
  -- a bit of the mask alone says that an answer was received
  pub heard : (s : Stage) (mask b : ℕ) → bit mask b ≡ true → standing s mask b ≡ received
  pub unheard : (s : Stage) (mask b : ℕ) → bit mask b ≡ false → standing s mask b ≡ not_received s
  -- "waits at every box"
  pub waits : (n b : ℕ) → n ≤ 9 → b < n → is_waiting (standing_of (issued_to n) b) ≡ true
  -- "its answer is on the way", at that box alone; "it becomes received", from that box alone
  pub on_the_way : (q : Requests) (b : ℕ) → b < length q.slots → (ok : Bool) → heard_from q b ≡ false → is_on_the_way (standing_of (served_at q b ok) b) ≡ true
  pub served_other : (q : Requests) (b : ℕ) (ok : Bool) (j : ℕ) → ¬ (j ≡ b) → standing_of (served_at q b ok) j ≡ standing_of q j
  pub received_same : (q : Requests) (b : ℕ) → heard_from (received_from q b) b ≡ true
  pub received_other : (q : Requests) (b j : ℕ) → ¬ (j ≡ b) → heard_from (received_from q b) j ≡ heard_from q j
  -- at the q-th answer the boxes that answered are a majority
  pub majority : (q : Requests) (n : ℕ) (P : ℕ → Type 0) → at_quorum q n ≡ true → ((b : ℕ) → b < n → heard_from q b ≡ true → P b) → Majority n P
  -- "all q say taken", none is outranked; or one of them says no
  pub all_yes_lem : (q : Requests) (k : ℕ) → all_yes q k ≡ true → (b : ℕ) → b < k → heard_from q b ≡ true → (slot_at q b).ok ≡ true
  pub not_all : (q : Requests) (k : ℕ) → all_yes q k ≡ false → (b : ℕ) × (b < k) × (heard_from q b ≡ true) × ((slot_at q b).ok ≡ false)
  -- the q-th answer ends a phase, with a yes where all say yes and else with a no; before it a no ends reads, and nothing ends writes
  pub yes : (q : Requests) (n : ℕ) (p : Phase) → at_quorum q n ≡ true → all_yes q n ≡ true → verdict_of p q n ≡ Yes
  pub no : (q : Requests) (n : ℕ) (p : Phase) → at_quorum q n ≡ true → all_yes q n ≡ false → verdict_of p q n ≡ No
  pub still : (q : Requests) (n : ℕ) (p : Phase) → at_quorum q n ≡ false → (p ≡ Read → all_yes q n ≡ true) → verdict_of p q n ≡ Open
  pub early : (q : Requests) (n : ℕ) → all_yes q n ≡ false → verdict_of Read q n ≡ No
