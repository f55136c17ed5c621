-- The plan of a solo finish is made of records of 8 bytes.
use Prim.Native.Nat.{ℕ, zero, suc, ◌+◌, ◌≤◌, ◌<◌}
use native.Mathlib.Omega.{arith}
use mathlib.Core.List.{List}
use Rattle.suits.specs.Suits.{FourBytes}
use Rattle.suits.specs.declared.Suit.{Suit}
use Rattle.base.specs.Numbers.{quorum}
use Rattle.base.proofs.Choices.{by_test}
use Rattle.register.specs.declared.StorageBox.{StorageBox}
use Rattle.requests.specs.declared.Phase.TheVariants.{Read, Write}
use Rattle.plans.specs.Plans.{exchanges}
use Rattle.plans.proofs.ExchangeLaws.{Below, below_take, command_record, exchanges_records}
use Rattle.floor.specs.Effects.{row_taken}
use Rattle.floor.specs.declared.Floor.{Floor}
use Rattle.commands.specs.declared.Command.TheVariants.{Begin}
use Rattle.solo.specs.Plan.{round_of, answering_from, answering, lowest, exchanges_of, plan_of}
use Rattle.base.specs.Records.{AllRecords}
use Rattle.base.proofs.RecordLaws.{all_append}

-- the boxes asked have numbers that fit a byte
answering_below : (n : ℕ) (boxes : List StorageBox) (k b : ℕ) → b + k ≤ n → Below n (answering_from k b boxes)
unfolding answering_from
answering_below n boxes zero b h = tt
answering_below n boxes (suc k) b h =
    let r = answering_below n boxes k (b + 1) (omega arith) in
    by_test (Below n) _ _ _ (λ _. r) (λ _. (omega arith, r))

-- the plan is made of records of 8 bytes
pub plan_rest : (f : Floor) (s : ℕ) → row_taken f s < 256 → f.n ≤ 256 → AllRecords (exchanges_of f s)
unfolding exchanges_of lowest
plan_rest f s hu hn =
    let u = below_take 256 (quorum f.n) (answering f) (answering_below 256 f.boxes f.n 0 (omega arith)) in
    all_append (exchanges Read (row_taken f s) _) _ (exchanges_records Read (row_taken f s) _ hu u) (exchanges_records Write (row_taken f s) _ hu u)

pub plan_records : (f : Floor) (s : ℕ) (v : Suit) → s < 256 → FourBytes v → round_of f s ≤ 65535 → row_taken f s < 256 → f.n ≤ 256 → AllRecords (plan_of f s v)
plan_records f s v hs hv hr hu hn = (command_record (Begin s (round_of f s) v) (hs, omega arith, hv), plan_rest f s hu hn)
