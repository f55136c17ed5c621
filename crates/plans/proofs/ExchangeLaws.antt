-- The records of the exchanges: how many and how long they are, and that they are records.
use Prim.Native.Nat.{ℕ, zero, suc, ◌+◌, ◌*◌, ◌<◌, ◌≤◌}
use native.Mathlib.Omega.{arith}
use mathlib.Core.Path.{◌≡◌, refl}
use mathlib.Core.List.{List, [], ◌∷◌, ◌++◌, flatten}
use lib.ListN.{length, take}
use Rattle.base.specs.Bytes.{bytes_put}
use Rattle.base.specs.Records.{IsRecord, AllRecords}
use Rattle.base.proofs.PutLaws.{put_taken}
use Rattle.requests.specs.declared.Phase.{Phase}
use Rattle.commands.specs.Commands.{encode_of}
use Rattle.commands.specs.Claims.{Fielded}
use Rattle.commands.specs.declared.Command.{Command}
use Rattle.commands.specs.declared.Command.TheVariants.{Serve, Deliver}
use Rattle.commands.proofs.Encodings.{encode_length, encode_bytes}
use Rattle.plans.specs.Plans.{exchange, exchanges}

-- an exchange is 16 bytes
pub exchange_size : (p : Phase) (a b : ℕ) → length (flatten (exchange p a b)) ≡ 16
unfolding exchange flatten
exchange_size p a b = refl

-- what stands in front then
pub exchange_taken : (s : List ℕ) (at : ℕ) (p : Phase) (a b : ℕ) → at + 16 ≤ length s
    → take (at + 16) (bytes_put s at (flatten (exchange p a b))) ≡ take at s ++ flatten (exchange p a b)
exchange_taken s at p a b h = let size = exchange_size p a b in rw (← size) (put_taken s at (flatten (exchange p a b)) (omega arith))

-- two steps with each box
pub exchanges_length : (p : Phase) (a : ℕ) (bs : List ℕ) → length (exchanges p a bs) ≡ 2 * length bs
unfolding exchanges exchange
exchanges_length p a [] = refl
exchanges_length p a (b ∷ bs) = omega (arith, exchanges_length p a bs)

-- boxes whose numbers are below n, and the first k of them
abbrev pub Below : ℕ → List ℕ → Type 0
Below n [] = Unit {0}
Below n (b ∷ bs) = (b < n) × Below n bs

pub below_take : (n k : ℕ) (bs : List ℕ) → Below n bs → Below n (take k bs)
below_take n zero bs u = tt
below_take n (suc k) [] u = tt
below_take n (suc k) (b ∷ bs) u = (u.0, below_take n k bs u.1)

-- where they fit a byte, the exchanges with them are records of 8 bytes
pub command_record : (c : Command) → Fielded c → IsRecord (encode_of c)
command_record c h = record { eight = encode_length c; bytes = encode_bytes c h }

pub exchanges_records : (p : Phase) (a : ℕ) (bs : List ℕ) → a < 256 → Below 256 bs → AllRecords (exchanges p a bs)
unfolding exchanges exchange
exchanges_records p a [] h u = tt
exchanges_records p a (b ∷ bs) h u = (command_record (Serve p a b) (h, u.0), (command_record (Deliver p a b) (h, u.0), exchanges_records p a bs h u.1))
