-- Document 01, "Solo finish": the round that it picks above a rank, and the steps with the boxes that it asks.
use Rattle.std.specs.Prelude.{ℕ, ◌+◌, ◌-◌, ◌/◌, List, [], ◌∷◌, ◌++◌}
use Rattle.requests.specs.declared.Phase.{Phase}
use Rattle.commands.specs.Commands.{encode_of}
use Rattle.commands.specs.declared.Command.TheVariants.{Serve, Deliver}

-- the smallest round of at least 1 whose rank for that station passes h
unfoldable pub round_above : (h station : ℕ) → ℕ
round_above h station = (h - station) / 16 + 1

-- the serve and the delivery of attempt a's read or write at box b, as 8-byte records
unfoldable pub exchange : (phase : Phase) (a b : ℕ) → List (List ℕ)
exchange phase a b = encode_of (Serve phase a b) ∷ encode_of (Deliver phase a b) ∷ []

-- "one box after the other"
unfoldable pub exchanges : (phase : Phase) (a : ℕ) (boxes : List ℕ) → List (List ℕ)
exchanges phase a [] = []
exchanges phase a (b ∷ bs) = exchange phase a b ++ exchanges phase a bs
