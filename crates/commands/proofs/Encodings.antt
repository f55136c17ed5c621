-- The record of a command decodes to it, and is made of 8 bytes; a record of bytes has the fields of a command.
use Prim.Native.Nat.{ℕ}
use native.Mathlib.Omega.{arith}
use mathlib.Core.Path.{◌≡◌, refl}
use mathlib.Core.List.{List, ◌∷◌}
use lib.ListN.{length}
use Rattle.base.specs.Choice.{when◌then◌else◌}
use Rattle.base.specs.Bytes.{Bytes}
use Rattle.base.proofs.ByteLaws.{bytes_below, word16_of_bytes, word32_of_bytes}
use Rattle.base.proofs.Choices.{by_test}
use Rattle.commands.specs.Commands.{all_zero, spared, command_of, encode_of}
use Rattle.requests.specs.declared.Phase.TheVariants.{Read, Write}
use Rattle.commands.specs.Claims.{Fielded}
use Rattle.commands.specs.declared.Command.{Command}
use Rattle.commands.specs.declared.Command.TheVariants.{Begin, Serve, Deliver, Stop, Leave, Return, Malformed}

pub decode_encode : (c : Command) → command_of (encode_of c) ≡ c
unfolding command_of spared all_zero when◌then◌else◌
decode_encode (Begin s round v) = rw (word16_of_bytes round, word32_of_bytes v.r0)
decode_encode (Serve Read a b) = refl
decode_encode (Serve Write a b) = refl
decode_encode (Deliver Read a b) = refl
decode_encode (Deliver Write a b) = refl
decode_encode (Stop b) = refl
decode_encode (Leave s) = refl
decode_encode (Return b) = refl
decode_encode Malformed = refl

-- kind 6 is read as kind 8
pub six_as_eight : (rest : List ℕ) → command_of (6 ∷ rest) ≡ command_of (8 ∷ rest)
unfolding command_of when◌then◌else◌
six_as_eight rest = refl

-- a record has 8 bytes
pub encode_length : (c : Command) → length (encode_of c) ≡ 8
encode_length (Begin s round v) = refl
encode_length (Serve f a b) = refl
encode_length (Deliver f a b) = refl
encode_length (Stop b) = refl
encode_length (Leave s) = refl
encode_length (Return b) = refl
encode_length Malformed = refl

-- the record of a command with such fields is made of bytes
pub encode_bytes : (c : Command) → Fielded c → Bytes (encode_of c)
encode_bytes (Begin s round v) h = omega (arith, h.0, h.1, h.2)
encode_bytes (Serve Read a b) h = omega (arith, h.0, h.1)
encode_bytes (Serve Write a b) h = omega (arith, h.0, h.1)
encode_bytes (Deliver Read a b) h = omega (arith, h.0, h.1)
encode_bytes (Deliver Write a b) h = omega (arith, h.0, h.1)
encode_bytes (Stop b) h = omega arith
encode_bytes (Leave s) h = omega arith
encode_bytes (Return b) h = omega arith
encode_bytes Malformed h = omega arith

-- and a record of bytes has such fields
spared_fielded : (l : List ℕ) (c : Command) → Fielded c → Fielded (spared l c)
unfolding spared
spared_fielded l c h = by_test Fielded (all_zero l) _ _ (λ _. h) (λ _. tt)

pub decode_fielded : (r : List ℕ) → Bytes r → Fielded (command_of r)
unfolding command_of
decode_fielded r h =
    let at = bytes_below r h in
    by_test Fielded _ _ _ (λ _. (at 1, omega (arith, at 2, at 3), omega (arith, at 4, at 5, at 6, at 7)))
    (λ _. by_test Fielded _ _ _ (λ _. spared_fielded _ _ (at 1, at 2))
    (λ _. by_test Fielded _ _ _ (λ _. spared_fielded _ _ (at 1, at 2))
    (λ _. by_test Fielded _ _ _ (λ _. spared_fielded _ _ (at 1, at 2))
    (λ _. by_test Fielded _ _ _ (λ _. spared_fielded _ _ (at 1, at 2))
    (λ _. by_test Fielded _ _ _ (λ _. spared_fielded _ _ (at 1))
    (λ _. by_test Fielded _ _ _ (λ _. spared_fielded _ _ (at 1))
    (λ _. by_test Fielded _ _ _ (λ _. spared_fielded _ _ (at 1))
    (λ _. by_test Fielded _ _ _ (λ _. spared_fielded _ _ (at 1)) (λ _. tt)))))))))
