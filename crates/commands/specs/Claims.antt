-- What is claimed of records and outcomes. The proof is `command_claims` in proofs/Claims.
use Rattle.std.specs.Prelude.{ℕ, ◌<◌, ◌≡◌, false, List, ◌∷◌, length, Some}
use Rattle.base.specs.Bytes.{Bytes}
use Rattle.base.specs.Refusals.{number}
use Rattle.base.specs.declared.Refusal.{Refusal}
use Rattle.suits.specs.Suits.{FourBytes}
use Rattle.commands.specs.Commands.{command_of, encode_of}
use Rattle.commands.specs.Outcomes.{number_of, refusal_said, is_refused}
use Rattle.commands.specs.declared.Command.{Command}
use Rattle.commands.specs.declared.Command.TheVariants.{Begin, Serve, Deliver, Stop, Leave, Return, Malformed}
use Rattle.commands.specs.declared.Outcome.{Outcome}
use Rattle.commands.specs.declared.Outcome.TheVariants.{Refused}

-- the fields of a command as the code holds them: one byte each, the round two, the revision four
abbrev pub Fielded : (c : Command) → Type 0
Fielded (Begin s round v) = (s < 256) × (round < 65536) × FourBytes v
Fielded (Serve p a b) = (a < 256) × (b < 256)
Fielded (Deliver p a b) = (a < 256) × (b < 256)
Fielded (Stop b) = b < 256
Fielded (Leave s) = s < 256
Fielded (Return b) = b < 256
Fielded Malformed = Unit {0}

pub record CommandClaims : Type 0 where
  -- the record of a command decodes to it, and has 8 bytes
  pub decodes : (c : Command) → command_of (encode_of c) ≡ c
  pub eight : (c : Command) → length (encode_of c) ≡ 8
  pub bytes : (c : Command) → Fielded c → Bytes (encode_of c)
  -- a record of bytes has fields that the code's types hold
  pub fields : (r : List ℕ) → Bytes r → Fielded (command_of r)
  -- wish 8 of document 02: "Kind 6 is read as kind 8", whatever stands behind the kind
  pub six : (rest : List ℕ) → command_of (6 ∷ rest) ≡ command_of (8 ∷ rest)
  -- what is no refusal has the number 0
  pub accepted : (o : Outcome) → is_refused o ≡ false → number_of o ≡ 0
  -- what is refused with the number of a refusal says that refusal
  pub named : (r : Refusal) → refusal_said (Refused (number r)) ≡ Some r
