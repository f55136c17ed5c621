-- A suit, the value of consensus: what a box, a row and a station keep as one, and what is decided as one. It is one revision.
use Rattle.std.specs.Prelude.{ℕ, ◌<◌, List, [], ◌∷◌}
use Rattle.suits.specs.declared.Suit.{Suit}

-- a suit of one revision
abbrev pub single : (v : ℕ) → Suit
single v = record { r0 = v }

-- Where nothing is written. It is also what a read past the end of an array gives by the language's own rule.
abbrev pub suit0 : Suit
suit0 = single 0

-- its revisions, in order
abbrev pub revisions_of : (v : Suit) → List ℕ
revisions_of v = v.r0 ∷ []

-- document 01, "A revision is a 32-bit number"; 0 is one too (wish 7)
abbrev pub FourBytes : (v : Suit) → Type 0
FourBytes v = v.r0 < 4294967296
