-- The text that is printed, one run of bytes behind the other. The words of private contracts.
use Rattle.std.specs.Prelude.{ℕ, List, ◌++◌, take}

-- a text with more behind it, as far as there is room
unfoldable pub text_put : (text more : List ℕ) → List ℕ
text_put text more = take 2048 (text ++ more)
