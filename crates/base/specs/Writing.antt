-- Document 02, wishes 1 and 3: what a writer makes of a lent buffer. It "fills a lent buffer .. and returns its size. Bytes behind .. and
-- a refused buffer, are untouched".
use Rattle.std.specs.Prelude.{ℕ, List, ◌++◌, eqb, length, drop}
use Rattle.base.specs.Choice.{when◌then◌else◌}

-- the size said: that of the bytes written, 0 where nothing is written
unfoldable pub size_written : (refusal : ℕ) (bytes : List ℕ) → ℕ
size_written refusal bytes = when eqb refusal 0 then length bytes else 0

-- the whole buffer afterwards
unfoldable pub buffer_written : (refusal : ℕ) (bytes buffer : List ℕ) → List ℕ
buffer_written refusal bytes buffer = when eqb refusal 0 then bytes ++ drop (length bytes) buffer else buffer
