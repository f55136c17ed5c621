-- Document 02, wish 3: the writer of frames as box firmware in C calls it, with a message's kind by number. `given` is what the numbers make,
-- a message or 21; then it is the writer's.
use Rattle.std.specs.Prelude.{ℕ, List, Result, Ok, Err}
use Rattle.base.specs.Refusals.{number}
use Rattle.base.specs.declared.Refusal.{Refusal}
use Rattle.frames.specs.Writer.{write_refusal, written_size, written_buffer}
use Rattle.frames.specs.declared.Message.{Message}

-- "The writer gives 21, then 18"
abbrev pub refusal_for : (room : ℕ) (given : Result Message Refusal) → ℕ
refusal_for room (Err r) = number r
refusal_for room (Ok m) = write_refusal room m

-- "returns the size; bytes behind and a refused buffer are unchanged"
abbrev pub size_for : (room : ℕ) (given : Result Message Refusal) → ℕ
size_for room (Err r) = 0
size_for room (Ok m) = written_size room m

abbrev pub buffer_for : (buffer : List ℕ) (given : Result Message Refusal) → List ℕ
buffer_for buffer (Err r) = buffer
buffer_for buffer (Ok m) = written_buffer buffer m
