-- Document 02, wish 3: the writer of frames.
use Rattle.std.specs.Prelude.{ℕ, List, ltb, length}
use Rattle.base.specs.Choice.{when◌then◌else◌}
use Rattle.base.specs.Writing.{size_written, buffer_written}
use Rattle.frames.specs.Messages.{frame_of, wrong_message}
use Rattle.frames.specs.declared.Message.{Message}

-- "The writer gives 21, then 18": 18 where a buffer of `room` bytes is shorter than the frame; 0 where the frame is written
unfoldable pub write_refusal : (room : ℕ) (m : Message) → ℕ
write_refusal room m =
    when wrong_message m then 21
    else when ltb room (length (frame_of m)) then 18
    else 0

-- "The writer returns the size"; 0 where nothing is written
unfoldable pub written_size : (room : ℕ) (m : Message) → ℕ
written_size room m = size_written (write_refusal room m) (frame_of m)

-- "bytes behind and a refused buffer are unchanged"
unfoldable pub written_buffer : (buffer : List ℕ) (m : Message) → List ℕ
written_buffer buffer m = buffer_written (write_refusal (length buffer) m) (frame_of m) buffer
