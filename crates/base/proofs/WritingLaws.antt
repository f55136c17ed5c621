-- What a writer says and leaves, by its refusal: what callers go by, so that they need not open the definitions.
use Prim.Native.Nat.{ℕ, ◌≤◌}
use native.Mathlib.Omega.{arith}
use mathlib.Core.Path.{◌≡◌, refl, sym}
use mathlib.Core.List.{List, ◌++◌}
use borrow.Author.Tests.{eq-eqb, ne_eqb}
use lib.ListN.{length, take, drop, length-append, length-drop}
use lib.Seq.{take-append_seam, drop-append_seam}
use Rattle.base.specs.Writing.{size_written, buffer_written}
use Rattle.base.proofs.Choices.{on_true, on_false}

module _ (k : ℕ) (bytes b : List ℕ) where
  -- refused
  module _ (f : k ≡ 0 → ⊥) where
    pub no_size : size_written k bytes ≡ 0
    unfolding size_written
    no_size = sym (on_false _ (ne_eqb k 0 f) refl)

    pub buffer_kept : buffer_written k bytes b ≡ b
    unfolding buffer_written
    buffer_kept = sym (on_false _ (ne_eqb k 0 f) refl)

  -- written
  module _ (z : k ≡ 0) where
    pub size_is : size_written k bytes ≡ length bytes
    unfolding size_written
    size_is = sym (on_true _ (eq-eqb k 0 z) refl)

    pub buffer_is : buffer_written k bytes b ≡ bytes ++ drop (length bytes) b
    unfolding buffer_written
    buffer_is = sym (on_true _ (eq-eqb k 0 z) refl)

    -- the bytes stand at the start of the buffer
    pub bytes_stand : take (size_written k bytes) (buffer_written k bytes b) ≡ bytes
    bytes_stand = rw (size_is, buffer_is) (take-append_seam bytes (drop (length bytes) b))

    -- all behind them is as it was
    pub behind_kept : drop (size_written k bytes) (buffer_written k bytes b) ≡ drop (size_written k bytes) b
    behind_kept = rw (size_is, buffer_is) (drop-append_seam bytes (drop (length bytes) b))

    -- and the buffer has as many bytes as before
    pub room_kept : length bytes ≤ length b → length (buffer_written k bytes b) ≡ length b
    room_kept h = rw (buffer_is, length-append bytes (drop (length bytes) b)) (omega (arith, length-drop (length bytes) b))
