-- Document 01, "Places and their forms": "returned part of the caller's file slice, with a contract on which part it is".
use Rattle.std.specs.Prelude.{◌≡◌, List, ℕ, ◌+◌, ◌≤◌, length, take, drop}
use Rattle.std.specs.Borrow.{Bor}

-- r is the part of s that starts at its byte a and has k bytes: "that part of the file, without copying". A reference points to a block of
-- memory and an offset in it, counted in bytes.
pub record IsPart (r s : Bor (List ℕ)) (a k : ℕ) : Type 0 where
  pub block : r.ref_ptr.0 ≡ s.ref_ptr.0
  pub offset : r.ref_ptr.1 ≡ s.ref_ptr.1 + a
  pub within : a + k ≤ length s.now
  pub bytes : r.now ≡ take k (drop a s.now)
