-- Document 01, "The drill file", and document 02, wish 6, from its parts: the bytes that a drill of that version, with n boxes and m
-- stations, a label, department bytes and a list of records is written as.
use Rattle.std.specs.Prelude.{ℕ, length}
use mathlib.Core.List.{List, ◌∷◌, ◌++◌, flatten}
use Rattle.base.specs.Bytes.{bytes16}

-- "version byte 1; n; m; label length 1 to 32; the label, bytes 33 to 126; then records of 8 bytes". Wish 6 of document 02: "Version 2 of
-- the file has, after the label, one byte a station"
unfoldable pub body_of : (version n m : ℕ) (label departments : List ℕ) (records : List (List ℕ)) → List ℕ
body_of version n m label departments records = version ∷ n ∷ m ∷ length label ∷ (label ++ (departments ++ flatten records))

-- "Two bytes L, big-endian, the number of bytes after them"
unfoldable pub file_of : (version n m : ℕ) (label departments : List ℕ) (records : List (List ℕ)) → List ℕ
file_of version n m label departments records =
    let body = body_of version n m label departments records in
    bytes16 (length body) ++ body
