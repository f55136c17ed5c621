-- The record of 12 bytes: encoding and decoding are inverse to each other, and any 12 bytes are a register's. The reply of 8.
use mathlib.Core.Path.{◌≡◌, refl, sym, ◌∙◌, ap}
use mathlib.Core.List.{List, [], ◌∷◌, ◌++◌}
use Prim.Native.Nat.{ℕ, suc, ◌<◌}
use native.Mathlib.Omega.{arith}
use lib.Dec.{leb}
use lib.ListN.{length, get_or, take, drop, drop_of_length-le}
use lib.Seq.{drop-drop, take-add, take_all}
use Rattle.suits.specs.Suits.{single}
use Rattle.base.specs.Choice.{when◌then◌else◌}
use Rattle.base.specs.Bytes.{Bytes, bytes32, word_at, with_word}
use Rattle.base.proofs.ByteLaws.{word32_of_bytes, word_stored, word_at_fits, word_at_bytes}
use Rattle.register.specs.declared.Register.{Register}
use Rattle.firmware.specs.Firmware.{encode, decode, reply_of}
use Rattle.firmware.specs.Claims.{Fits32}

same_register : {x : Register} {a b c : ℕ} → a ≡ x.read → b ≡ x.write → c ≡ x.value.r0 → record { read = a; write = b; value = single c } ≡ x
same_register e f g = rw (e, f, g)

-- three words that were stored one behind the other are all that the record then holds, and two all that the reply does
pub record_stored : (s s₁ s₂ s₃ : List ℕ) (x : Register) → length s ≡ 12
    → s₁ ≡ (when leb 4 (length s) then with_word s 0 x.read else s)
    → s₂ ≡ (when leb 8 (length s₁) then with_word s₁ 4 x.write else s₁)
    → s₃ ≡ (when leb 12 (length s₂) then with_word s₂ 8 x.value.r0 else s₂)
    → s₃ ≡ encode x
unfolding encode with_word
record_stored s s₁ s₂ s₃ x h f₁ f₂ f₃ =
    let e₁ = word_stored s s₁ 0 x.read (omega arith) f₁ in
    let e₂ = word_stored s₁ s₂ 4 x.write (omega arith) f₂ in
    let e₃ = word_stored s₂ s₃ 8 x.value.r0 (omega arith) f₃ in
    e₃.0 ∙ ap (λ (t : List ℕ). with_word t 8 x.value.r0) (e₂.0 ∙ ap (λ (t : List ℕ). with_word t 4 x.write) e₁.0) ∙
    ap (λ (t : List ℕ). bytes32 x.read ++ (bytes32 x.write ++ (bytes32 x.value.r0 ++ t)))
    (ap (drop 4) (drop-drop 4 4 s) ∙ drop-drop 4 8 s ∙ drop_of_length-le s {i = 12} (omega (arith, h)))

pub reply_stored : (s s₁ s₂ : List ℕ) (rank value : ℕ) → length s ≡ 8
    → s₁ ≡ (when leb 4 (length s) then with_word s 0 rank else s)
    → s₂ ≡ (when leb 8 (length s₁) then with_word s₁ 4 value else s₁)
    → s₂ ≡ reply_of rank value
unfolding reply_of with_word
reply_stored s s₁ s₂ rank value h f₁ f₂ =
    let e₁ = word_stored s s₁ 0 rank (omega arith) f₁ in
    let e₂ = word_stored s₁ s₂ 4 value (omega arith) f₂ in
    e₂.0 ∙ ap (λ (t : List ℕ). with_word t 4 value) e₁.0 ∙
    ap (λ (t : List ℕ). bytes32 rank ++ (bytes32 value ++ t)) (drop-drop 4 4 s ∙ drop_of_length-le s {i = 8} (omega (arith, h)))

-- what a slice of the code holds is bytes
pub all_bytes : (s : List ℕ) → ((i : ℕ) → get_or s i 0 < 256) → Bytes s
all_bytes [] f = tt
all_bytes (x ∷ s) f = (f 0, all_bytes s (λ i. f (suc i)))

-- what was encoded is decoded
pub decode_encode : (x : Register) → decode (encode x) ≡ x
unfolding encode decode word_at
decode_encode x = same_register (word32_of_bytes x.read) (word32_of_bytes x.write) (word32_of_bytes x.value.r0)

-- an encoded register is 12 bytes
pub encode_length : (x : Register) → length (encode x) ≡ 12
unfolding encode
encode_length x = refl

pub encode_bytes : (x : Register) → Fits32 x → Bytes (encode x)
unfolding encode
encode_bytes x f = omega arith

-- a reply holds the rank and the value that it was filled with
pub reply_words : (rank value : ℕ) → (word_at (reply_of rank value) 0 ≡ rank) × (word_at (reply_of rank value) 4 ≡ value)
unfolding reply_of word_at
reply_words rank value = (word32_of_bytes rank, word32_of_bytes value)

-- 12 bytes are three times four
three_parts : (s : List ℕ) → length s ≡ 12 → s ≡ take 4 (drop 0 s) ++ (take 4 (drop 4 s) ++ take 4 (drop 8 s))
three_parts s h =
    sym (take_all 12 s (omega arith)) ∙ take-add 4 8 s ∙
    ap (λ (t : List ℕ). take 4 s ++ t) (take-add 4 4 (drop 4 s) ∙ ap (λ (t : List ℕ). take 4 (drop 4 s) ++ take 4 t) (drop-drop 4 4 s))

module _ (s : List ℕ) (b : Bytes s) where
  -- any bytes decode
  pub decode_fits : Fits32 (decode s)
  unfolding decode
  decode_fits = record { read = word_at_fits s b 0; write = word_at_fits s b 4; value = word_at_fits s b 8 }

  -- and 12 are what their register is encoded as
  pub encode_decode : length s ≡ 12 → encode (decode s) ≡ s
  unfolding encode decode
  encode_decode h =
      let e₀ = word_at_bytes s b 0 (omega arith) in
      let e₁ = word_at_bytes s b 4 (omega arith) in
      let e₂ = word_at_bytes s b 8 (omega arith) in
      cc (three_parts s h)

  -- a read rank stored in 12 bytes is the register with that rank
  pub rank_stored : (s' : List ℕ) (rank : ℕ) → length s ≡ 12 → s' ≡ (when leb 4 (length s) then with_word s 0 rank else s)
      → s' ≡ encode (record { read = rank; write = (decode s).write; value = (decode s).value })
  unfolding encode decode with_word
  rank_stored s' rank h f = (word_stored s s' 0 rank (omega arith) f).0 ∙ ap (λ (t : List ℕ). bytes32 rank ++ drop 4 t) (sym (encode_decode h))
