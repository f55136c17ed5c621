-- The laws of a part of a slice of bytes.
use mathlib.Core.Path.{◌≡◌, refl, sym, ◌∙◌, ap, ap₂}
use mathlib.Core.List.{List, [], ◌∷◌}
use Prim.Native.Nat.{ℕ, zero, suc, ◌+◌, ◌≤◌}
use native.Mathlib.Omega.{arith}
use lib.ListN.{length, take, drop, length-drop}
use lib.Seq.{take_all, take-take, drop-drop, length-take-le}
use denote.Ref.{Bor}
use Rattle.base.specs.Part.{IsPart}

-- how many bytes it has
pub part_length : (r s : Bor (List ℕ)) (a k : ℕ) → IsPart r s a k → length r.now ≡ k
part_length r s a k p = ap length p.bytes ∙ length-take-le k (drop a s.now) (rw length-drop (let h = p.within in omega arith))

-- a slice is the part of itself from its start on
pub part_whole : (s : Bor (List ℕ)) → IsPart s s 0 (length s.now)
part_whole s = record { block = refl; offset = omega arith; within = omega arith; bytes = sym (take_all (length s.now) s.now (omega arith)) }

bytes_part : (b j k : ℕ) (l : List ℕ) → b + j ≤ k → take j (drop b (take k l)) ≡ take j (drop b l)
bytes_part zero j k l h = take-take j k l (omega arith)
bytes_part (suc b) j zero l h = absurd (omega arith)
bytes_part (suc b) j (suc k) [] h = refl
bytes_part (suc b) j (suc k) (x ∷ l) h = bytes_part b j k l (omega arith)

-- a part of a part is a part of the whole
pub part_part : (r t s : Bor (List ℕ)) (a k b j : ℕ) → IsPart t s a k → IsPart r t b j → IsPart r s (a + b) j
part_part r t s a k b j p q =
    let h : b + j ≤ k = omega (arith, part_length t s a k p) in
    record {
      block = q.block ∙ p.block;
      offset = omega arith;
      within = omega arith;
      bytes =
          q.bytes
          ∙ ap (λ (l : List ℕ). take j (drop b l)) p.bytes
          ∙ bytes_part b j k (drop a s.now) h
          ∙ ap (take j) (drop-drop b a s.now);
    }

-- start and number of bytes tell the part, its place and its bytes
pub part_same : (r t s : Bor (List ℕ)) (a k : ℕ) → IsPart r s a k → IsPart t s a k → (r.ref_ptr ≡ t.ref_ptr) × (r.now ≡ t.now)
part_same r t s a k p q = (ap₂ (λ (x y : ℕ). (x, y)) (p.block ∙ sym q.block) (omega arith), p.bytes ∙ sym q.bytes)

-- and the part tells its start and its number of bytes
pub part_once : (r s : Bor (List ℕ)) (a k b j : ℕ) → IsPart r s a k → IsPart r s b j → (a ≡ b) × (k ≡ j)
part_once r s a k b j p q = (omega arith, sym (part_length r s a k p) ∙ part_length r s b j q)
