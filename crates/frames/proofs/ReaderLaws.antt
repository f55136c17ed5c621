-- What the reader's functions go by: its definitions, one way through them at a time.
use Prim.Native.Nat.{ℕ, ◌+◌, ◌-◌, ◌*◌, ◌≤◌}
use native.Mathlib.Omega.{arith}
use mathlib.Core.Path.{◌≡◌, refl, sym, ap, ◌∙◌}
use mathlib.Core.Bool.{Bool, true, false, not}
use mathlib.Core.List.{List, []}
use borrow.Author.Tests.{le-ltb, ltb-false, eqb-true, eq-eqb, ne_eqb, not-false}
use lib.Dec.{eqb}
use lib.ListN.{length, take, drop, length-drop}
use lib.Seq.{take_all}
use denote.Ref.{Bor}
use Rattle.std.specs.Prelude.{Result, Err, is_ok}
use Rattle.base.specs.Part.{IsPart}
use Rattle.base.specs.Refusals.{number_in}
use Rattle.base.specs.declared.Refusal.{Refusal}
use Rattle.base.specs.declared.Refusal.TheVariants.{FrameLength, FrameVersion}
use Rattle.base.proofs.Cases.{by_cases}
use Rattle.base.proofs.Choices.{on_true, on_false, chosen, by_test, both_false}
use Rattle.base.proofs.PartLaws.{part_length}
use Rattle.base.proofs.RefusalLaws.{no_number, some_number}
use Rattle.frames.specs.Claims.{Whole}
use Rattle.frames.specs.Messages.{known, fields_in}
use Rattle.frames.specs.Reader.{stated_length, version_in, kind_byte, end_of, field_at, wrong_for, wrong_length, wrong_version, formed, parsed, frame_refusal, behind_start, behind_of}
use Rattle.frames.specs.declared.Message.{Message}

-- which of the three turns an input away, by the tests in their order
module _ (s : List ℕ) where
  parsed_19 : wrong_length s ≡ true → parsed s ≡ Err FrameLength
  unfolding parsed
  parsed_19 t = sym (on_true _ t refl)

  module _ (l : wrong_length s ≡ false) where
    parsed_20 : wrong_version s ≡ true → parsed s ≡ Err FrameVersion
    unfolding parsed
    parsed_20 t = sym (on_false _ l (on_true _ t refl))

    parsed_formed : wrong_version s ≡ false → parsed s ≡ formed (kind_byte s) (field_at s 4) (field_at s 8)
    unfolding parsed
    parsed_formed t = sym (on_false _ l (on_false _ t refl))

-- what it means that refusal 19 does not apply, both ways
own_means : (kind stated : ℕ) → wrong_for kind stated ≡ false → known kind ≡ true → stated ≡ 2 + 4 * fields_in kind
unfolding wrong_for
own_means kind stated e k = eqb-true stated (2 + 4 * fields_in kind) (not-false _ (sym (chosen _ k (sym e))))

own_holds : (kind stated : ℕ) → (known kind ≡ true → stated ≡ 2 + 4 * fields_in kind) → wrong_for kind stated ≡ false
unfolding wrong_for
own_holds kind stated f =
    by_cases (known kind)
    (λ t. sym (on_true _ t (ap not (sym (eq-eqb stated (2 + 4 * fields_in kind) (f t))))))
    (λ t. sym (on_false _ t refl))

module _ (s : List ℕ) where
  pub whole_means : wrong_length s ≡ false → Whole s
  unfolding wrong_length
  whole_means e =
      let a = both_false _ _ e in
      let b = both_false _ _ a.1 in
      let c = both_false _ _ b.1 in
      record {
        stated = ltb-false (length s) 2 a.0;
        within = ltb-false (length s) (end_of s) b.0;
        kinded = ltb-false (stated_length s) 2 c.0;
        own = own_means (kind_byte s) (stated_length s) c.1;
      }

  pub whole_holds : Whole s → wrong_length s ≡ false
  unfolding wrong_length
  whole_holds w =
      sym (on_false _ (le-ltb (length s) 2 w.stated) (on_false _ (le-ltb (length s) (end_of s) w.within)
      (on_false _ (le-ltb (stated_length s) 2 w.kinded) (sym (own_holds (kind_byte s) (stated_length s) w.own)))))

module _ (s : List ℕ) where
  pub gives_19 : ¬ Whole s → parsed s ≡ Err FrameLength
  gives_19 n = parsed_19 s (by_cases (wrong_length s) (λ t. t) (λ t. absurd (n (whole_means s t))))

  pub gives_20 : Whole s → ¬ (version_in s ≡ 1) → parsed s ≡ Err FrameVersion
  unfolding wrong_version
  gives_20 w n = parsed_20 s (whole_holds s w) (ap not (ne_eqb (version_in s) 1 n))

  pub gives_message : Whole s → version_in s ≡ 1 → parsed s ≡ formed (kind_byte s) (field_at s 4) (field_at s 8)
  unfolding wrong_version
  gives_message w e = parsed_formed s (whole_holds s w) (ap not (eq-eqb (version_in s) 1 e))

-- an input that is accepted is whole, of version 1, and a message
pub accepted_means : (s : List ℕ) → frame_refusal s ≡ 0 → Whole s × ((version_in s ≡ 1) × (parsed s ≡ formed (kind_byte s) (field_at s 4) (field_at s 8)))
unfolding wrong_version
accepted_means s z =
    by_cases (wrong_length s)
    (λ t. absurd (let k : ◌≡◌ {A = ℕ} 19 0 = rw (parsed_19 s t) at z in omega arith))
    (λ l. by_cases (wrong_version s)
    (λ t. absurd (let k : ◌≡◌ {A = ℕ} 20 0 = rw (parsed_20 s l t) at z in omega arith))
    (λ t. let w = whole_means s l in let v = eqb-true (version_in s) 1 (not-false _ t) in (w, (v, gives_message s w v))))

-- what an answer tells of the refusal
module _ (s : List ℕ) (p : Result Message Refusal) (e : number_in p ≡ frame_refusal s) (t : Bool) (d : is_ok p ≡ not t) where
  pub unrefused : t ≡ false → frame_refusal s ≡ 0
  unrefused f = sym e ∙ no_number p (d ∙ ap not f)

  pub refused : t ≡ true → ¬ (frame_refusal s ≡ 0)
  refused f z = some_number p (d ∙ ap not f) (e ∙ z)

-- the part behind the frame, by the refusal
module _ (s : List ℕ) where
  module _ (f : ¬ (frame_refusal s ≡ 0)) where
    pub behind_refused : [] ≡ behind_of s
    unfolding behind_of
    behind_refused = on_false _ (ne_eqb (frame_refusal s) 0 f) refl

    pub start_refused : 0 ≡ behind_start s
    unfolding behind_start
    start_refused = on_false _ (ne_eqb (frame_refusal s) 0 f) refl

  module _ (z : frame_refusal s ≡ 0) where
    pub start_accepted : end_of s ≡ behind_start s
    unfolding behind_start
    start_accepted = on_true _ (eq-eqb (frame_refusal s) 0 z) refl

    pub behind_accepted : drop (end_of s) s ≡ behind_of s
    unfolding behind_of
    behind_accepted = on_true _ (eq-eqb (frame_refusal s) 0 z) refl

    pub behind_whole : (a : ℕ) → a ≡ end_of s → take (length s - a) (drop a s) ≡ behind_of s
    behind_whole a p = take_all (length s - a) (drop a s) (rw length-drop (omega arith)) ∙ rw p behind_accepted

    pub ends_within : end_of s ≤ length s
    ends_within = (accepted_means s z).0.within

-- the part of an input that starts there and has these bytes is the part behind the frame
pub behind_lies : (s : List ℕ) (y f : Bor (List ℕ)) (a k : ℕ) → IsPart y f a k → a ≡ behind_start s → take k (drop a f.now) ≡ behind_of s
    → (y.now ≡ behind_of s) × IsPart y f (behind_start s) (length (behind_of s))
behind_lies s y f a k p e b = let same = p.bytes ∙ b in (same, rw (← e, ← same, part_length y f a k p) p)

-- behind a frame there are at least its two length bytes fewer, and behind a refused one nothing
pub behind_shorter : (s : List ℕ) → length (behind_of s) ≤ length s - 2
unfolding behind_of
behind_shorter s =
    by_test (λ (l : List ℕ). length l ≤ length s - 2) (eqb (frame_refusal s) 0) (drop (end_of s) s) []
    (λ _. rw length-drop (omega arith))
    (λ _. omega arith)
