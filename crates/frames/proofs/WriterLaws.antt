-- What the writer's function goes by: what is said and left, by the way that the code took.
use Prim.Native.Nat.{ℕ, ◌+◌, ◌*◌, ◌≤◌, ◌<◌}
use native.Mathlib.Omega.{arith}
use mathlib.Core.Path.{◌≡◌, refl, sym, ap, ap₂, ◌∙◌}
use mathlib.Core.Bool.{false}
use mathlib.Core.List.{List, ◌++◌}
use borrow.Author.Tests.{lt-ltb, le-ltb}
use lib.Dec.{leb}
use lib.ListN.{length, take, drop}
use lib.Seq.{drop-drop}
use Rattle.std.specs.Prelude.{Result, Ok, Err}
use Rattle.base.specs.Refusals.{number_in, size_in}
use Rattle.base.specs.declared.Refusal.{Refusal}
use Rattle.base.specs.Bytes.{word32, bytes32, with_word}
use Rattle.base.specs.Choice.{when◌then◌else◌}
use Rattle.base.proofs.ByteLaws.{word_stored}
use Rattle.base.proofs.Choices.{on_true, on_false}
use Rattle.base.proofs.WritingLaws.{no_size, buffer_kept, size_is, buffer_is}
use Rattle.frames.specs.Messages.{kind_of, first_of, second_of, frame_of, wrong_message, fields_in}
use Rattle.frames.specs.Reader.{checked}
use Rattle.frames.specs.Writer.{write_refusal, written_size, written_buffer}
use Rattle.frames.specs.declared.Message.{Message}
use Rattle.frames.proofs.MessageLaws.{frame_size, frame_starts, checked_means, turned_means}

-- refusal k, the size said and the buffer left
abbrev Said : (b : List ℕ) (m : Message) (k size : ℕ) (left : List ℕ) → Type 0
Said b m k size left = (k ≡ write_refusal (length b) m) × ((size ≡ written_size (length b) m) × (left ≡ written_buffer b m))

module _ (b : List ℕ) (m : Message) where
  refused_said : (k : ℕ) → k ≡ write_refusal (length b) m → (k ≡ 0 → ⊥) → Said b m k 0 b
  unfolding written_size written_buffer
  refused_said k e f = let r = rw e at f in (e, (sym (no_size _ (frame_of m) b r), sym (buffer_kept _ (frame_of m) b r)))

  pub said_21 : (r : Refusal) → checked m ≡ Err r → (x : Result ℕ Refusal) → x ≡ Err r → Said b m (number_in x) (size_in x) b
  unfolding write_refusal
  said_21 r e x f = let w = turned_means m r e in rw (f, w.0) (refused_said 21 (on_true _ w.1 refl) (λ z. omega arith))

  -- the message is right, and its frame has this size
  module _ (o : Message) (c : checked m ≡ Ok o) (kind fields : ℕ) (e : kind ≡ kind_of m) (f : fields ≡ fields_in kind) where
    right : wrong_message m ≡ false
    right = let a = checked_means m o c in rw a.0 a.1

    sized : 4 + 4 * fields ≡ length (frame_of m)
    sized = rw (f, e) (sym (frame_size m))

    pub said_18 : length b < 4 + 4 * fields → Said b m 18 0 b
    unfolding write_refusal
    said_18 h = refused_said 18 (on_false _ right (on_true _ (lt-ltb (length b) (length (frame_of m)) (omega (arith, sized))) refl)) (λ z. omega arith)

    pub written_said : 4 + 4 * fields ≤ length b → (head first second : ℕ) (left : List ℕ)
        → head ≡ word32 0 (2 + 4 * fields_in kind) 1 kind → first ≡ first_of m → second ≡ second_of m
        → left ≡ take (4 + 4 * fields) (bytes32 head ++ (bytes32 first ++ bytes32 second)) ++ drop (4 + 4 * fields) b
        → Said b m 0 (4 + 4 * fields) left
    unfolding write_refusal written_size written_buffer
    written_said h head first second left g p q l =
        let none : 0 ≡ write_refusal (length b) m = on_false _ right (on_false _ (le-ltb (length b) (length (frame_of m)) (omega (arith, sized))) refl) in
        let frame : take (4 + 4 * fields) (bytes32 head ++ (bytes32 first ++ bytes32 second)) ≡ frame_of m = rw (g, p, q, f, e) (frame_starts m) in
        let put : left ≡ frame_of m ++ drop (length (frame_of m)) b = l ∙ ap₂ ◌++◌ frame (ap (λ (k : ℕ). drop k b) sized) in
        (none, (sized ∙ sym (size_is _ (frame_of m) b (sym none)), put ∙ sym (buffer_is _ (frame_of m) b (sym none))))

-- words put one behind the other at the start of a buffer that has room for them: b₁, b₂ and b₃ are the buffer after each
module _ (b b₁ : List ℕ) (fields head first second : ℕ) (h : 4 + 4 * fields ≤ length b) (e₁ : b₁ ≡ (when leb 4 (length b) then with_word b 0 head else b)) where
  abbrev words : List ℕ
  words = take (4 + 4 * fields) (bytes32 head ++ (bytes32 first ++ bytes32 second)) ++ drop (4 + 4 * fields) b

  one : (b₁ ≡ with_word b 0 head) × (length b₁ ≡ length b)
  one = word_stored b b₁ 0 head (omega arith) e₁

  pub no_field : fields < 1 → b₁ ≡ words
  unfolding with_word
  no_field z = let none : fields ≡ 0 = omega arith in rw none one.0

  module _ (l : 1 ≤ fields) (b₂ : List ℕ) (e₂ : b₂ ≡ (when leb 8 (length b₁) then with_word b₁ 4 first else b₁)) where
    two : (b₂ ≡ with_word b₁ 4 first) × (length b₂ ≡ length b₁)
    two = word_stored b₁ b₂ 4 first (omega (arith, one.1)) e₂

    two_is : b₂ ≡ bytes32 head ++ (bytes32 first ++ drop 8 b)
    unfolding with_word
    two_is = two.0 ∙ ap (λ (t : List ℕ). with_word t 4 first) one.0 ∙ ap (λ (t : List ℕ). bytes32 head ++ (bytes32 first ++ t)) (drop-drop 4 4 b)

    pub one_field : fields < 2 → b₂ ≡ words
    one_field z = let single : fields ≡ 1 = omega arith in rw single two_is

    pub two_fields : 2 ≤ fields → fields ≤ 2 → (b₃ : List ℕ) → b₃ ≡ (when leb 12 (length b₂) then with_word b₂ 8 second else b₂) → b₃ ≡ words
    unfolding with_word
    two_fields k z b₃ e₃ =
        let both : fields ≡ 2 = omega arith in
        let last = word_stored b₂ b₃ 8 second (omega (arith, two.1, one.1)) e₃ in
        rw both
        (last.0 ∙ ap (λ (t : List ℕ). with_word t 8 second) two_is
        ∙ ap (λ (t : List ℕ). bytes32 head ++ (bytes32 first ++ (bytes32 second ++ t))) (drop-drop 4 8 b))
