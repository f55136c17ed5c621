-- A step's refusal is 0 exactly where it passes each of its tests, and otherwise 7 to 14 or 23.
use Prim.Native.Nat.{ℕ, ◌<◌, ◌≤◌}
use native.Mathlib.Omega.{arith}
use mathlib.Core.Path.{◌≡◌, refl, sym}
use mathlib.Core.Logic.{◌⊎◌, inl, inr}
use mathlib.Core.Bool.{Bool, true, false}
use lib.Dec.{eqb}
use borrow.Author.Tests.{leb-false, lt-leb, ne_eqb}
use Rattle.base.specs.Choice.{when◌then◌else◌}
use Rattle.base.specs.Refusals.{number, named}
use Rattle.base.proofs.RefusalLaws.{number_named}
use Rattle.base.proofs.Choices.{on_true, on_false, by_test, passed}
use Rattle.requests.specs.declared.Phase.{Phase}
use Rattle.floor.specs.Refusals.{begin_refusal, serve_refusal, deliver_refusal, stop_refusal, leave_refusal, return_refusal, refusal_on}
use Rattle.floor.specs.Tests.{CanBegin, CanServe, CanDeliver, CanStop, CanLeave, CanReturn, RefusalOfStep}
use Rattle.floor.specs.declared.Floor.{Floor}
use Rattle.commands.specs.declared.Command.{Command}
use Rattle.commands.specs.declared.Command.TheVariants.{Begin, Serve, Deliver, Stop, Leave, Return, Malformed}

-- the last test, which has to hold
met : (t : Bool) (k : ℕ) → (when t then 0 else k) ≡ 0 → 0 < k → t ≡ true
unfolding when◌then◌else◌
met true k e h = refl
met false k e h = absurd (omega arith)

not_zero : (u : ℕ) → 0 < u → eqb u 0 ≡ false
not_zero u h = ne_eqb u 0 (λ (e : u ≡ 0). omega arith)

module _ (f : Floor) where
  module _ (s round : ℕ) where
    pub begin_means : begin_refusal f s round ≡ 0 → CanBegin f s round
    unfolding begin_refusal
    begin_means e =
        let x₁ = passed _ _ _ e (omega arith) in
        let x₂ = passed _ _ _ x₁.1 (omega arith) in
        let x₃ = passed _ _ _ x₂.1 (omega arith) in
        let x₄ = passed _ _ _ x₃.1 (omega arith) in
        let x₅ = passed _ _ _ x₄.1 (omega arith) in
        let x₆ = passed _ _ _ x₅.1 (omega arith) in
        record {
          station = leb-false _ _ x₁.0;
          here = x₂.0;
          not_busy = x₃.0;
          later = leb-false _ _ x₅.0;
          row = leb-false _ _ x₆.0;
        }

    pub begin_holds : CanBegin f s round → begin_refusal f s round ≡ 0
    unfolding begin_refusal
    begin_holds d =
        sym (on_false _ (lt-leb _ _ d.station) (on_false _ d.here (on_false _ d.not_busy
        (on_false _ (not_zero round (omega (arith, d.later))) (on_false _ (lt-leb _ _ d.later) (on_false _ (lt-leb _ _ d.row) refl))))))

  module _ (p : Phase) (a b : ℕ) where
    pub serve_means : serve_refusal f p a b ≡ 0 → CanServe f p a b
    unfolding serve_refusal
    serve_means e =
        let x₁ = passed _ _ _ e (omega arith) in
        let x₂ = passed _ _ _ x₁.1 (omega arith) in
        let x₃ = passed _ _ _ x₂.1 (omega arith) in
        record { used = leb-false _ _ x₁.0; box = leb-false _ _ x₂.0; not_away = x₃.0; waits = met _ _ x₃.1 (omega arith) }

    pub serve_holds : CanServe f p a b → serve_refusal f p a b ≡ 0
    unfolding serve_refusal
    serve_holds d =
        sym (on_false _ (lt-leb _ _ d.used) (on_false _ (lt-leb _ _ d.box) (on_false _ d.not_away (on_true _ d.waits refl))))

    pub deliver_means : deliver_refusal f p a b ≡ 0 → CanDeliver f p a b
    unfolding deliver_refusal
    deliver_means e =
        let x₁ = passed _ _ _ e (omega arith) in
        let x₂ = passed _ _ _ x₁.1 (omega arith) in
        let x₃ = passed _ _ _ x₂.1 (omega arith) in
        record { used = leb-false _ _ x₁.0; box = leb-false _ _ x₂.0; here = x₃.0; arrives = met _ _ x₃.1 (omega arith) }

    pub deliver_holds : CanDeliver f p a b → deliver_refusal f p a b ≡ 0
    unfolding deliver_refusal
    deliver_holds d =
        sym (on_false _ (lt-leb _ _ d.used) (on_false _ (lt-leb _ _ d.box) (on_false _ d.here (on_true _ d.arrives refl))))

  pub stop_means : (b : ℕ) → stop_refusal f b ≡ 0 → CanStop f b
  unfolding stop_refusal
  stop_means b e =
      let x₁ = passed _ _ _ e (omega arith) in
      let x₂ = passed _ _ _ x₁.1 (omega arith) in
      record { box = leb-false _ _ x₁.0; not_away = x₂.0 }

  pub stop_holds : (b : ℕ) → CanStop f b → stop_refusal f b ≡ 0
  unfolding stop_refusal
  stop_holds b d = sym (on_false _ (lt-leb _ _ d.box) (on_false _ d.not_away refl))

  pub leave_means : (s : ℕ) → leave_refusal f s ≡ 0 → CanLeave f s
  unfolding leave_refusal
  leave_means s e =
      let x₁ = passed _ _ _ e (omega arith) in
      let x₂ = passed _ _ _ x₁.1 (omega arith) in
      record { station = leb-false _ _ x₁.0; here = x₂.0 }

  pub leave_holds : (s : ℕ) → CanLeave f s → leave_refusal f s ≡ 0
  unfolding leave_refusal
  leave_holds s d = sym (on_false _ (lt-leb _ _ d.station) (on_false _ d.here refl))

  pub return_means : (b : ℕ) → return_refusal f b ≡ 0 → CanReturn f b
  unfolding return_refusal
  return_means b e = let x₁ = passed _ _ _ e (omega arith) in record { box = leb-false _ _ x₁.0; away = met _ _ x₁.1 (omega arith) }

  pub return_holds : (b : ℕ) → CanReturn f b → return_refusal f b ≡ 0
  unfolding return_refusal
  return_holds b d = sym (on_false _ (lt-leb _ _ d.box) (on_true _ d.away refl))

-- a step's refusal has its number by its name
pub named_back : (k : ℕ) → RefusalOfStep k → number (named k) ≡ k
named_back k h = number_named k (omega (arith, h)) (omega (arith, h))

-- 0, or the number of a refusal
abbrev pub Numbered : ℕ → Type 0
Numbered k = (k ≡ 0) ⊎ RefusalOfStep k

or_else : (t : Bool) (k x : ℕ) → 6 ≤ k → k ≤ 14 → Numbered x → Numbered (when t then k else x)
or_else t k x l h r = by_test Numbered t k x (λ _. inr (inl (l, h))) (λ _. r)

finally : (t : Bool) (k : ℕ) → RefusalOfStep k → Numbered (when t then 0 else k)
finally t k h = by_test Numbered t 0 k (λ _. inl refl) (λ _. inr h)

module _ (f : Floor) (p : Phase) (a b : ℕ) where
  serve_numbered : Numbered (serve_refusal f p a b)
  unfolding serve_refusal
  serve_numbered =
      or_else _ _ _ (omega arith) (omega arith) (or_else _ _ _ (omega arith) (omega arith) (or_else _ _ _ (omega arith) (omega arith)
      (finally _ _ (inl (omega arith, omega arith)))))

  deliver_numbered : Numbered (deliver_refusal f p a b)
  unfolding deliver_refusal
  deliver_numbered =
      or_else _ _ _ (omega arith) (omega arith) (or_else _ _ _ (omega arith) (omega arith) (or_else _ _ _ (omega arith) (omega arith)
      (finally _ _ (inl (omega arith, omega arith)))))

pub refusal_numbered : (f : Floor) (c : Command) → Numbered (refusal_on f c)
unfolding begin_refusal stop_refusal leave_refusal return_refusal
refusal_numbered f (Begin s round v) =
    or_else _ _ _ (omega arith) (omega arith) (or_else _ _ _ (omega arith) (omega arith) (or_else _ _ _ (omega arith) (omega arith)
    (or_else _ _ _ (omega arith) (omega arith) (or_else _ _ _ (omega arith) (omega arith) (or_else _ _ _ (omega arith) (omega arith)
    (inl refl))))))
refusal_numbered f (Serve p a b) = serve_numbered f p a b
refusal_numbered f (Deliver p a b) = deliver_numbered f p a b
refusal_numbered f (Stop b) = or_else _ _ _ (omega arith) (omega arith) (or_else _ _ _ (omega arith) (omega arith) (inl refl))
refusal_numbered f (Leave s) = or_else _ _ _ (omega arith) (omega arith) (or_else _ _ _ (omega arith) (omega arith) (inl refl))
refusal_numbered f (Return b) = or_else _ _ _ (omega arith) (omega arith) (finally _ _ (inr refl))
refusal_numbered f Malformed = inr (inl (omega arith, omega arith))
