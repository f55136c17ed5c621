use Rattle.std.proofs.Common.{◌≡◌, ◌+◌, max, ℕ}
use native.Mathlib.Omega.{arith}
use mathlib.Core.Path.{refl, sym, ap, subst, ◌∙◌}
use Rattle.register.specs.declared.Register.{Register}
use Rattle.tally.specs.declared.Tally.{Tally}
use Rattle.tally.proofs.TallyLaws.{Joined, joined_away, joined_going, joined_last}
use Rattle.tally.proofs.tally_of.Goals.{then-not-b, else-not-b}
use Rattle.tally.proofs.tally_of.Goals as goal

pub loop-b-preserved : goal.loop-b-preserved
loop-b-preserved c = elim c.if-not-b.branch [
  | then-not-b w ↦ (
    let n : c.if-not-b.t.count ≡ c.loop-b.t.count + 1 = ap (λ (t : Tally). t.count) w.t-is in omega (arith, c.loop-b.invariant.0),
    subst (Joined c.args.d c.args.boxes.now (c.loop-b.b-index + 1))
        (sym (w.t-is ∙ ap (λ (h : ℕ). record { count = c.loop-b.t.count + 1; highest = h }) (w.max.ensures ∙ ap (λ (r : Register). max c.loop-b.t.highest r.write) w.of.ensures)))
        (joined_going c.args.d c.args.boxes.now c.loop-b.b-index _ _ c.loop-b-test.true refl c.loop-b.t c.loop-b.invariant.1 w.if-not-b.true),
  )
  | else-not-b w ↦ (
    let n : c.if-not-b.t.count ≡ c.loop-b.t.count = ap (λ (t : Tally). t.count) w.t-is in omega (arith, c.loop-b.invariant.0),
    subst (Joined c.args.d c.args.boxes.now (c.loop-b.b-index + 1)) (sym w.t-is)
        (joined_away c.args.d c.args.boxes.now c.loop-b.b-index _ _ c.loop-b-test.true refl c.loop-b.t c.loop-b.invariant.1 w.if-not-b.false),
  )
]

pub returns : goal.returns
returns c = joined_last c.args.d c.args.boxes.now c.loop-b.b-index c.loop-b.t c.loop-b-test.false c.loop-b.invariant.1
