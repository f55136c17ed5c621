use Rattle.std.proofs.Common.{refl, ◌∙◌, add-zero, arith}
use Rattle.std.proofs.lemmas.List.{get_or-drop, take_rest}
use borrow.Author.Tests.{le-leb, lt-leb}
use Rattle.base.specs.Bytes.{word_at}
use Rattle.base.proofs.Choices.{on_true, on_false}
use Rattle.base.proofs.get_u32.Goals as goal

pub returns-in_default : goal.returns-in_default
returns-in_default c = on_false _ (lt-leb _ _ (grind (arith, c.in_default.ensures.lookup.0))) refl

pub returns-in_default-from : goal.returns-in_default-from
returns-in_default-from c = on_false _ (lt-leb _ _ (omega (arith, c.in-Some.ensures.lookup))) refl

pub returns-in-len4-up : goal.returns-in-len4-up
unfolding word_at
returns-in-len4-up c =
    let s = c.args.s.now in
    let part = c.in-Some.ensures.lookup.0 in
    on_true _ (le-leb _ _ (omega (arith, part, c.in-len4-up.len_at_least)))
    (simp (get_or-drop, add-zero) at (rw (part.2 ∙ take_rest s c.args.at) at c.be32.ensures))
