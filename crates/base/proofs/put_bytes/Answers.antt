use Rattle.std.proofs.Common.{◌≡◌, refl, ◌∙◌, length, take, append_assoc, add-one, arith}
use lib.Seq.{paste-zero, paste-suc}
use borrow.Author.Tests.{le-leb, lt-leb}
use Rattle.std.proofs.lemmas.List.Edits.{paste_all}
use Rattle.base.specs.Bytes.{bytes_put}
use Rattle.base.proofs.Choices.{on_true, on_false}
use Rattle.base.proofs.put_bytes.Goals as goal
use Rattle.base.proofs.put_bytes.Goals.{then-s-bytes-via-then-s-bytes, then-s-bytes-via-else-s-bytes+then-s-bytes-2}

pub returns-then-s-bytes : goal.returns-then-s-bytes
unfolding bytes_put
returns-then-s-bytes c = elim c.then-s-bytes.branch [
  | then-s-bytes-via-then-s-bytes w ↦ on_false _ (lt-leb _ _ (omega arith)) refl
  | then-s-bytes-via-else-s-bytes+then-s-bytes-2 w ↦ on_false _ (lt-leb _ _ (omega arith)) refl
]

pub loop-i-init : goal.loop-i-init
loop-i-init c = record { room = omega arith; put = paste-zero c.args.s.now c.args.at c.args.bytes.now }

pub loop-i-preserved : goal.loop-i-preserved
loop-i-preserved c =
    let a = c.args in
    let k = c.loop-i in
    record { room = k.invariant.room; put = rw (k.invariant.put, add-one) (paste-suc a.s.now a.at a.bytes.now k.i 0 (omega arith) (omega arith)) }

pub returns : goal.returns
unfolding bytes_put
returns c =
    let a = c.args in
    let k = c.loop-i in
    let all : k.i ≡ length a.bytes.now = omega arith in
    on_true _ (le-leb _ _ k.invariant.room) (k.invariant.put ∙ paste_all a.s.now a.at a.bytes.now k.i all ∙ rw (all, append_assoc (take a.at a.s.now) a.bytes.now _))
