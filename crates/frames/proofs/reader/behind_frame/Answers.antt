use Prim.Native.Nat.{◌-◌, ◌≤◌}
use native.Mathlib.Omega.{arith}
use mathlib.Core.Path.{refl, ◌∙◌}
use lib.ListN.{length}
use Rattle.frames.proofs.ReaderLaws.{unrefused, refused, behind_refused, start_refused, behind_whole, start_accepted, ends_within, behind_lies}
use Rattle.frames.proofs.reader.behind_frame.Goals as goal

pub returns-then-is_err : goal.returns-then-is_err
returns-then-is_err c =
    let f = refused _ _ c.read_frame.ensures.number _ c.is_err.ensures.negation c.if-is_err.true in
    let l = behind_lies _ _ _ 0 0 (record { block = refl; offset = omega arith; within = omega arith; bytes = refl }) (start_refused _ f) (behind_refused _ f) in
    record { bytes = l.0; place = l.1 }

within : (c : goal.After-frame_end-end) → c.frame_end-end.result ≤ length c.args.input.now
within c = rw c.frame_end-end.ensures (ends_within _ (unrefused _ _ c.read_frame.ensures.number _ c.is_err.ensures.negation c.if-is_err.false))

pub slice_bounds-result-count-2 : goal.slice_bounds-result-count-2
slice_bounds-result-count-2 c = within c

pub slice_bounds-result-start-2 : goal.slice_bounds-result-start-2
slice_bounds-result-start-2 c = within c

pub returns : goal.returns
returns c =
    let z = unrefused _ _ c.read_frame.ensures.number _ c.is_err.ensures.negation c.if-is_err.false in
    let ends = c.frame_end-end.ensures in
    let lies : c.frame_end-end.result ≤ length c.args.input.now = rw ends (ends_within _ z) in
    let l = behind_lies _ _ _ c.frame_end-end.result (length c.args.input.now - c.frame_end-end.result) (record { block = refl; offset = omega arith; within = omega arith; bytes = refl })
    (ends ∙ start_accepted _ z) (behind_whole _ z _ ends) in
    record { bytes = l.0; place = l.1 }
