use Prim.Native.Nat.{ℕ, ◌+◌, ◌≤◌}
use native.Mathlib.Omega.{arith}
use mathlib.Core.Path.{◌∙◌, ap}
use Rattle.suits.specs.Suits.{single}
use Rattle.commands.specs.declared.Command.TheVariants.{Begin}
use Rattle.attempts.specs.Rows.{row_department}
use Rattle.attempts.proofs.RowDepartments.{row_own}
use Rattle.floor.specs.Floors.{used_of}
use Rattle.floor.specs.declared.Share.{Share}
use Rattle.floor.proofs.UseLaws.{of_use}
use Rattle.floor.proofs.FreeLaws.{next_full}
use Rattle.floor.proofs.SearchLaws.{seeking, looking_ends}
use Rattle.steps.proofs.free.next_sound.Goals as goal

-- all 64 are in use, so that each has a station
pub bounds-f-w : goal.bounds-f-w
bounds-f-w c =
    let d = c.args.d in
    let z = c.requires in
    let k = c.loop-k.k in
    let e = c.first_row-first.ensures in
    let full = c.if-used-lt64.false in
    let own = ap (λ (i : ℕ). row_department (i + k)) e ∙ row_own d k c.loop-k-test.true in
    omega (arith, z.stations _ (of_use c.args.f.now d _ own (omega (arith, c.loop-k-test.true, e, full, ap (λ (s : Share). s.used) c.of-used.ensures))), z.station_most)

pub returns : goal.returns
returns c =
    let f = c.args.f.now in
    let d = c.args.d in
    let full : 64 ≤ used_of f d = omega (arith, c.if-used-lt64.false, ap (λ (s : Share). s.used) c.of-used.ensures) in
    c.row.ensures ∙ looking_ends f d (Begin 0 0 (single 0)) _ _ (omega (arith, c.loop-k.auto)) c.loop-k-test.false (seeking full (next_full f d full) c.loop-k.invariant)
