use native.Mathlib.Omega.{arith}
use mathlib.Core.Path.{◌≡◌, ◌∙◌}
use Prim.Native.Nat.{◌-◌, ◌+◌}
use lib.Dec.{ltb}
use lib.ListN.{length, take, drop}
use borrow.Author.Rules.{rules}
use Rattle.std.specs.List.{list_all}
use Rattle.base.proofs.Choices.{on_false}
use Rattle.base.proofs.Tests.{tests}
use Rattle.attempts.specs.declared.Row.{Row}
use Rattle.attempts.proofs.RowDepartments.{first_most}
use Rattle.floor.specs.Sound.{share_sound}
use Rattle.floor.proofs.SoundLaws.{below_part}
use Rattle.steps.proofs.share_sound.Goals as goal

pub returns-then-used-le64 : goal.returns-then-used-le64
unfolding share_sound
returns-then-used-le64 c =
    let f = c.args.f.now in
    let first = c.first_row-first.result in
    let used = c.of-used.result.used in
    let rows : length f.rows ≡ 128 = search rules in
    let part : first + used - first ≡ used = omega arith in
    let e : c.stations_below.result ≡ list_all (λ (w : Row). ltb w.station f.m) (take (first + used - first) (drop first f.rows)) = c.stations_below.ensures in
    rw (← c.of-used.ensures, ← c.first_row-first.ensures)
    (on_false _ (search tests) (e ∙ rw part (below_part f.rows f.m first used (omega (arith, rows, c.first_row-first.ensures, first_most c.args.d, c.if-used-le64.true)))))
