use Rattle.std.proofs.Common.{◌≡◌, ◌≢◌, length, arith, ◌∙◌}
use Rattle.std.proofs.lemmas.Bool.Decides.{nat_tests}
use Rattle.drill.specs.Report.{lines_of}
use Rattle.drill.proofs.TextLaws.{put_few, put_twice}
use Rattle.drill.proofs.ReportLaws.{stations_most, end_put, lines_put}
use Rattle.drill.proofs.report.Goals as goal

pub returns-then-is_empty : goal.returns-then-is_empty
returns-then-is_empty c =
    let none : length c.label-label.result.now ≡ 0 = grind (arith, nat_tests) in
    c.put_end.ensures ∙ rw c.new.ensures (end_put _ _ _ c.label-label.ensures.bytes c.play-played.ensures none)

pub put_stations-requires-clause-fits : goal.put_stations-requires-clause-fits
put_stations-requires-clause-fits c = rw c.put_panel.ensures (put_few _ _)

pub put_stations-requires-clause-few : goal.put_stations-requires-clause-few
put_stations-requires-clause-few c =
    let some : length c.label-label.result.now ≢ 0 = grind (arith, nat_tests) in
    stations_most _ _ _ c.label-label.ensures.bytes c.play-played.ensures some

pub returns : goal.returns
unfolding lines_of
returns c =
    let some : length c.label-label.result.now ≢ 0 = grind (arith, nat_tests) in
    c.put_end-2.ensures
    ∙ rw (c.put_stations.ensures, c.put_panel.ensures, c.new.ensures)
    (simp put_twice (lines_put _ _ _ c.label-label.ensures.bytes c.play-played.ensures some))
