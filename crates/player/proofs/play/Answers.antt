use Rattle.std.proofs.Common.{arith}
use Rattle.player.proofs.PlayLaws.{start_within, stations_most, header_refused, header_played}
use Rattle.player.proofs.play.Goals as goal

pub slice_bounds-play_told-count : goal.slice_bounds-play_told-count
slice_bounds-play_told-count c = let w = start_within _ _ c.in-Ok.ensures.answer in omega arith

pub slice_bounds-play_told-start : goal.slice_bounds-play_told-start
slice_bounds-play_told-start c = let w = start_within _ _ c.in-Ok.ensures.answer in omega arith

pub play_told-requires : goal.play_told-requires
play_told-requires c = stations_most _ _ c.in-Ok.ensures.answer

pub returns-in-Ok : goal.returns-in-Ok
returns-in-Ok c = header_played _ _ c.in-Ok.ensures.answer _ _ c.departments.ensures.bytes c.play_told.ensures

pub returns-in-Err : goal.returns-in-Err
returns-in-Err c = header_refused _ _ _ c.in-Err.ensures.number c.new_floor.ensures
