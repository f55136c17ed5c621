use Prim.Native.Nat.{ℕ, ◌<◌}
use native.Mathlib.Omega.{arith}
use mathlib.Core.Path.{◌≡◌}
use borrow.Author.Rules.{rules}
use borrow.Author.Tests.{tests}
use lib.ListN.{length, get_or}
use Rattle.std.specs.List.{range_with_len}
use Rattle.std.proofs.lemmas.Iterator.{YieldsList-from_range, YieldsList-from_take}
use Rattle.std.proofs.lemmas.List.FromFn.{length-range_with_len, get_or-range_with_len}
use Rattle.std.proofs.lemmas.Iterator.Adapters.{serves_from_places}
use Rattle.std.proofs.lemmas.Iterator.Consumers.{YieldsList-at, YieldsList-from_filter, YieldsList-turn, YieldsList-end}
use Rattle.solo.proofs.WrittenLaws.{answers_at, writing_none, box_asked, room_left, writing_all}
use Rattle.solo.proofs.put_phase.Goals as goal

pub loop-b-init : goal.loop-b-init
loop-b-init c =
    let n = c.args.n in
    let below : (x k : ℕ) → k < length (range_with_len 0 n) → x ≡ get_or (range_with_len 0 n) k x → x < 9 = λ x k h e.
    omega (arith, e, h, get_or-range_with_len 0 n k x (omega (arith, h, length-range_with_len 0 n)), length-range_with_len 0 n, c.requires.0) in
    ((tt, tt, serves_from_places (YieldsList-from_range 0 n n (cc) (omega arith)) (λ x q k. search (rules, tests)) (λ x k h e. let b : x < 9 = below x k h e in search (rules, tests))), tt, writing_none _ _ _ _)

pub overflow_add-end : goal.overflow_add-end
overflow_add-end c =
    let turn = YieldsList-turn
    (YieldsList-at c.into_iter-b-iterator.ensures.into_iter_gives
    (YieldsList-from_take _
    (YieldsList-at c.take-b-items.ensures.source
    (YieldsList-from_filter _ (answers_at c.args.boxes.now) (YieldsList-from_range 0 c.args.n c.args.n c.filter.ensures.source (omega arith)) c.filter.ensures.closure (λ x r q k. search (rules, tests))))
    c.take-b-items.ensures.count))
    c.loop-b.yielded _ c.loop-b.yielded_by _ _ _ c.in-Some.is c.next.ensures.steps in
    let room = room_left c.loop-b.invariant.2 c.majority.result c.args.n c.majority.ensures _ c.requires.1 turn.0 in
    search rules

pub loop-b-preserved : goal.loop-b-preserved
loop-b-preserved c =
    let turn = YieldsList-turn
    (YieldsList-at c.into_iter-b-iterator.ensures.into_iter_gives
    (YieldsList-from_take _
    (YieldsList-at c.take-b-items.ensures.source
    (YieldsList-from_filter _ (answers_at c.args.boxes.now) (YieldsList-from_range 0 c.args.n c.args.n c.filter.ensures.source (omega arith)) c.filter.ensures.closure (λ x r q k. search (rules, tests))))
    c.take-b-items.ensures.count))
    c.loop-b.yielded _ c.loop-b.yielded_by _ _ _ c.in-Some.is c.next.ensures.steps in
    let room = room_left c.loop-b.invariant.2 c.majority.result c.args.n c.majority.ensures _ c.requires.1 turn.0 in
    (search rules, search rules, box_asked c.loop-b.invariant.2 _ _ room c.put_exchange.auto.out c.put_exchange.ensures)

pub returns-clause-within : goal.returns-clause-within
returns-clause-within c =
    let seen = YieldsList-end
    (YieldsList-at c.into_iter-b-iterator.ensures.into_iter_gives
    (YieldsList-from_take _
    (YieldsList-at c.take-b-items.ensures.source
    (YieldsList-from_filter _ (answers_at c.args.boxes.now) (YieldsList-from_range 0 c.args.n c.args.n c.filter.ensures.source (omega arith)) c.filter.ensures.closure (λ x r q k. search (rules, tests))))
    c.take-b-items.ensures.count))
    c.loop-b.yielded _ c.loop-b.yielded_by _ _ c.in-None.is c.next.ensures.steps in
    (writing_all c.loop-b.invariant.2 c.majority.result c.args.n c.majority.ensures _ seen.0).0

pub returns-clause-records : goal.returns-clause-records
returns-clause-records c =
    let seen = YieldsList-end
    (YieldsList-at c.into_iter-b-iterator.ensures.into_iter_gives
    (YieldsList-from_take _
    (YieldsList-at c.take-b-items.ensures.source
    (YieldsList-from_filter _ (answers_at c.args.boxes.now) (YieldsList-from_range 0 c.args.n c.args.n c.filter.ensures.source (omega arith)) c.filter.ensures.closure (λ x r q k. search (rules, tests))))
    c.take-b-items.ensures.count))
    c.loop-b.yielded _ c.loop-b.yielded_by _ _ c.in-None.is c.next.ensures.steps in
    (writing_all c.loop-b.invariant.2 c.majority.result c.args.n c.majority.ensures _ seen.0).1
