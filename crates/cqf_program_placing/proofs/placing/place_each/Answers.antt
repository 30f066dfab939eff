use Rattle.std.proofs.Common.{arith, get_or, length}
use Rattle.std.proofs.lemmas.List.{get_or_default}
use Rattle.cqf_program_placing.proofs.InOrder.{all_in_order, one_in_order}
use Rattle.cqf_program_placing.proofs.IndexLemmas.{placeable_there}
use Rattle.cqf_program_placing.proofs.placing.place_each.Goals as goal

-- each index is that of a stream
pub bounds-streams-index : goal.bounds-streams-index
bounds-streams-index c = c.requires.inside c.loop-index.index-index 0 c.loop-index-test.true

pub offset_bounds-streams-index : goal.offset_bounds-streams-index
offset_bounds-streams-index c =
    let inside = c.requires.inside c.loop-index.index-index 0 c.loop-index-test.true in
    omega (arith, inside)

pub place_one-requires-clause-placeable : goal.place_one-requires-clause-placeable
place_one-requires-clause-placeable c =
    let k = c.loop-index.index-index in
    placeable_there c.args.domain.now c.args.streams.now (get_or c.args.order.now k 0) c.index-streams-index.result
    (c.requires.inside k 0 c.loop-index-test.true) c.index-streams-index.is c.requires.placeable

pub loop-index-preserved : goal.loop-index-preserved
loop-index-preserved c =
    let order = c.args.order.now in
    let k = c.loop-index.index-index in
    let index = get_or order k 0 in
    record {
      placed = one_in_order c.args.domain.now c.args.streams.now order k index c.index-streams-index.result c.loop-index.admission c.place_one.new.admission
          c.loop-index.outcomes.items c.push.new.self.items c.in_ok-outcome.outcome c.state_follows_history.ensures.counted c.requires.inside
          c.loop-index-test.true (get_or_default order k 0 index c.loop-index-test.true) c.index-streams-index.is c.loop-index.invariant.placed
          c.in_ok-outcome.ensures.domain c.in_ok-outcome.ensures.placed c.in_ok-push.ensures.items;
      known = c.in_ok-outcome.ensures.known;
    }

-- in the end all are placed
pub returns-clause-placed : goal.returns-clause-placed
returns-clause-placed c =
    all_in_order c.args.domain.now c.args.streams.now c.args.order.now c.loop-index.index-index c.loop-index.admission c.loop-index.outcomes.items
    c.requires.inside c.loop-index-test.false c.loop-index.invariant.placed
