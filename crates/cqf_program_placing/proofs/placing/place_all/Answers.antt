use Rattle.cqf_program_placing.proofs.IndexLemmas.{one_placed, placeable_there}
use Rattle.cqf_program_placing.proofs.placing.place_all.Goals as goal

pub place_one-requires-clause-placeable : goal.place_one-requires-clause-placeable
place_one-requires-clause-placeable c =
    placeable_there c.args.domain.now c.args.streams.now c.loop-stream.stream-index c.stream-item.result c.loop-stream-test.true c.stream-item.is
    c.requires.placeable

pub loop-stream-preserved : goal.loop-stream-preserved
loop-stream-preserved c = record {
  placed = one_placed c.args.domain.now c.args.streams.now c.loop-stream.stream-index c.stream-item.result c.loop-stream.admission c.place_one.new.admission
      c.loop-stream.outcomes.items c.push.new.self.items c.in_ok-outcome.outcome c.state_follows_history.ensures.counted c.loop-stream-test.true c.stream-item.is
      c.loop-stream.invariant.placed c.in_ok-outcome.ensures.domain c.in_ok-outcome.ensures.placed c.in_ok-push.ensures.items;
  known = c.in_ok-outcome.ensures.known;
}
