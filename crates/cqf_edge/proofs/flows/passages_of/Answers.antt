use Rattle.std.proofs.Common.{◌<◌, arith, length}
use Rattle.std.proofs.lemmas.List.Elements.{All-push, All-same}
use Rattle.cqf_edge.specs.EdgeFlows.{IsPassageOne, passage_of}
use Rattle.cqf_edge.proofs.Mapped.{map_next}
use Rattle.cqf_edge.proofs.flows.passages_of.Goals as goal

pub loop-one-preserved : goal.loop-one-preserved
loop-one-preserved c =
    let handed = c.args.handed.now in
    let k = c.loop-one.one-index in
    let inside : k < length handed = omega (arith, c.loop-one-test.true) in (
      map_next (passage_of c.args.network.now c.args.bounds.now) handed k c.one-item.result c.loop-one.passages.items _ c.passage_of.result inside
          c.one-item.is c.in_ok-push.ensures.items c.passage_of.ensures.value c.loop-one.invariant.0,
      All-same IsPassageOne _ _ c.in_ok-push.ensures.items (All-push IsPassageOne c.loop-one.passages.items c.passage_of.result c.loop-one.invariant.1 c.passage_of.ensures.ready),
    )
