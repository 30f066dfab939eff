use Rattle.std.proofs.Common.{◌∙◌, ◌<◌, arith, length, map, refl}
use Rattle.std.proofs.lemmas.List.Elements.{All-push, All-same}
use Rattle.cqf_network.specs.StreamsText.{stream_text}
use Rattle.cqf_edge.specs.EdgeFlows.{IsHandedOne}
use Rattle.cqf_edge.specs.EdgeStreams.{IsWrittenStream, handed_at, handed_at_each}
use Rattle.cqf_edge.proofs.Mapped.{at_mapped, both_next, one_longer}
use Rattle.cqf_edge.proofs.streams.handed_at_each.Goals as goal

pub loop-index-preserved : goal.loop-index-preserved
loop-index-preserved c =
    let network = c.args.network.now in
    let streams = c.args.streams.now in
    let entrances = c.args.entrances.now in
    let k = c.loop-index.index in
    let done = c.loop-index.handed.items in
    let stream = c.index-streams-index.result in
    let inside : k < length streams = omega (arith, c.loop-index-test.true) in
    let within : k < length entrances = omega (arith, inside, c.requires.each) in (
      both_next (λ s e. handed_at c.args.network.now.overhead (stream_text s) e) (λ ss es. handed_at_each c.args.network.now.overhead (map stream_text ss) es) (λ s ss e es. refl) streams entrances k stream stream
          _ _ done _ c.handed_at.result inside within c.index-streams-index.is refl c.in_ok-push.ensures.items c.handed_at.ensures.value
          ∙ c.loop-index.invariant.0,
      All-same (IsHandedOne network) _ _ c.in_ok-push.ensures.items
          (All-push (IsHandedOne network) done c.handed_at.result c.loop-index.invariant.1 c.handed_at.ensures.inside),
      one_longer done _ c.handed_at.result k c.in_ok-push.ensures.items c.loop-index.invariant.2,
    )

pub handed_at-requires-clause-inside : goal.handed_at-requires-clause-inside
handed_at-requires-clause-inside c =
    let inside : c.loop-index.index < length c.args.entrances.now = omega (arith, c.loop-index-test.true, c.requires.each) in
    c.requires.inside c.loop-index.index _ inside

pub handed_at-requires-clause-written : goal.handed_at-requires-clause-written
handed_at-requires-clause-written c =
    at_mapped IsWrittenStream stream_text c.args.streams.now c.loop-index.index c.index-streams-index.result c.loop-index-test.true
    c.index-streams-index.is c.requires.written
