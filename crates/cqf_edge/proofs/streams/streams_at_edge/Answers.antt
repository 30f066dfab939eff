use Rattle.std.proofs.Common.{◌≡◌, ◌∙◌, ◌+◌, ◌++◌, ◌<◌, [], List, ap, append-nil, arith, drop, length, map, refl, suc, sym}
use Rattle.std.proofs.lemmas.List.{nil_from_length}
use Rattle.std.specs.Vec.Iter.{into_iter_items}
use Rattle.cqf_network.specs.declared.streams.Stream.{Stream}
use Rattle.cqf_network.specs.StreamsText.{stream_text}
use Rattle.cqf_edge.specs.EdgeFlows.{IsPassageOne}
use Rattle.cqf_edge.specs.EdgeStreams.{stream_at_edge, streams_at_edge}
use Rattle.cqf_edge.proofs.Mapped.{at_item, one_longer, three_next}
use Rattle.cqf_edge.proofs.streams.streams_at_edge.Goals as goal

pub loop-stream-init : goal.loop-stream-init
loop-stream-init c =
    let network = c.args.network.now in
    let entrances = c.args.entrances.now in
    let passages = c.args.passages.now in
    let items = into_iter_items c.into_iter-stream-iterator.result in
    let given = c.into_iter-stream-iterator.ensures.into_iter_gives.0 in
    let none : length c.in_ok-streams.streams.items ≡ 0 = ap length c.in_ok-streams.ensures.items in
    let all : length items ≡ length c.args.all.items = ap length given in (
      ap (λ (ss : List Stream). map stream_text ss
          ++ streams_at_edge network (drop (length ss) entrances) (drop (length ss) passages) (map stream_text items)) c.in_ok-streams.ensures.items
          ∙ ap (λ (xs : List Stream). streams_at_edge network entrances passages (map stream_text xs)) given,
      omega (arith, none, all, c.requires.each_passage),
    )

pub stream_at_edge-requires-clause-entrance : goal.stream_at_edge-requires-clause-entrance
stream_at_edge-requires-clause-entrance c =
    let entrances = c.args.entrances.now in
    let passages = c.args.passages.now in
    let index = c.len-index.result in
    let at : index ≡ length c.loop-stream.streams.items = c.len-index.ensures ∙ c.loop-stream.streams.ok.0 in
    let front : length (into_iter_items c.loop-stream.stream-iterator) ≡ suc (length (into_iter_items c.next.new.self)) =
    ap length c.in-Some.ensures.steps.0 in
    let inside : index < length passages = omega (arith, at, front, c.loop-stream.invariant.1) in
    let within : index < length entrances = omega (arith, inside, c.requires.each_entrance, c.requires.each_passage) in
    c.requires.entrances index _ within

pub stream_at_edge-requires-clause-passage : goal.stream_at_edge-requires-clause-passage
stream_at_edge-requires-clause-passage c =
    let passages = c.args.passages.now in
    let index = c.len-index.result in
    let at : index ≡ length c.loop-stream.streams.items = c.len-index.ensures ∙ c.loop-stream.streams.ok.0 in
    let front : length (into_iter_items c.loop-stream.stream-iterator) ≡ suc (length (into_iter_items c.next.new.self)) =
    ap length c.in-Some.ensures.steps.0 in
    let inside : index < length passages = omega (arith, at, front, c.loop-stream.invariant.1) in
    at_item IsPassageOne passages index c.index-passages-index.result inside c.index-passages-index.is c.requires.ready

pub loop-stream-preserved : goal.loop-stream-preserved
loop-stream-preserved c =
    let network = c.args.network.now in
    let entrances = c.args.entrances.now in
    let passages = c.args.passages.now in
    let rest = into_iter_items c.next.new.self in
    let done = c.loop-stream.streams.items in
    let p = c.index-passages-index.result in
    let stream = c.stream_at_edge.result in
    let index = c.len-index.result in
    let at : index ≡ length c.loop-stream.streams.items = c.len-index.ensures ∙ c.loop-stream.streams.ok.0 in
    let front : length (into_iter_items c.loop-stream.stream-iterator) ≡ suc (length (into_iter_items c.next.new.self)) =
    ap length c.in-Some.ensures.steps.0 in
    let inside : index < length passages = omega (arith, at, front, c.loop-stream.invariant.1) in
    let within : index < length entrances = omega (arith, inside, c.requires.each_entrance, c.requires.each_passage) in
    let longer : length c.push.new.self.items ≡ index + 1 = one_longer done _ stream index c.in_ok-push.ensures.items (sym at) in (
      three_next stream_text (λ e q s. stream_at_edge network e q (stream_text s)) (λ es qs ss. streams_at_edge network es qs (map stream_text ss))
          (λ e es q qs s ss. refl) entrances passages index _ _ p p done _ stream c.in-Some.stream _ rest within inside refl c.index-passages-index.is at
          c.in_ok-push.ensures.items c.in-Some.ensures.steps.0 c.stream_at_edge.ensures
          ∙ c.loop-stream.invariant.0,
      omega (arith, longer, front, at, c.loop-stream.invariant.1),
    )

pub returns : goal.returns
returns c =
    let network = c.args.network.now in
    let entrances = c.args.entrances.now in
    let passages = c.args.passages.now in
    let streams = c.loop-stream.streams.items in
    let left = into_iter_items c.loop-stream.stream-iterator in
    let none : left ≡ [] = nil_from_length left (sym c.loop-stream.stream-iterator.rest.ok.0 ∙ c.in-None.ensures.steps.0) in
    sym (ap (λ (xs : List Stream). map stream_text streams
    ++ streams_at_edge network (drop (length streams) entrances) (drop (length streams) passages) (map stream_text xs)) none
    ∙ append-nil (map stream_text streams))
    ∙ c.loop-stream.invariant.0
