use Rattle.std.proofs.Common.{◌≡◌, ◌++◌, ◌+◌, drop, length, map}
use Rattle.std.specs.Vec.Iter.{into_iter_items}
use Rattle.cqf_network.specs.StreamsText.{stream_text}
use Rattle.cqf_edge.specs.EdgeStreams.{streams_at_edge}
use Rattle.cqf_edge.proofs.streams.streams_at_edge.Given as goal

-- those so far are the first, and the others are still to come
abbrev pub invariant-loop-stream : goal.invariant-loop-stream
invariant-loop-stream l =
    let k = length l.streams.items in
    (map stream_text l.streams.items
    ++ streams_at_edge l.network (drop k l.entrances) (drop k l.passages) (map stream_text (into_iter_items l.stream-iterator))
    ≡ streams_at_edge l.network l.entrances l.passages (map stream_text l.fn.all.items))
    × (k + length (into_iter_items l.stream-iterator) ≡ length l.passages)
