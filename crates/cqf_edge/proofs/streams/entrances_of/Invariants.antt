use Rattle.std.proofs.Common.{◌≡◌, drop, length, map}
use Rattle.std.specs.Prelude.{All}
use Rattle.cqf_topology.specs.DomainText.{with_front}
use Rattle.cqf_network.specs.StreamsText.{stream_text}
use Rattle.cqf_edge.specs.EdgeStreams.{IsEntranceOne, entrances_of}
use Rattle.cqf_edge.proofs.streams.entrances_of.Given as goal

abbrev pub invariant-loop-stream : goal.invariant-loop-stream
invariant-loop-stream l =
    (with_front l.entrances.items (entrances_of l.network (map stream_text (drop l.stream-index l.streams)))
    ≡ entrances_of l.network (map stream_text l.streams))
    × All (IsEntranceOne l.network) l.entrances.items
    × (length l.entrances.items ≡ l.stream-index)
