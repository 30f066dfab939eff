use Rattle.std.proofs.Common.{◌≡◌, ◌++◌, drop, length, map}
use Rattle.std.specs.Prelude.{All}
use Rattle.cqf_network.specs.StreamsText.{stream_text}
use Rattle.cqf_edge.specs.EdgeFlows.{IsHandedOne}
use Rattle.cqf_edge.specs.EdgeStreams.{handed_at_each}
use Rattle.cqf_edge.proofs.streams.handed_at_each.Given as goal

abbrev pub invariant-loop-index : goal.invariant-loop-index
invariant-loop-index l =
    (l.handed.items ++ handed_at_each l.network.overhead (map stream_text (drop l.index l.streams)) (drop l.index l.entrances)
    ≡ handed_at_each l.network.overhead (map stream_text l.streams) l.entrances)
    × All (IsHandedOne l.network) l.handed.items
    × (length l.handed.items ≡ l.index)
