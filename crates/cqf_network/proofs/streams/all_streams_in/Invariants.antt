use Rattle.std.proofs.Common.{◌≡◌, drop, map}
use Rattle.toml.specs.View.{items_view}
use Rattle.cqf_topology.specs.DomainText.{with_front}
use Rattle.cqf_network.specs.StreamsText.{stream_text, streams_from}
use Rattle.cqf_network.proofs.streams.all_streams_in.Given as goal

abbrev pub invariant-loop-value : goal.invariant-loop-value
invariant-loop-value l =
    with_front (map stream_text l.streams.items) (streams_from (items_view (drop l.value-index l.values))) ≡ streams_from (items_view l.values)
