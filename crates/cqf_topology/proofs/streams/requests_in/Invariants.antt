use Rattle.std.proofs.Common.{◌≡◌, drop, map}
use Rattle.toml.specs.View.{items_view}
use Rattle.cqf_topology.specs.declared.keys.Key.TheVariants.{Streams}
use Rattle.cqf_topology.specs.Fields.{tables_from}
use Rattle.cqf_topology.specs.DomainText.{with_front}
use Rattle.cqf_topology.specs.StreamsText.{request_from, request_text}
use Rattle.cqf_topology.proofs.streams.requests_in.Given as goal

abbrev pub invariant-loop-value : goal.invariant-loop-value
invariant-loop-value l =
    with_front (map request_text l.requests.items) (tables_from Streams request_from (items_view (drop l.value-index l.values)))
    ≡ tables_from Streams request_from (items_view l.values)
