use Rattle.std.proofs.Common.{◌≡◌, drop, map}
use Rattle.toml.specs.View.{items_view}
use Rattle.cqf_topology.specs.declared.keys.Key.TheVariants.{Streams}
use Rattle.cqf_topology.specs.Fields.{tables_from}
use Rattle.cqf_topology.specs.DomainText.{with_front}
use Rattle.cqf_topology.specs.PacedText.{paced_from, paced_text}
use Rattle.cqf_topology.proofs.paced.all_paced_in.Given as goal

abbrev pub invariant-loop-value : goal.invariant-loop-value
invariant-loop-value l =
    with_front (map paced_text l.requests.items) (tables_from Streams paced_from (items_view (drop l.value-index l.values)))
    ≡ tables_from Streams paced_from (items_view l.values)
