use Rattle.std.proofs.Common.{◌≡◌, drop, map}
use Rattle.toml.specs.View.{items_view}
use Rattle.cqf_topology.specs.declared.keys.Key.TheVariants.{Streams}
use Rattle.cqf_topology.specs.Fields.{tables_from}
use Rattle.cqf_topology.specs.DomainText.{with_front}
use Rattle.cqf_topology.specs.PlannedText.{planned_from, planned_text}
use Rattle.cqf_topology.proofs.planned.all_planned_in.Given as goal

abbrev pub invariant-loop-value : goal.invariant-loop-value
invariant-loop-value l =
    with_front (map planned_text l.streams.items) (tables_from Streams planned_from (items_view (drop l.value-index l.values)))
    ≡ tables_from Streams planned_from (items_view l.values)
