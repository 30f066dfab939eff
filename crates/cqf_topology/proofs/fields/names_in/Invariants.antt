use Rattle.std.proofs.Common.{◌≡◌, drop}
use Rattle.toml.specs.View.{items_view}
use Rattle.cqf_topology.specs.Fields.{names_from}
use Rattle.cqf_topology.proofs.Arrays.{with_front}
use Rattle.cqf_topology.proofs.fields.names_in.Given as goal

abbrev pub invariant-loop-value : goal.invariant-loop-value
invariant-loop-value l =
    with_front l.names.items (names_from l.key (items_view (drop l.value-index l.values))) ≡ names_from l.key (items_view l.values)
