use Rattle.std.proofs.Common.{◌≡◌, drop}
use Rattle.toml.specs.View.{items_view}
use Rattle.cqf_topology.specs.Fields.{first_absent_within}
use Rattle.cqf_topology.proofs.documents.first_absent_among.Given as goal

abbrev pub invariant-loop-value : goal.invariant-loop-value
invariant-loop-value l =
    first_absent_within l.keys (items_view (drop l.value-index l.values)) ≡ first_absent_within l.keys (items_view l.values)
