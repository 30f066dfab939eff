use Rattle.std.proofs.Common.{◌≡◌, drop, map, string_bytes}
use Rattle.toml.specs.View.{items_view}
use Rattle.cqf_topology.specs.Fields.{texts_from}
use Rattle.cqf_topology.proofs.Arrays.{with_front}
use Rattle.cqf_topology.proofs.texts.texts_in.Given as goal

abbrev pub invariant-loop-value : goal.invariant-loop-value
invariant-loop-value l =
    with_front (map string_bytes l.texts.items) (texts_from l.key (items_view (drop l.value-index l.values))) ≡ texts_from l.key (items_view l.values)
