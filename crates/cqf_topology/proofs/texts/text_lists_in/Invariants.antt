use Rattle.std.proofs.Common.{◌≡◌, drop, map, string_bytes}
use Rattle.toml.specs.View.{items_view}
use Rattle.cqf_topology.specs.Fields.{text_lists_from}
use Rattle.cqf_topology.proofs.Arrays.{with_front}
use Rattle.cqf_topology.proofs.texts.text_lists_in.Given as goal

abbrev pub invariant-loop-value : goal.invariant-loop-value
invariant-loop-value l =
    with_front (map (λ texts. map string_bytes texts.items) l.lists.items) (text_lists_from l.key (items_view (drop l.value-index l.values)))
    ≡ text_lists_from l.key (items_view l.values)
