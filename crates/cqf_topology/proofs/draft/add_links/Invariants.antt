use Rattle.std.proofs.Common.{◌≡◌, drop}
use Rattle.toml.specs.View.{items_view}
use Rattle.cqf_topology.specs.declared.keys.Key.TheVariants.{Links}
use Rattle.cqf_topology.specs.Fields.{tables_from}
use Rattle.cqf_topology.specs.DomainText.{link_read, with_front}
use Rattle.cqf_topology.proofs.draft.add_links.Given as goal

abbrev pub invariant-loop-value : goal.invariant-loop-value
invariant-loop-value l =
    with_front l.links.items (tables_from Links link_read (items_view (drop l.value-index l.values)))
    ≡ with_front l.fn.links.items (tables_from Links link_read (items_view l.values))
