use Rattle.std.proofs.Common.{◌≡◌, drop}
use Rattle.toml.specs.View.{items_view}
use Rattle.cqf_topology.specs.DomainText.{with_front}
use Rattle.cqf_addressing.specs.Links.{interfaces_from}
use Rattle.cqf_addressing.proofs.links.all_links_in.Given as goal

abbrev pub invariant-loop-value : goal.invariant-loop-value
invariant-loop-value l =
    with_front l.links.items (interfaces_from (items_view l.stations) (items_view (drop l.value-index l.values)))
    ≡ interfaces_from (items_view l.stations) (items_view l.values)
