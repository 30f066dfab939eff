use Rattle.std.proofs.Common.{◌≡◌, drop}
use Rattle.toml.specs.View.{items_view}
use Rattle.cqf_topology.specs.DomainText.{with_front}
use Rattle.cqf_network.specs.NetworkText.{cycles_from}
use Rattle.cqf_network.proofs.cycles.cycles_in.Given as goal

abbrev pub invariant-loop-value : goal.invariant-loop-value
invariant-loop-value l = with_front l.cycles.items (cycles_from (items_view (drop l.value-index l.values))) ≡ cycles_from (items_view l.values)
