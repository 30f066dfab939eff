use Rattle.std.proofs.Common.{◌≡◌, drop}
use Rattle.toml.specs.View.{items_view}
use Rattle.cqf_topology.specs.DomainText.{with_front}
use Rattle.cqf_addressing.specs.Streams.{addresses_from}
use Rattle.cqf_addressing.proofs.streams.all_streams_in.Given as goal

abbrev pub invariant-loop-value : goal.invariant-loop-value
invariant-loop-value l =
    with_front l.addresses.items (addresses_from l.most (items_view (drop l.value-index l.values))) ≡ addresses_from l.most (items_view l.values)
