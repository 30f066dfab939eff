use Rattle.std.proofs.Common.{◌≡◌, drop}
use Rattle.toml.specs.View.{items_view}
use Rattle.cqf_addressing.specs.Links.{is_named}
use Rattle.cqf_addressing.proofs.links.is_named.Given as goal

abbrev pub invariant-loop-station : goal.invariant-loop-station
invariant-loop-station l = is_named l.name (items_view (drop l.station-index l.stations)) ≡ is_named l.name (items_view l.stations)
