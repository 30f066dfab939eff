-- The paths so far are the first to the stations so far.
use Rattle.std.proofs.Common.{map, take}
use Rattle.cqf_model.specs.declared.topology.Node.TheVariants.{Bridge}
use Rattle.cqf_network.specs.Listeners.{AreFirstPaths}
use Rattle.cqf_network.specs.Paths.{has_room}
use Rattle.cqf_network.proofs.listeners.first_paths.Given as goal

abbrev pub invariant-loop-station : goal.invariant-loop-station
invariant-loop-station l =
    AreFirstPaths l.room.links.now (has_room l.room.left.now l.room.cost) (Bridge l.from) (take l.station-index l.stations) (map (λ path. path.items) l.link_paths.items)
