-- Where streams enter the network: at a bridge, or by a station's access link.
use Rattle.std.specs.Prelude.{ℕ, ◌<◌, List, [], ◌∷◌, ◌==◌, ◌&&◌, Bool, true, false, Option, Some, None, Result, Ok, Err, count_by, length, nat_lt, not, ok_or, position}
use Rattle.std.specs.Prelude.{slice_get, slice_index_or}
use Rattle.std.specs.List.{list_all}
use Rattle.std.specs.Option.{option_map_or}
use Rattle.cqf_lists.specs.Results.{and_then, refuse}
use Rattle.cqf_model.specs.Domain.{is_text}
use Rattle.cqf_topology.specs.DomainText.{if_so, index_of}
use Rattle.cqf_network.specs.declared.domain.TalkerLink.{TalkerLink}
use Rattle.cqf_network.specs.declared.talkers.Talker.{Talker}
use Rattle.cqf_network.specs.NetworkDomain.{NetworkDomain}
use Rattle.cqf_edge.specs.declared.entrances.Entrance.{Entrance}
use Rattle.cqf_edge.specs.declared.entrances.Entrance.TheVariants.{AtBridge, ByAccess}
use Rattle.cqf_edge.specs.declared.faults.TalkerFault.{TalkerFault}
use Rattle.cqf_edge.specs.declared.faults.TalkerFault.TheVariants.{NoTalker, TwoAccessLinks, OtherEdge, OtherListeners}

-- whether an access link leaves a station, and whether it leads from there to a bridge
abbrev pub leaves_station : ℕ → TalkerLink → Bool
leaves_station station link = link.station == station

abbrev pub joins : ℕ → ℕ → TalkerLink → Bool
joins station bridge link = (link.station == station) && (link.bridge == bridge)

-- by a station's access link: the one to a bridge, or the only one if the text names no bridge
abbrev pub by_the_only : NetworkDomain → ℕ → Result Entrance TalkerFault
by_the_only network station =
    refuse (if_so (nat_lt 1 (count_by (leaves_station station) network.talkers))) (λ _. TwoAccessLinks) (
    and_then (ok_or (position (leaves_station station) network.talkers) NoTalker) (λ index. Ok (ByAccess index)))

abbrev pub by_that_to : NetworkDomain → ℕ → Option ℕ → Result Entrance TalkerFault
by_that_to network station None = Err NoTalker
by_that_to network station (Some bridge) = and_then (ok_or (position (joins station bridge) network.talkers) NoTalker) (λ index. Ok (ByAccess index))

abbrev pub by_station : NetworkDomain → ℕ → Option (List ℕ) → Result Entrance TalkerFault
by_station network station None = by_the_only network station
by_station network station (Some bridge) = by_that_to network station (index_of bridge network.bridges)

-- at a bridge: the text may not name another bridge with it
abbrev pub at_bridge : ℕ → Option (List ℕ) → Result Entrance TalkerFault
at_bridge bridge None = Ok (AtBridge bridge)
at_bridge bridge (Some other) = Err NoTalker

abbrev pub at_node : NetworkDomain → Option ℕ → Option ℕ → Option (List ℕ) → Result Entrance TalkerFault
at_node network (Some bridge) station other = at_bridge bridge other
at_node network None (Some station) other = by_station network station other
at_node network None None other = Err NoTalker

-- where a talker's streams enter
abbrev pub entrance_of : NetworkDomain → Talker → Result Entrance TalkerFault
entrance_of network talker = at_node network (index_of talker.node network.bridges) (index_of talker.node network.stations) talker.bridge

-- the access link at an index, and the name of the bridge at which streams enter
abbrev pub link_at : NetworkDomain → ℕ → Option TalkerLink
link_at network index = slice_get network.talkers index

abbrev pub edge_bridge : NetworkDomain → Entrance → ℕ
edge_bridge network (AtBridge bridge) = bridge
edge_bridge network (ByAccess index) = option_map_or (λ (link : TalkerLink). link.bridge) (link_at network index) 0

-- streams enter at a bridge of the network, or by one of its access links
abbrev pub IsEntrance : NetworkDomain → Entrance → Type 0
IsEntrance network (AtBridge bridge) = bridge < length network.bridges
IsEntrance network (ByAccess index) = index < length network.talkers

abbrev pub edge_name : NetworkDomain → Entrance → List ℕ
edge_name network entrance = slice_index_or network.bridges (edge_bridge network entrance) []

-- given branches begin there, and end at the listeners, in the same order
abbrev pub begins_with : List ℕ → List (List ℕ) → Bool
begins_with name [] = false
begins_with name (first ∷ rest) = is_text name first

abbrev pub ends_with : List ℕ → List (List ℕ) → Bool
ends_with name [] = false
ends_with name (last ∷ []) = is_text name last
ends_with name (first ∷ second ∷ rest) = ends_with name (second ∷ rest)

abbrev pub end_at : List (List ℕ) → List (List (List ℕ)) → Bool
end_at [] [] = true
end_at [] (path ∷ paths) = false
end_at (name ∷ names) [] = false
end_at (name ∷ names) (path ∷ paths) = ends_with name path && end_at names paths

abbrev pub agrees_with : NetworkDomain → List (List (List ℕ)) → Entrance → Result (Unit {0}) TalkerFault
agrees_with network paths entrance =
    refuse (if_so (not (list_all (begins_with (edge_name network entrance)) paths))) (λ _. OtherEdge) (Ok tt)

abbrev pub listeners_agree : List (List (List ℕ)) → Option (List (List ℕ)) → Result (Unit {0}) TalkerFault
listeners_agree paths None = Ok tt
listeners_agree paths (Some names) = refuse (if_so (not (end_at names paths))) (λ _. OtherListeners) (Ok tt)
