-- The streams of a network that has nothing open, at their edge bridges; or the first fault of their talkers.
use Rattle.std.specs.Prelude.{ℕ, ◌<◌, ◌≤◌, List, [], ◌∷◌, Option, Some, None, Result, Ok, if◌then◌else◌, length, map, option_and_then, option_map, slice_get}
use Rattle.std.specs.Option.{ForSome, option_map_or}
use Rattle.std.specs.Result.{result_map_both}
use Rattle.cqf_lists.specs.Results.{and_then}
use Rattle.cqf_topology.specs.Fields.{and_first}
use Rattle.cqf_traffic.specs.FlowsText.{FlowText}
use Rattle.cqf_traffic.specs.TrafficText.{TrafficText}
use Rattle.cqf_network.specs.declared.talkers.Talker.{Talker}
use Rattle.cqf_network.specs.NetworkFlows.{NetworkFlowText}
use Rattle.cqf_network.specs.NetworkDomain.{NetworkDomain}
use Rattle.cqf_units.specs.Name.{is_name}
use Rattle.cqf_edge.specs.declared.edge.AccessTimes.{AccessTimes}
use Rattle.cqf_edge.specs.declared.edge.Passage.{Passage}
use Rattle.cqf_edge.specs.declared.entrances.Entrance.{Entrance}
use Rattle.cqf_edge.specs.declared.entrances.Entrance.TheVariants as entrance
use Rattle.cqf_edge.specs.declared.faults.EdgeFault.{EdgeFault}
use Rattle.cqf_edge.specs.declared.faults.EdgeFault.TheVariants as fault
use Rattle.cqf_edge.specs.declared.faults.TalkerFault.{TalkerFault}
use Rattle.cqf_edge.specs.declared.uses.AccessBound.{AccessBound}
use Rattle.cqf_edge.specs.declared.uses.Handed.{Handed}
use Rattle.cqf_edge.specs.Edge.{IsPassage, IsWritten, left_by, times_by, word_on}
use Rattle.cqf_edge.specs.Entrances.{agrees_with, entrance_of, link_at, listeners_agree}
use Rattle.cqf_edge.specs.Uses.{bounds_of, full_station, handed_over}

-- what a stream hands to an access link, if it enters by one
abbrev pub handed_by : ℕ → Entrance → ℕ → Option ℕ → Option TrafficText → Option Handed
handed_by overhead (entrance.AtBridge bridge) octets shortest traffic = None
handed_by overhead (entrance.ByAccess index) octets shortest traffic = Some (handed_over overhead index octets shortest traffic)

-- the same for a stream with a talker in its text. Its branches have to agree with the talker and with the listeners
abbrev pub handed_with : NetworkDomain → NetworkFlowText → Talker → Result (Option Handed) TalkerFault
handed_with network found talker =
    and_then (entrance_of network talker) (λ entrance.
    and_then (agrees_with network found.flow.0.0.paths entrance) (λ _.
    and_then (listeners_agree found.flow.0.0.paths found.listeners) (λ _.
    Ok (handed_by network.overhead entrance found.flow.0.0.octets found.shortest found.flow.1))))

-- a stream's fault with its name. A stream whose name isn't well-formed is never admitted, so it hands nothing over
abbrev pub or_named : List ℕ → Result (Option Handed) TalkerFault → Result (Option Handed) EdgeFault
or_named name found = if is_name name then result_map_both (λ handed. handed) (λ why. fault.Talker name why) found else Ok None

abbrev pub handed_of : NetworkDomain → NetworkFlowText → Result (Option Handed) EdgeFault
handed_of network found = option_map_or (λ talker. or_named found.flow.0.0.name (handed_with network found talker)) found.talker (Ok None)

-- the same for all streams, or the first fault
abbrev pub handed_of_all : NetworkDomain → List NetworkFlowText → Result (List (Option Handed)) EdgeFault
handed_of_all network [] = Ok []
handed_of_all network (found ∷ rest) = and_first (handed_of network found) (handed_of_all network rest)

-- a stream's passage by the link that it is handed to
abbrev pub passage_of : NetworkDomain → List AccessBound → Option Handed → Option Passage
passage_of network bounds one = option_and_then (λ (handed : Handed).
    option_and_then (λ link. option_map (λ found. record { link = link; handed = handed; bound = found }) (slice_get bounds handed.index))
    (link_at network handed.index)) one

-- the stream at its edge bridge: only its deadline and its traffic are different there
abbrev pub flow_at_edge : Option Passage → FlowText → FlowText
flow_at_edge None flow = flow
flow_at_edge (Some p) flow = ((flow.0.0, left_by (times_by p) flow.0.1), word_on p)

-- the streams of a network at their edge bridges; their deadlines as they are written; the times of their frames from the hand-over to the
-- edge bridge; what they hand over; and the station of the first access link that is full
pub record EdgeFlowsText : Type 0 where
  pub flows : List FlowText
  pub deadlines : List (Option ℕ)
  pub times : List (Option AccessTimes)
  pub handed : List (Option Handed)
  pub full : Option (List ℕ)

abbrev pub flows_at_edge : List (Option Passage) → List NetworkFlowText → List FlowText
flows_at_edge [] all = []
flows_at_edge (p ∷ ps) [] = []
flows_at_edge (p ∷ ps) (found ∷ rest) = flow_at_edge p found.flow ∷ flows_at_edge ps rest

abbrev pub edges_by : NetworkDomain → List NetworkFlowText → List (Option Handed) → List AccessBound → EdgeFlowsText
edges_by network all handed bounds = record {
  flows = flows_at_edge (map (passage_of network bounds) handed) all;
  deadlines = map (λ (found : NetworkFlowText). found.flow.0.1) all;
  times = map (option_and_then times_by) (map (passage_of network bounds) handed);
  handed = handed;
  full = full_station network bounds;
}

abbrev pub edges_with : NetworkDomain → List NetworkFlowText → List (Option Handed) → EdgeFlowsText
edges_with network all handed = edges_by network all handed (bounds_of network handed)

abbrev pub edge_flows : NetworkDomain → List NetworkFlowText → Result EdgeFlowsText EdgeFault
edge_flows network all = and_then (handed_of_all network all) (λ handed. Ok (edges_with network all handed))

-- the same for a network without access links: each stream begins at its edge bridge
abbrev pub at_edges : List FlowText → EdgeFlowsText
at_edges flows = record {
  flows = flows;
  deadlines = map (λ (flow : FlowText). flow.0.1) flows;
  times = map (λ _. None) flows;
  handed = map (λ _. None) flows;
  full = None;
}

-- a stream's jitter and offset are in the ranges that a text may have
abbrev pub IsWrittenFlow : NetworkFlowText → Type 0
IsWrittenFlow found = ForSome found.flow.1 IsWritten

-- what is handed to an access link of a network
pub record IsHandedIn (network : NetworkDomain) (handed : Handed) : Type 0 where
  pub there : handed.index < length network.talkers
  pub sizes : handed.shortest ≤ handed.octets
  pub longest : handed.octets ≤ 1522
  pub written : ForSome handed.traffic IsWritten

abbrev pub IsHandedOne : NetworkDomain → Option Handed → Type 0
IsHandedOne network one = ForSome one (IsHandedIn network)

abbrev pub IsPassageOne : Option Passage → Type 0
IsPassageOne one = ForSome one IsPassage
