-- The streams of a network, as its file has them.
use Rattle.std.specs.Prelude.{ℕ, ◌++◌, List, [], ◌∷◌, Option, Some, None, codes, decimal, if◌then◌else◌, length, nat_lt, slice_get, slice_index_or}
use Rattle.std.specs.Option.{option_map_or}
use Rattle.cqf_lists.specs.Lists.{each_below}
use Rattle.cqf_edge.specs.declared.uses.Handed.{Handed}
use Rattle.cqf_edge.specs.EdgeFlows.{EdgeFlowsText}
use Rattle.cqf_model.specs.declared.topology.Node.TheVariants.{Station}
use Rattle.cqf_model.specs.Domain.{Domain}
use Rattle.cqf_network.specs.declared.domain.TalkerLink.{TalkerLink}
use Rattle.cqf_topology.specs.NodeNames.{name_of_bridge, name_of_node}
use Rattle.cqf_traffic.specs.FlowsText.{FlowText}
use Rattle.cqf_traffic.specs.TrafficText.{TrafficText}
use Rattle.cqf_program_diff.specs.Element.{ElementText}
use Rattle.cqf_program_diff.specs.Texts.{optional_text, paths_text}

-- what a talker promises, by the keys of the file
abbrev pub traffic_values : Option TrafficText → List (List ℕ)
traffic_values None = [] ∷ [] ∷ [] ∷ [] ∷ [] ∷ []
traffic_values (Some t) = decimal t.interval ∷ decimal t.frames ∷ decimal t.size ∷ decimal t.jitter ∷ decimal t.offset ∷ []

-- the talker's station and the bridge in which its access link ends, as `STATION@BRIDGE`
abbrev pub talker_name : Domain → TalkerLink → List ℕ
talker_name d link = name_of_node d (Station link.station) ++ (codes "@" ++ name_of_bridge d link.bridge)

abbrev pub talker_text : Domain → List TalkerLink → Option Handed → List ℕ
talker_text d talkers None = []
talker_text d talkers (Some handed) = option_map_or (talker_name d) (slice_get talkers handed.index) []

-- the fewest octets of a frame that is handed to an access link, if frames may be larger
abbrev pub least_size_text : Option Handed → List ℕ
least_size_text None = []
least_size_text (Some handed) = if nat_lt handed.shortest handed.octets then decimal handed.shortest else []

-- what is promised at the hand-over; without an access link, at the edge bridge
abbrev pub written_traffic : Option Handed → Option TrafficText → Option TrafficText
written_traffic None traffic = traffic
written_traffic (Some handed) traffic = handed.traffic

-- a stream, with its deadline as it is written and what it hands to its access link
abbrev pub stream_element : Domain → List TalkerLink → Option ℕ → Option Handed → FlowText → ElementText
stream_element d talkers deadline handed flow = record {
  name = flow.0.0.name;
  values = paths_text flow.0.0.paths ∷ decimal flow.0.0.octets ∷ decimal flow.0.0.every ∷ decimal flow.0.0.phase ∷ optional_text deadline
      ∷ talker_text d talkers handed ∷ least_size_text handed ∷ traffic_values (written_traffic handed flow.1);
}

-- all streams, in their order
abbrev pub element_at : Domain → List TalkerLink → EdgeFlowsText → ℕ → List ElementText
element_at d talkers edge index = option_map_or
    (λ (flow : FlowText). stream_element d talkers (slice_index_or edge.deadlines index None) (slice_index_or edge.handed index None) flow ∷ [])
    (slice_get edge.flows index) []

abbrev pub stream_elements : Domain → List TalkerLink → EdgeFlowsText → List ElementText
stream_elements d talkers edge = each_below (element_at d talkers edge) (length edge.flows)
