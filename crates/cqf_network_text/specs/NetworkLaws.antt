-- Every reader finds in a planned network's text what was chosen for it.
use Rattle.std.specs.Prelude.{ℕ, ◌≡◌, ◌≤◌, List, [], ◌∷◌, Option, Some, None, Ok, IfSome, IsSome, length, option_map, slice_get}
use Rattle.toml.specs.Data.{members_depth}
use Rattle.cqf_model.specs.declared.limits.Limits.{Limits}
use Rattle.cqf_topology.specs.declared.paced.PacedRequest.{PacedRequest}
use Rattle.cqf_topology.specs.PacedText.{PacedText, paced_of_text, paced_text}
use Rattle.cqf_topology.specs.PlannedText.{PlannedText, planned_of_text}
use Rattle.cqf_topology.specs.StreamsText.{RequestText, streams_of_text}
use Rattle.cqf_traffic.specs.FlowsText.{FlowText, flows_of_text}
use Rattle.cqf_traffic.specs.PacedFlows.{PacedFlowText, paced_flows_of_text}
use Rattle.cqf_traffic.specs.TrafficText.{TrafficText}
use Rattle.cqf_network.specs.declared.pacing.Pacing.{Pacing}
use Rattle.cqf_network.specs.declared.pacing.Pacing.TheVariants.{Given, InStep}
use Rattle.cqf_network.specs.NetworkFlows.{NetworkFlowText, network_flows_of_text}
use Rattle.cqf_network.specs.NetworkDomain.{IsOpenCycle, NetworkDomain, network_of_text, open_network_of_text}
use Rattle.cqf_network.specs.StreamsText.{StreamText, WantedText, Along, Between, network_streams_of_text}
use Rattle.cqf_network_text.specs.declared.filling.FilledStream.{FilledStream}
use Rattle.cqf_network_text.specs.Networks.{IsFilledText, filled_network}
use Rattle.cqf_network_text.specs.Plans.{unpaced}

-- a network with this cycle time as its only candidate
abbrev pub with_cycle : ℕ → NetworkDomain → NetworkDomain
with_cycle cycle_time network = record {
  limits = network.limits;
  candidates = cycle_time ∷ [];
  guard = network.guard;
  sync = network.sync;
  overhead = network.overhead;
  bridges = network.bridges;
  stations = network.stations;
  links = network.links;
  talkers = network.talkers;
}

-- the cycles in which a stream is offered: the chosen ones, or those of its text if none were chosen
abbrev pub chosen_pacing : PacedRequest → Option ℕ → Pacing → Pacing
chosen_pacing request None pacing = pacing
chosen_pacing request (Some offset) pacing = Given request.every request.phase

-- a stream's paths: those of its text, or the chosen ones if its text has none
abbrev pub chosen_path : List (List (List ℕ)) → WantedText → WantedText
chosen_path paths (Along given) = Along given
chosen_path paths (Between from to) = Along paths

-- a stream's traffic: if its cycles were chosen, its talker's offers begin at the chosen instant
abbrev pub beginning_at : ℕ → TrafficText → TrafficText
beginning_at offset t = record { interval = t.interval; frames = t.frames; size = t.size; jitter = t.jitter; offset = offset }

abbrev pub chosen_traffic : Option ℕ → Option TrafficText → Option TrafficText
chosen_traffic None traffic = traffic
chosen_traffic (Some offset) traffic = option_map (beginning_at offset) traffic

-- a stream of the file with what was chosen for it, as `plan` reads it
abbrev pub chosen_stream : FilledStream → StreamText → StreamText
chosen_stream one s = record {
  name = s.name;
  octets = Some one.request.octets;
  pacing = chosen_pacing one.request one.offset s.pacing;
  path = chosen_path (paced_text one.request).paths s.path;
  talker = s.talker;
  listeners = s.listeners;
  deadline = s.deadline;
  traffic = chosen_traffic one.offset s.traffic;
  shortest = s.shortest;
}

-- a planned stream as it is read with its deadline and traffic: if its text has no cycles, it is offered in every cycle
abbrev pub every_of : Pacing → ℕ
every_of (Given every phase) = every
every_of InStep = 1

abbrev pub phase_of : Pacing → ℕ
phase_of (Given every phase) = phase
phase_of InStep = 0

abbrev pub paths_of : WantedText → List (List (List ℕ))
paths_of (Along paths) = paths
paths_of (Between from to) = []

abbrev pub flow_by : ℕ → StreamText → FlowText
flow_by octets s =
    ((record { name = s.name; octets = octets; every = every_of s.pacing; phase = phase_of s.pacing; paths = paths_of s.path }, s.deadline), s.traffic)

-- a stream with what was chosen for it, as the other commands read it: with its deadline and traffic; and with its talker and listeners too
abbrev pub chosen_flow : FilledStream → StreamText → FlowText
chosen_flow one s = flow_by one.request.octets (chosen_stream one s)

abbrev pub chosen_network_flow : FilledStream → StreamText → NetworkFlowText
chosen_network_flow one s = record { flow = chosen_flow one s; talker = s.talker; listeners = s.listeners; shortest = s.shortest }

-- the same without its traffic, without its deadline and traffic, without its deadline, and without the cycles as well
abbrev pub chosen_planned : FilledStream → StreamText → PlannedText
chosen_planned one s = (chosen_flow one s).0

abbrev pub chosen_paced : FilledStream → StreamText → PacedText
chosen_paced one s = (chosen_planned one s).0

abbrev pub chosen_paced_flow : FilledStream → StreamText → PacedFlowText
chosen_paced_flow one s = (chosen_paced one s, (chosen_flow one s).1)

abbrev pub chosen_request : FilledStream → StreamText → RequestText
chosen_request one s = unpaced (chosen_paced one s)

-- streams with what was chosen for each, in order
abbrev pub each_chosen : {A : Type 0} → (FilledStream → StreamText → A) → List FilledStream → List StreamText → List A
each_chosen chosen [] streams = []
each_chosen chosen (one ∷ rest) [] = []
each_chosen chosen (one ∷ rest) (s ∷ streams) = chosen one s ∷ each_chosen chosen rest streams

-- a choice for a stream: its numbers are in the ranges that a text allows, and its cycles are chosen only if it has traffic
pub record IsChoice (one : FilledStream) (s : StreamText) : Type 0 where
  pub octets : one.request.octets ≤ 4294967295
  pub every : one.request.every ≤ 4294967295
  pub phase : one.request.phase ≤ 4294967295
  pub offset : IfSome one.offset (λ offset. offset ≤ 1000000000)
  pub has_traffic : IfSome one.offset (λ offset. IsSome s.traffic)

-- one choice for each of some streams, in order
pub record AreChoices (filled : List FilledStream) (streams : List StreamText) : Type 0 where
  pub one_each : length filled ≡ length streams
  pub each : (index : ℕ) (one : FilledStream) (s : StreamText) → slice_get filled index ≡ Some one → slice_get streams index ≡ Some s → IsChoice one s

-- every reader finds in a text the network with this cycle time, and its streams with what was chosen for them: `plan`, and the commands that
-- read streams with deadlines and traffic, with talkers and listeners too, with traffic alone, with deadlines alone, with neither, and without
-- the cycles in which they are offered
pub record IsReadAsChosen (limits : Limits) (network : NetworkDomain) (wanted : List StreamText) (cycle_time : ℕ) (filled : List FilledStream) (text : List ℕ)
    : Type 0 where
  pub network_is : network_of_text limits text ≡ Ok (with_cycle cycle_time network)
  pub open_network_is : open_network_of_text limits None text ≡ Ok (with_cycle cycle_time network)
  pub streams_are : network_streams_of_text text ≡ Ok (each_chosen chosen_stream filled wanted)
  pub flows_are : flows_of_text text ≡ Ok (each_chosen chosen_flow filled wanted)
  pub network_flows_are : network_flows_of_text text ≡ Ok (each_chosen chosen_network_flow filled wanted)
  pub paced_flows_are : paced_flows_of_text text ≡ Ok (each_chosen chosen_paced_flow filled wanted)
  pub planned_are : planned_of_text text ≡ Ok (each_chosen chosen_planned filled wanted)
  pub paced_are : paced_of_text text ≡ Ok (each_chosen chosen_paced filled wanted)
  pub requests_are : streams_of_text text ≡ Ok (each_chosen chosen_request filled wanted)

-- a network is read from the texts of its domain and its streams, which may be one text. If a cycle time is open to it and there is a choice for each
-- stream, then every reader finds them in the text that is written, provided its table isn't nested deeper than the reader allows
abbrev pub FilledNetworksReadBack : Type 0
FilledNetworksReadBack =
    (limits : Limits) (given : Option (List ℕ)) (domain streams text : List ℕ) (cycle_time : ℕ) (filled : List FilledStream) (network : NetworkDomain)
    (wanted : List StreamText) → open_network_of_text limits given domain ≡ Ok network → IsOpenCycle network cycle_time →
    network_streams_of_text streams ≡ Ok wanted → AreChoices filled wanted → (reported : IsFilledText domain streams cycle_time filled text) →
    members_depth (filled_network cycle_time filled reported.domain_members reported.streams_members) ≤ 80 →
    IsReadAsChosen limits network wanted cycle_time filled text
