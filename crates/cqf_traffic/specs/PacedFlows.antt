-- The streams that a text requests, with their traffic but without their deadlines, or the first fault of the text.
use Rattle.std.specs.Prelude.{ℕ, List, [], Option, Result, Ok, Err, if◌then◌else◌, ok_or}
use Rattle.toml.specs.Data.{Items, Members, as_array, as_table}
use Rattle.cqf_lists.specs.Results.{and_then, refuse}
use Rattle.cqf_topology.specs.declared.keys.Key.TheVariants as key
use Rattle.cqf_topology.specs.declared.toml_faults.TomlFault.TheVariants as toml_fault
use Rattle.cqf_topology.specs.Fields.{are_tables, each_from, read_at, whole_document}
use Rattle.cqf_topology.specs.PacedText.{PacedText, paced_from, paced_text}
use Rattle.cqf_topology.specs.StreamsText.{streams_keys}
use Rattle.cqf_traffic.specs.declared.faults.FlowsFault.{FlowsFault}
use Rattle.cqf_traffic.specs.declared.faults.FlowsFault.TheVariants as flows_fault
use Rattle.cqf_traffic.specs.declared.paced_flows.PacedFlow.{PacedFlow}
use Rattle.cqf_traffic.specs.FlowsText.{first_lack_of, or_streams, traffic_or}
use Rattle.cqf_traffic.specs.TrafficText.{TrafficText}

-- a stream with its traffic
abbrev pub PacedFlowText : Type 0
PacedFlowText = PacedText × Option TrafficText

abbrev pub paced_flow_text : PacedFlow → PacedFlowText
paced_flow_text flow = (paced_text flow.request, flow.traffic)

-- a stream's table. Its traffic is read after its other keys
abbrev pub paced_flow_from : Members → Result PacedFlowText FlowsFault
paced_flow_from table =
    and_then (or_streams (paced_from table)) (λ request.
    and_then (traffic_or table) (λ traffic.
    Ok (request, traffic)))

-- the elements of the array of streams; each must be a table
abbrev pub paced_flows_from : Items → Result (List PacedFlowText) FlowsFault
paced_flows_from items = each_from (λ d. and_then (ok_or (as_table d) (flows_fault.Streams (toml_fault.BadValue key.Streams))) paced_flow_from) items

abbrev pub paced_flows_of_array : Items → Result (List PacedFlowText) FlowsFault
paced_flows_of_array items = if are_tables items then paced_flows_from items else Err (flows_fault.Streams (toml_fault.BadValue key.Streams))

-- the streams of a document
abbrev pub paced_flows_in : Members → Result (List PacedFlowText) FlowsFault
paced_flows_in table = and_then (or_streams (read_at key.Streams as_array table)) paced_flows_of_array

-- the streams of a text. If the text is TOML and no key is missing, each stream is read
abbrev pub paced_flows_of_text : List ℕ → Result (List PacedFlowText) FlowsFault
paced_flows_of_text text =
    and_then (or_streams (whole_document streams_keys key.Streams [] text)) (λ table.
    refuse (first_lack_of table) (λ fault. fault) (paced_flows_in table))
