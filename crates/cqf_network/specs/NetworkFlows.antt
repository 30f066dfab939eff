-- The streams of a network with access links, with nothing left to plan, or the first fault of their text.
use Rattle.std.specs.Prelude.{ℕ, List, [], Option, Result, Ok, Err, if◌then◌else◌, ok_or, option_map}
use Rattle.toml.specs.Data.{Items, Members, as_array, as_table}
use Rattle.cqf_lists.specs.Results.{and_then, refuse}
use Rattle.cqf_topology.specs.declared.keys.Key.TheVariants as key
use Rattle.cqf_topology.specs.declared.toml_faults.TomlFault.TheVariants as toml_fault
use Rattle.cqf_topology.specs.Fields.{are_tables, each_from, read_at, whole_document}
use Rattle.cqf_topology.specs.StreamsText.{streams_keys}
use Rattle.cqf_traffic.specs.declared.faults.FlowsFault.{FlowsFault}
use Rattle.cqf_traffic.specs.declared.faults.FlowsFault.TheVariants as flows_fault
use Rattle.cqf_traffic.specs.FlowsText.{FlowText, first_lack_of, flow_from, flow_text, or_streams}
use Rattle.cqf_network.specs.declared.network_flows.NetworkFlow.{NetworkFlow}
use Rattle.cqf_network.specs.declared.talkers.Talker.{Talker}
use Rattle.cqf_network.specs.StreamsText.{listeners_read, shortest_read, talker_read}

-- a stream as its talker has it, and, if the text gives them, its talker, its listeners, and how many octets its shortest frame has
pub record NetworkFlowText : Type 0 where
  pub flow : FlowText
  pub talker : Option Talker
  pub listeners : Option (List (List ℕ))
  pub shortest : Option ℕ

abbrev pub network_flow_text : NetworkFlow → NetworkFlowText
network_flow_text found = record {
  flow = flow_text found.flow;
  talker = found.talker;
  listeners = option_map (λ names. names.items) found.listeners;
  shortest = found.shortest;
}

-- a stream's table: its ends are read after its other keys
abbrev pub network_flow_from : Members → Result NetworkFlowText FlowsFault
network_flow_from table =
    and_then (flow_from table) (λ flow.
    and_then (or_streams (talker_read table)) (λ talker.
    and_then (or_streams (listeners_read table)) (λ listeners.
    and_then (shortest_read flow.1 table) (λ shortest.
    Ok (record { flow = flow; talker = talker; listeners = listeners; shortest = shortest })))))

-- the elements of the array of streams, each a table
abbrev pub network_flows_from : Items → Result (List NetworkFlowText) FlowsFault
network_flows_from items =
    each_from (λ d. and_then (ok_or (as_table d) (flows_fault.Streams (toml_fault.BadValue key.Streams))) network_flow_from) items

abbrev pub network_flows_of_array : Items → Result (List NetworkFlowText) FlowsFault
network_flows_of_array items =
    if are_tables items then network_flows_from items else Err (flows_fault.Streams (toml_fault.BadValue key.Streams))

-- the streams of a document, and those of a text. If the text is TOML and no key is missing, each stream is read
abbrev pub network_flows_in : Members → Result (List NetworkFlowText) FlowsFault
network_flows_in table = and_then (or_streams (read_at key.Streams as_array table)) network_flows_of_array

abbrev pub network_flows_of_text : List ℕ → Result (List NetworkFlowText) FlowsFault
network_flows_of_text text =
    and_then (or_streams (whole_document streams_keys key.Streams [] text)) (λ table.
    refuse (first_lack_of table) (λ fault. fault) (network_flows_in table))
