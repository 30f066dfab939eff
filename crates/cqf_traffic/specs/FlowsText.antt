-- The streams that a text requests, with their deadlines and traffic, or the first fault of the text.
use Rattle.std.specs.Prelude.{ℕ, ◌++◌, List, [], Option, None, Result, Ok, Err, codes, if◌then◌else◌, ok_or, option_map, option_and_then}
use Rattle.std.specs.Option.{option_or}
use Rattle.std.specs.Result.{result_map_both}
use Rattle.toml.specs.Data.{Items, no_items, item, Members, as_array, as_table}
use Rattle.cqf_lists.specs.Results.{and_then, refuse}
use Rattle.cqf_topology.specs.declared.keys.Key.TheVariants as key
use Rattle.cqf_topology.specs.declared.toml_faults.TomlFault.{TomlFault}
use Rattle.cqf_topology.specs.declared.toml_faults.TomlFault.TheVariants as toml_fault
use Rattle.cqf_topology.specs.Fields.{are_tables, each_from, first_absent, read_at, value_at, whole_document}
use Rattle.cqf_topology.specs.TomlFaults.{toml_fault_text}
use Rattle.cqf_topology.specs.PlannedText.{PlannedText, planned_from, planned_text}
use Rattle.cqf_topology.specs.StreamsText.{stream_keys, streams_keys}
use Rattle.cqf_traffic.specs.declared.faults.FlowsFault.{FlowsFault}
use Rattle.cqf_traffic.specs.declared.faults.FlowsFault.TheVariants as flows_fault
use Rattle.cqf_traffic.specs.declared.flows.Flow.{Flow}
use Rattle.cqf_traffic.specs.Keys.{key_text}
use Rattle.cqf_traffic.specs.TrafficText.{TrafficText, first_owed, traffic_from}

-- why a text is refused, as it is printed
abbrev pub flows_fault_text : FlowsFault → List ℕ
flows_fault_text (flows_fault.Streams fault) = toml_fault_text fault
flows_fault_text (flows_fault.Missing key) = codes "Missing " ++ key_text key
flows_fault_text (flows_fault.BadValue key) = codes "BadValue " ++ key_text key
flows_fault_text flows_fault.BadInStep = codes "BadValue in-step"
flows_fault_text flows_fault.BadLeastSize = codes "BadValue least-size"

-- a stream with its deadline and its traffic
abbrev pub FlowText : Type 0
FlowText = PlannedText × Option TrafficText

abbrev pub flow_text : Flow → FlowText
flow_text flow = (planned_text flow.planned, flow.traffic)

-- a refusal of a stream for anything except its traffic
abbrev pub or_streams : {A : Type 0} → Result A TomlFault → Result A FlowsFault
or_streams r = result_map_both (λ x. x) flows_fault.Streams r

-- the first key that a stream's table lacks: first of those that each stream has, then of those that its traffic must have
abbrev pub first_lack : Members → Option FlowsFault
first_lack table =
    option_or (option_map (λ key. flows_fault.Streams (toml_fault.Missing key)) (first_absent stream_keys table))
    (option_map flows_fault.Missing (first_owed table))

-- the first key that an element of an array lacks, element by element; elements that aren't tables are skipped. And the same for a document
abbrev pub first_lack_within : Items → Option FlowsFault
first_lack_within no_items = None
first_lack_within (item d ds) = option_or (option_and_then first_lack (as_table d)) (first_lack_within ds)

abbrev pub first_lack_of : Members → Option FlowsFault
first_lack_of table = option_and_then first_lack_within (option_and_then as_array (value_at key.Streams table))

-- the traffic of a stream's table, or the fault of its first bad value
abbrev pub traffic_or : Members → Result (Option TrafficText) FlowsFault
traffic_or table = result_map_both (λ t. t) flows_fault.BadValue (traffic_from table)

-- a stream's table. Its traffic is read after its other keys
abbrev pub flow_from : Members → Result FlowText FlowsFault
flow_from table =
    and_then (or_streams (planned_from table)) (λ planned.
    and_then (traffic_or table) (λ traffic.
    Ok (planned, traffic)))

-- the elements of the array of streams; each must be a table
abbrev pub flows_from : Items → Result (List FlowText) FlowsFault
flows_from items = each_from (λ d. and_then (ok_or (as_table d) (flows_fault.Streams (toml_fault.BadValue key.Streams))) flow_from) items

abbrev pub flows_of_array : Items → Result (List FlowText) FlowsFault
flows_of_array items = if are_tables items then flows_from items else Err (flows_fault.Streams (toml_fault.BadValue key.Streams))

-- the streams of a document
abbrev pub flows_in : Members → Result (List FlowText) FlowsFault
flows_in table = and_then (or_streams (read_at key.Streams as_array table)) flows_of_array

-- the streams of a text. If the text is TOML and no key is missing, each stream is read
abbrev pub flows_of_text : List ℕ → Result (List FlowText) FlowsFault
flows_of_text text =
    and_then (or_streams (whole_document streams_keys key.Streams [] text)) (λ table.
    refuse (first_lack_of table) (λ fault. fault) (flows_in table))
