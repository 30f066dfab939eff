-- What is read of a text has traffic as it may be written.
use Rattle.std.proofs.Common.{◌≡◌, ℕ, ◌≤◌, [], All, Bool, true, false, List, Option, Some, None, Result, Ok, Err, ap, arith, ok_or, refl, subst}
use Rattle.std.specs.Prelude.{if◌then◌else◌}
use Rattle.std.specs.Option.{ForSome}
use Rattle.std.specs.Result.{result_map_both}
use Rattle.std.proofs.lemmas.Option.{same_Some}
use Rattle.toml.specs.Data.{Data, Items, Members, as_array, as_integer, as_str, as_table}
use Rattle.cqf_lists.specs.Results.{and_then}
use Rattle.cqf_topology.specs.declared.keys.Key.TheVariants as key
use Rattle.cqf_topology.specs.declared.toml_faults.TomlFault.TheVariants as toml_fault
use Rattle.cqf_topology.specs.Fields.{are_tables, number_from, read_at, whole_document, within_range}
use Rattle.cqf_topology.specs.PlannedText.{deadline_from, planned_from}
use Rattle.cqf_topology.specs.StreamsText.{streams_keys}
use Rattle.cqf_topology.proofs.Refusals.{and_then-Ok, and_then-Some, each_from-All, ok_or-Ok, refuse-Ok, within_range-Some}
use Rattle.cqf_traffic.specs.declared.faults.FlowsFault.{FlowsFault}
use Rattle.cqf_traffic.specs.declared.faults.FlowsFault.TheVariants as flows_fault
use Rattle.cqf_traffic.specs.declared.keys.TrafficKey.{TrafficKey}
use Rattle.cqf_traffic.specs.declared.keys.TrafficKey.TheVariants.{Interval, Frames, Size, Jitter, Offset}
use Rattle.cqf_traffic.specs.FlowsText.{FlowText, first_lack_of, flow_from, or_streams, traffic_or}
use Rattle.cqf_traffic.specs.Keys.{least_of, most_of}
use Rattle.cqf_traffic.specs.TrafficText.{TrafficText, has_traffic, number_at, number_by, numbers_from, traffic_from, value_at}
use Rattle.cqf_network.specs.NetworkFlows.{NetworkFlowText, network_flow_from, network_flows_from, network_flows_in, network_flows_of_array, network_flows_of_text}
use Rattle.cqf_network.specs.StreamsText.{StreamText, branches_if, listeners_read, octets_from, pacing_from, shortest_read, network_streams_of_text}
use Rattle.cqf_network.specs.StreamsText.{path_by, stream_from, streams_from, streams_in, streams_of_array, talker_read}
use Rattle.cqf_network.specs.StreamsText.{first_lack_of as wanted_lack}
use Rattle.cqf_network.proofs.StreamParts.{each_stream, has_read, map_both-Ok}
use Rattle.cqf_edge.specs.Edge.{IsWritten}
use Rattle.cqf_edge.specs.EdgeFlows.{IsWrittenFlow}
use Rattle.cqf_edge.specs.EdgeStreams.{IsWrittenStream}

-- a number that is read is no greater than may stand at its key
read_most : (k : TrafficKey) (d : Data) (n : ℕ) → number_by (Some d) k ≡ Ok n → n ≤ most_of k
read_most k d n h =
    let (z, integer, within) = and_then-Some (within_range (least_of k) (most_of k)) (as_integer d) n (ok_or-Ok (number_from (least_of k) (most_of k) d) k n h) in
    (within_range-Some (least_of k) (most_of k) z n within).1

jitter_most : (o : Option Data) (n : ℕ) → number_by o Jitter ≡ Ok n → n ≤ most_of Jitter
jitter_most None n h = let e : 0 ≡ n = same_Some 0 n (ok_or-Ok (Some 0) Jitter n h) in omega (arith, e)
jitter_most (Some d) n h = read_most Jitter d n h

offset_most : (o : Option Data) (n : ℕ) → number_by o Offset ≡ Ok n → n ≤ most_of Offset
offset_most None n h = let e : 0 ≡ n = same_Some 0 n (ok_or-Ok (Some 0) Offset n h) in omega (arith, e)
offset_most (Some d) n h = read_most Offset d n h

-- the five numbers of a table
five : (interval frames size jitter offset : Result ℕ TrafficKey) (t : TrafficText) →
    and_then interval (λ i. and_then frames (λ f. and_then size (λ s. and_then jitter (λ j. and_then offset (λ o.
    Ok (record { interval = i; frames = f; size = s; jitter = j; offset = o })))))) ≡ Ok t → (jitter ≡ Ok t.jitter) × (offset ≡ Ok t.offset)
five (Err e) frames size jitter offset t h = absurd cc
five (Ok i) (Err e) size jitter offset t h = absurd cc
five (Ok i) (Ok f) (Err e) jitter offset t h = absurd cc
five (Ok i) (Ok f) (Ok s) (Err e) offset t h = absurd cc
five (Ok i) (Ok f) (Ok s) (Ok j) (Err e) t h = absurd cc
five (Ok i) (Ok f) (Ok s) (Ok j) (Ok o) t h =
    let made : TrafficText = record { interval = i; frames = f; size = s; jitter = j; offset = o } in
    let same : made ≡ t = cc in
    (ap (λ (u : TrafficText). Ok u.jitter) same, ap (λ (u : TrafficText). Ok u.offset) same)

numbers_written : (table : Members) (t : TrafficText) → numbers_from table ≡ Ok t → IsWritten t
numbers_written table t h =
    let parts = five (number_at Interval table) (number_at Frames table) (number_at Size table) (number_at Jitter table) (number_at Offset table) t h in
    record { jitter = jitter_most (value_at Jitter table) t.jitter parts.0; offset = offset_most (value_at Offset table) t.offset parts.1 }

traffic_written : (table : Members) (traffic : Option TrafficText) → traffic_from table ≡ Ok traffic → ForSome traffic IsWritten
traffic_written table traffic h = by (has_traffic table) h
  where
    by : (b : Bool) → (if b then and_then (numbers_from table) (λ t. Ok (Some t)) else Ok None) ≡ Ok traffic → ForSome traffic IsWritten
    by true e =
        let (t, read, some) = and_then-Ok (numbers_from table) (λ t. Ok (Some t)) traffic e in
        λ u there. let same : t ≡ u = cc in subst IsWritten same (numbers_written table t read)
    by false e = λ u there. absurd cc

-- what holds of all that a step and then the next may give
pub after : {A B E : Type 0} (P : B → Type 0) (r : Result A E) (next : A → Result B E) → ((x : A) → r ≡ Ok x → (y : B) → next x ≡ Ok y → P y) →
    (y : B) → and_then r next ≡ Ok y → P y
after P (Ok x) next each y h = each x refl y h
after P (Err e) next each y h = absurd cc

-- a stream of a network that has nothing open
abbrev IsWrittenPair : FlowText → Type 0
IsWrittenPair flow = ForSome flow.1 IsWritten

pair_same : (x y : FlowText) → ◌≡◌ {A = Result FlowText FlowsFault} (Ok x) (Ok y) → x ≡ y
pair_same x y e = cc

flow_written : (table : Members) (flow : FlowText) → flow_from table ≡ Ok flow → IsWrittenPair flow
flow_written table =
    after IsWrittenPair (or_streams (planned_from table)) (λ planned. and_then (traffic_or table) (λ traffic. Ok (planned, traffic))) (λ planned _.
    after IsWrittenPair (traffic_or table) (λ traffic. Ok (planned, traffic)) (λ traffic read flow made.
    subst IsWrittenPair (pair_same (planned, traffic) flow made) (traffic_written table traffic (map_both-Ok flows_fault.BadValue (traffic_from table) traffic read))))

found_same : (x y : NetworkFlowText) → ◌≡◌ {A = Result NetworkFlowText FlowsFault} (Ok x) (Ok y) → x ≡ y
found_same x y e = cc

network_flow_written : (table : Members) (found : NetworkFlowText) → network_flow_from table ≡ Ok found → IsWrittenFlow found
network_flow_written table =
    after IsWrittenFlow (flow_from table) _ (λ flow read.
    after IsWrittenFlow (or_streams (talker_read table)) _ (λ talker _.
    after IsWrittenFlow (or_streams (listeners_read table)) _ (λ listeners _.
    after IsWrittenFlow (shortest_read flow.1 table) _ (λ shortest _ found made.
    subst IsWrittenFlow (found_same (record { flow = flow; talker = talker; listeners = listeners; shortest = shortest }) found made) (flow_written table flow read)))))

-- an element of an array
element_written : (d : Data) (found : NetworkFlowText) → and_then (ok_or (as_table d) (flows_fault.Streams (toml_fault.BadValue key.Streams))) network_flow_from ≡ Ok found →
    IsWrittenFlow found
element_written d =
    after IsWrittenFlow (ok_or (as_table d) (flows_fault.Streams (toml_fault.BadValue key.Streams))) network_flow_from (λ table _ found h. network_flow_written table found h)

-- and all of a text
abbrev AreWritten : List NetworkFlowText → Type 0
AreWritten founds = All IsWrittenFlow founds

array_written : (items : Items) (founds : List NetworkFlowText) → network_flows_of_array items ≡ Ok founds → AreWritten founds
array_written items founds h = by (are_tables items) h
  where
    by : (b : Bool) → (if b then network_flows_from items else Err (flows_fault.Streams (toml_fault.BadValue key.Streams))) ≡ Ok founds → AreWritten founds
    by true e = each_from-All IsWrittenFlow (λ d. and_then (ok_or (as_table d) (flows_fault.Streams (toml_fault.BadValue key.Streams))) network_flow_from) element_written items founds e
    by false e = absurd cc

document_written : (table : Members) (founds : List NetworkFlowText) → network_flows_in table ≡ Ok founds → AreWritten founds
document_written table =
    after AreWritten (or_streams (read_at key.Streams as_array table)) network_flows_of_array (λ items _ founds h. array_written items founds h)

pub flows_written : (text : List ℕ) (founds : List NetworkFlowText) → network_flows_of_text text ≡ Ok founds → All IsWrittenFlow founds
flows_written text =
    after AreWritten (or_streams (whole_document streams_keys key.Streams [] text)) _ (λ table _ founds h.
    document_written table founds (refuse-Ok (first_lack_of table) (λ fault. fault) (network_flows_in table) founds h).1)

-- ---- a stream that is to be planned

pub streams_written : (text : List ℕ) (streams : List StreamText) → network_streams_of_text text ≡ Ok streams → All IsWrittenStream streams
streams_written text =
    each_stream IsWrittenStream (λ table stream lack read. traffic_written table stream.traffic (has_read table stream read).traffic) text
