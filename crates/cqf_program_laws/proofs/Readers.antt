-- What a command reads in a text, those that read fewer of its keys read there too.
use Rattle.std.proofs.Common.{◌≡◌, ◌∙◌, ◌∷◌, [], ℕ, suc, Bool, true, false, List, Option, Some, None, Result, Ok, Err, ap, arith, map, refl, subst, sym}
use Rattle.std.specs.Prelude.{if◌then◌else◌, length, ok_or, option_and_then, option_map}
use Rattle.std.specs.Option.{option_or}
use Rattle.std.proofs.lemmas.Simd.{map-map}
use Rattle.toml.specs.Data.{Data, Items, Members, as_array, as_table, item, no_items}
use Rattle.cqf_lists.specs.Results.{and_then, refuse}
use Rattle.cqf_model.specs.declared.frames.Background.{Background}
use Rattle.cqf_model.specs.declared.frames.Offer.{Offer}
use Rattle.cqf_model.specs.Domain.{Domain}
use Rattle.cqf_model.specs.History.{Asked}
use Rattle.cqf_text.specs.Lines.{lines_of}
use Rattle.cqf_text.specs.Parts.{parts_of}
use Rattle.cqf_topology.specs.declared.keys.Key.TheVariants.{Streams}
use Rattle.cqf_topology.specs.declared.toml_faults.TomlFault.{TomlFault}
use Rattle.cqf_topology.specs.declared.toml_faults.TomlFault.TheVariants.{BadValue, Missing}
use Rattle.cqf_topology.specs.Fields.{and_first, are_tables, document_of, each_from, first_absent, first_absent_within, first_missing, read_at, tables_from}
use Rattle.cqf_topology.specs.Fields.{tables_of_key, value_at, whole_document}
use Rattle.cqf_topology.specs.PacedText.{PacedText, paced_from, paced_of_text}
use Rattle.cqf_topology.specs.PlannedText.{PlannedText, deadline_from, planned_from, planned_of_text}
use Rattle.cqf_topology.specs.StreamsText.{stream_keys, streams_keys}
use Rattle.cqf_topology.proofs.Refusals.{and_then-Ok, ok_or-Ok, refuse-Ok}
use Rattle.cqf_traffic.specs.declared.faults.FlowsFault.{FlowsFault}
use Rattle.cqf_traffic.specs.declared.faults.FlowsFault.TheVariants as flows_fault
use Rattle.cqf_traffic.specs.FlowsText.{FlowText, first_lack, first_lack_of, first_lack_within, flow_from, flows_from, flows_in, flows_of_array}
use Rattle.cqf_traffic.specs.FlowsText.{flows_of_text, or_streams, traffic_or}
use Rattle.cqf_traffic.specs.TrafficText.{first_owed}
use Rattle.cqf_network.specs.NetworkFlows.{NetworkFlowText, network_flow_from, network_flows_from, network_flows_in, network_flows_of_array, network_flows_of_text}
use Rattle.cqf_network.specs.NetworkDomain.{NetworkDomain}
use Rattle.cqf_network.specs.StreamsText.{listeners_read, shortest_read, talker_read}
use Rattle.cqf_edge.specs.declared.uses.Handed.{Handed}
use Rattle.cqf_edge.specs.EdgeFlows.{EdgeFlowsText, at_edges, edge_flows, edges_with, flow_at_edge, flows_at_edge, handed_of, handed_of_all, passage_of}
use Rattle.cqf_edge.specs.Uses.{bounds_of}
use Rattle.cqf_admission.specs.Asking.{asked_by}
use Rattle.cqf_admission.specs.Script.{Called, administrators, script_of}
use Rattle.cqf_output.specs.Stops.{or_line}
use Rattle.cqf_program_scenario.specs.Lines.{script_line, streams_line}
use Rattle.cqf_program_scenario.specs.Networks.{domain_of, network_of_part}
use Rattle.cqf_program_scenario.specs.Parts.{RunTexts, run_parts}
use Rattle.cqf_program_scenario.specs.Scenario.{Scenario, calls_in, frames_of_part, scenario_of}
use Rattle.cqf_program_plans.specs.Edges.{edge_line, edges_by_access, edges_without, full_line, has_access, open_edges_of_part}
use Rattle.cqf_program_plans.specs.Latency.Input.{asked_in}
use Rattle.cqf_program_plans.specs.Reserving.{flows_line}
use Rattle.cqf_program_plans.proofs.CompileLemmas.{same_ok}
use Rattle.cqf_program_runs.specs.Deliveries.PlannedScenario.{planned_of_part, planned_scenario_of}
use Rattle.cqf_program_laws.specs.ReaderLaws.{EdgesArePlanned, FlowsArePlanned, NetworkFlowsAreFlows, PlannedPartsArePaced, PlannedScenariosAreScenarios}
use Rattle.cqf_program_laws.specs.ReaderLaws.{PlannedStreamsArePaced, ReadersAgreeOnParts}
use Rattle.cqf_program_laws.proofs.Scripts.{Read, lined, parted, read_of_parts, stepped, with_network, with_scenario, with_streams}

-- ---- elements of an array

-- elements that are read in one way are read in another
each_as : {A B E F : Type 0} (read : Data → Result A E) (other : Data → Result B F) (f : A → B) →
    ((d : Data) (x : A) → read d ≡ Ok x → other d ≡ Ok (f x)) → (items : Items) (xs : List A) → each_from read items ≡ Ok xs →
    each_from other items ≡ Ok (map f xs)
each_as {A} read other f same no_items xs h =
    let none : [] ≡ xs = same_ok {A = List A} [] xs h in
    ap (λ (ys : List A). Ok (map f ys)) none
each_as {A} read other f same (item d ds) xs h =
    let p = parted (read d) (each_from read ds) xs h in
    let first = same d p.0 p.2 in
    let rest = each_as read other f same ds p.1 p.3 in
    (λ i. and_first (first i) (rest i)) ∙ ap (λ (ys : List A). Ok (map f ys)) (sym p.4)

-- an element of the array of streams, and the array, if its elements are tables
abbrev element : {A : Type 0} → (Members → Result A TomlFault) → Data → Result A TomlFault
element reader d = and_then (ok_or (as_table d) (BadValue Streams)) reader

abbrev tables_in : {A : Type 0} → (Members → Result A TomlFault) → Items → Result (List A) TomlFault
tables_in reader items = if are_tables items then tables_from Streams reader items else Err (BadValue Streams)

-- ---- streams with their deadlines

one_paced : (table : Members) (planned : PlannedText) → planned_from table ≡ Ok planned → paced_from table ≡ Ok planned.0
one_paced table planned h =
    let (request, paced, h1) = and_then-Ok (paced_from table) _ planned h in
    let (deadline, at, h2) = and_then-Ok (deadline_from table) _ planned h1 in
    let made : PlannedText = (request, deadline) in
    paced ∙ ap (λ (p : PlannedText). Ok p.0) (same_ok made planned h2)

element_paced : (d : Data) (planned : PlannedText) → element planned_from d ≡ Ok planned → element paced_from d ≡ Ok planned.0
element_paced d planned h =
    let (table, at, h1) = and_then-Ok (ok_or (as_table d) (BadValue Streams)) planned_from planned h in
    ap (λ found. and_then found paced_from) at ∙ one_paced table planned h1

array_paced : (items : Items) (streams : List PlannedText) → tables_in planned_from items ≡ Ok streams →
    tables_in paced_from items ≡ Ok (map (λ (planned : PlannedText). planned.0) streams)
array_paced items streams h = by (are_tables items) h
  where
    by : (b : Bool) → (if b then tables_from Streams planned_from items else Err (BadValue Streams)) ≡ Ok streams →
        (if b then tables_from Streams paced_from items else Err (BadValue Streams)) ≡ Ok (map (λ (planned : PlannedText). planned.0) streams)
    by true read = each_as (element planned_from) (element paced_from) (λ (planned : PlannedText). planned.0) element_paced items streams read
    by false read = absurd (cc)

pub planned_streams_are_paced : PlannedStreamsArePaced
planned_streams_are_paced text streams h =
    let (table, whole, h1) = and_then-Ok (whole_document streams_keys Streams stream_keys text) (tables_of_key Streams planned_from) streams h in
    let (items, at, h2) = and_then-Ok (read_at Streams as_array table) (tables_in planned_from) streams h1 in
    ap (λ found. and_then found (tables_of_key Streams paced_from)) whole
    ∙ ap (λ found. and_then found (tables_in paced_from)) at ∙ array_paced items streams h2

-- ---- streams with their traffic

-- what was read, before its faults were converted
of_streams : {A : Type 0} (found : Result A TomlFault) (x : A) → or_streams found ≡ Ok x → found ≡ Ok x
of_streams (Ok y) x h = cc
of_streams (Err e) x h = absurd (cc)

-- of two answers neither is there
neither : {A : Type 0} (first later : Option A) → option_or first later ≡ None → (first ≡ None) × (later ≡ None)
neither None later h = (refl, h)
neither (Some x) later h = absurd (cc)

unmapped : {A B : Type 0} (f : A → B) (found : Option A) → option_map f found ≡ None → found ≡ None
unmapped f None h = refl
unmapped f (Some x) h = absurd (cc)

-- a table that lacks no key of a stream with traffic lacks no key of a stream
table_lacks : (found : Option Members) → option_and_then first_lack found ≡ None → option_and_then (first_absent stream_keys) found ≡ None
table_lacks None h = refl
table_lacks (Some table) h =
    let absent = option_map (λ key. flows_fault.Streams (Missing key)) (first_absent stream_keys table) in
    unmapped (λ key. flows_fault.Streams (Missing key)) (first_absent stream_keys table)
    (neither absent (option_map flows_fault.Missing (first_owed table)) h).0

tables_lack : (items : Items) → first_lack_within items ≡ None → first_absent_within stream_keys items ≡ None
tables_lack no_items h = refl
tables_lack (item d ds) h =
    let two = neither (option_and_then first_lack (as_table d)) (first_lack_within ds) h in
    let first = table_lacks (as_table d) two.0 in
    let rest = tables_lack ds two.1 in
    λ i. option_or (first i) (rest i)

array_lacks : (found : Option Items) → option_and_then first_lack_within found ≡ None → option_and_then (first_absent_within stream_keys) found ≡ None
array_lacks None h = refl
array_lacks (Some items) h = tables_lack items h

-- so no key of the document is missing
whole_with_keys : (text : List ℕ) (table : Members) → whole_document streams_keys Streams [] text ≡ Ok table → first_lack_of table ≡ None →
    whole_document streams_keys Streams stream_keys text ≡ Ok table
whole_with_keys text table h lack =
    let (read, document, checks) =
    and_then-Ok (document_of text) (λ (found : Members). refuse (first_missing streams_keys Streams [] found) Missing (Ok found)) table h in
    let (none, same) = refuse-Ok (first_missing streams_keys Streams [] read) Missing (Ok read) table checks in
    let keys = (neither (first_absent streams_keys read)
    (option_and_then (first_absent_within []) (option_and_then as_array (value_at Streams read))) none).0 in
    let is : read ≡ table = same_ok read table same in
    let own : first_absent streams_keys table ≡ None = subst (λ (found : Members). first_absent streams_keys found ≡ None) is keys in
    let within = array_lacks (option_and_then as_array (value_at Streams table)) lack in
    ap (λ found. and_then found (λ (t : Members). refuse (first_missing streams_keys Streams stream_keys t) Missing (Ok t))) (document ∙ same)
    ∙ (λ i. refuse (option_or (own i) (within i)) Missing (Ok table))

flow_planned : (table : Members) (flow : FlowText) → flow_from table ≡ Ok flow → planned_from table ≡ Ok flow.0
flow_planned table flow h =
    let (planned, at, h1) = and_then-Ok (or_streams (planned_from table)) _ flow h in
    let (traffic, at_traffic, h2) = and_then-Ok (traffic_or table) _ flow h1 in
    let made : FlowText = (planned, traffic) in
    of_streams (planned_from table) planned at ∙ ap (λ (f : FlowText). Ok f.0) (same_ok made flow h2)

abbrev no_table : FlowsFault
no_table = flows_fault.Streams (BadValue Streams)

abbrev flow_element : Data → Result FlowText FlowsFault
flow_element d = and_then (ok_or (as_table d) no_table) flow_from

element_planned : (d : Data) (flow : FlowText) → flow_element d ≡ Ok flow → element planned_from d ≡ Ok flow.0
element_planned d flow h =
    let (table, at, read) = and_then-Ok (ok_or (as_table d) no_table) flow_from flow h in
    let is = ok_or-Ok (as_table d) no_table table at in
    ap (λ found. and_then (ok_or found (BadValue Streams)) planned_from) is ∙ flow_planned table flow read

array_planned : (items : Items) (flows : List FlowText) → flows_of_array items ≡ Ok flows →
    tables_in planned_from items ≡ Ok (map (λ (flow : FlowText). flow.0) flows)
array_planned items flows h = by (are_tables items) h
  where
    by : (b : Bool) → (if b then flows_from items else Err no_table) ≡ Ok flows →
        (if b then tables_from Streams planned_from items else Err (BadValue Streams)) ≡ Ok (map (λ (flow : FlowText). flow.0) flows)
    by true read = each_as flow_element (element planned_from) (λ (flow : FlowText). flow.0) element_planned items flows read
    by false read = absurd (cc)

pub flows_are_planned : FlowsArePlanned
flows_are_planned text flows h =
    let (table, whole, read) = and_then-Ok (or_streams (whole_document streams_keys Streams [] text)) _ flows h in
    let (lack, all) = refuse-Ok (first_lack_of table) (λ (found : FlowsFault). found) (flows_in table) flows read in
    let (items, at, array) = and_then-Ok (or_streams (read_at Streams as_array table)) flows_of_array flows all in
    let document = whole_with_keys text table (of_streams (whole_document streams_keys Streams [] text) table whole) lack in
    ap (λ found. and_then found (tables_of_key Streams planned_from)) document
    ∙ ap (λ found. and_then found (tables_in planned_from)) (of_streams (read_at Streams as_array table) items at) ∙ array_planned items flows array

-- ---- streams with their talkers

one_flow : (table : Members) (one : NetworkFlowText) → network_flow_from table ≡ Ok one → flow_from table ≡ Ok one.flow
one_flow table one h =
    let (flow, at, h1) = and_then-Ok (flow_from table) _ one h in
    let (talker, at_talker, h2) = and_then-Ok (or_streams (talker_read table)) _ one h1 in
    let (listeners, at_listeners, h3) = and_then-Ok (or_streams (listeners_read table)) _ one h2 in
    let (shortest, at_shortest, h4) = and_then-Ok (shortest_read flow.1 table) _ one h3 in
    let made : NetworkFlowText = record { flow = flow; talker = talker; listeners = listeners; shortest = shortest } in
    at ∙ ap (λ (n : NetworkFlowText). Ok n.flow) (same_ok made one h4)

abbrev network_element : Data → Result NetworkFlowText FlowsFault
network_element d = and_then (ok_or (as_table d) no_table) network_flow_from

element_flow : (d : Data) (one : NetworkFlowText) → network_element d ≡ Ok one → flow_element d ≡ Ok one.flow
element_flow d one h =
    let (table, at, read) = and_then-Ok (ok_or (as_table d) no_table) network_flow_from one h in
    ap (λ found. and_then found flow_from) at ∙ one_flow table one read

array_flows : (items : Items) (found : List NetworkFlowText) → network_flows_of_array items ≡ Ok found →
    flows_of_array items ≡ Ok (map (λ (one : NetworkFlowText). one.flow) found)
array_flows items found h = by (are_tables items) h
  where
    by : (b : Bool) → (if b then network_flows_from items else Err no_table) ≡ Ok found →
        (if b then flows_from items else Err no_table) ≡ Ok (map (λ (one : NetworkFlowText). one.flow) found)
    by true read = each_as network_element flow_element (λ (one : NetworkFlowText). one.flow) element_flow items found read
    by false read = absurd (cc)

pub network_flows_are_flows : NetworkFlowsAreFlows
network_flows_are_flows text found h =
    let (table, whole, read) = and_then-Ok (or_streams (whole_document streams_keys Streams [] text)) _ found h in
    let (lack, all) = refuse-Ok (first_lack_of table) (λ (f : FlowsFault). f) (network_flows_in table) found read in
    let (items, at, array) = and_then-Ok (or_streams (read_at Streams as_array table)) network_flows_of_array found all in
    ap (λ r. and_then r (λ (t : Members). refuse (first_lack_of t) (λ (f : FlowsFault). f) (flows_in t))) whole
    ∙ ap (λ o. refuse o (λ (f : FlowsFault). f) (flows_in table)) lack
    ∙ ap (λ r. and_then r flows_of_array) at ∙ array_flows items found array

-- ---- streams of a part, at their edge bridges

abbrev pub open_edge : EdgeFlowsText → Result EdgeFlowsText (List ℕ)
open_edge edge = refuse edge.full full_line (Ok edge)

abbrev without_traffic : EdgeFlowsText → Result (List PlannedText) (List ℕ)
without_traffic edge = Ok (map (λ (flow : FlowText). flow.0) edge.flows)

-- where no access link is full, they are these
is_open : (edge found : EdgeFlowsText) → open_edge edge ≡ Ok found → (edge.full ≡ None) × (edge ≡ found)
is_open edge found h = let parts = refuse-Ok edge.full full_line (Ok edge) found h in (parts.0, same_ok edge found parts.1)

-- where no station has an access link, they are those of the text
pub record AreOfText (text : List ℕ) (edge : EdgeFlowsText) : Type 0 where
  pub flows : List FlowText
  pub are_read : flows_of_text text ≡ Ok flows
  pub same : at_edges flows ≡ edge

pub open_without : (text : List ℕ) (edge : EdgeFlowsText) → and_then (edges_without text) open_edge ≡ Ok edge → AreOfText text edge
open_without text edge h =
    let e = stepped {B = EdgeFlowsText} (edges_without text) open_edge edge h in
    let g = stepped {B = EdgeFlowsText} (or_line flows_line (flows_of_text text)) (λ (flows : List FlowText). Ok (at_edges flows)) e.0 e.1 in
    record {
      flows = g.0;
      are_read = lined flows_line (flows_of_text text) g.0 g.1;
      same = same_ok (at_edges g.0) e.0 g.2 ∙ (is_open e.0 edge e.2).1;
    }

-- where some has, they are what comes of what is handed over
pub record AreByAccess (network : NetworkDomain) (text : List ℕ) (edge : EdgeFlowsText) : Type 0 where
  pub found : List NetworkFlowText
  pub are_read : network_flows_of_text text ≡ Ok found
  pub at_edges : edge_flows network found ≡ Ok edge
  pub none_full : edge.full ≡ None

pub open_by_access : (network : NetworkDomain) (text : List ℕ) (edge : EdgeFlowsText) → and_then (edges_by_access network text) open_edge ≡ Ok edge →
    AreByAccess network text edge
open_by_access network text edge h =
    let o = stepped {B = EdgeFlowsText} (edges_by_access network text) open_edge edge h in
    let n = stepped {B = EdgeFlowsText} (or_line flows_line (network_flows_of_text text))
    (λ (flows : List NetworkFlowText). or_line edge_line (edge_flows network flows)) o.0 o.1 in
    let open_is = is_open o.0 edge o.2 in
    record {
      found = n.0;
      are_read = lined flows_line (network_flows_of_text text) n.0 n.1;
      at_edges = lined edge_line (edge_flows network n.0) o.0 n.2 ∙ ap (λ (x : EdgeFlowsText). Ok x) open_is.1;
      none_full = subst (λ (x : EdgeFlowsText). x.full ≡ None) open_is.1 open_is.0;
    }

edges_read_without : (text : List ℕ) (edge : EdgeFlowsText) → and_then (edges_without text) open_edge ≡ Ok edge →
    or_line streams_line (planned_of_text text) ≡ Ok (map (λ (flow : FlowText). flow.0) edge.flows)
edges_read_without text edge h =
    let are = open_without text edge h in
    ap (or_line streams_line) (flows_are_planned text are.flows are.are_read) ∙ ap without_traffic are.same

pub edges_are_planned : EdgesArePlanned
edges_are_planned network text edge h = by (has_access network) h
  where
    by : (b : Bool) → and_then (if b then edges_by_access network text else edges_without text) open_edge ≡ Ok edge →
        (if b then and_then (open_edges_of_part network text) without_traffic else or_line streams_line (planned_of_text text))
        ≡ Ok (map (λ (flow : FlowText). flow.0) edge.flows)
    by true read = ap (λ found. and_then found without_traffic) h
    by false read = edges_read_without text edge read

-- what is handed over, one for each stream
pub handed_each : (network : NetworkDomain) (all : List NetworkFlowText) (handed : List (Option Handed)) → handed_of_all network all ≡ Ok handed →
    length handed ≡ length all
handed_each network [] handed h =
    let none : [] ≡ handed = same_ok {A = List (Option Handed)} [] handed h in
    ap (λ (xs : List (Option Handed)). length xs) (sym none)
handed_each network (one ∷ all) handed h =
    let p = parted (handed_of network one) (handed_of_all network all) handed h in
    ap (λ (xs : List (Option Handed)). length xs) p.4 ∙ ap (λ (n : ℕ). suc n) (handed_each network all p.1 p.3)

-- a stream's request is the same at its edge bridge
abbrev asks_of : List FlowText → List PacedText
asks_of flows = map (λ (planned : PlannedText). planned.0) (map (λ (flow : FlowText). flow.0) flows)

abbrev flows_in_file : List NetworkFlowText → List FlowText
flows_in_file all = map (λ (one : NetworkFlowText). one.flow) all

-- what holds without a value and with each holds of any
pub optional : {A : Type 0} (P : Option A → Type 0) (o : Option A) → P None → ((x : A) → P (Some x)) → P o
optional P None without with_one = without
optional P (Some x) without with_one = with_one x

requests_after : (network : NetworkDomain) (whole handed : List (Option Handed)) (all : List NetworkFlowText) → length handed ≡ length all →
    asks_of (flows_at_edge (map (passage_of network (bounds_of network whole)) handed) all) ≡ asks_of (flows_in_file all)
requests_after network whole [] [] same = refl
requests_after network whole [] (one ∷ all) same = absurd (omega (arith, same))
requests_after network whole (h ∷ handed) [] same = absurd (omega (arith, same))
requests_after network whole (h ∷ handed) (one ∷ all) same =
    let rest = requests_after network whole handed all (omega (arith, same)) in
    let first = optional (λ p. (flow_at_edge p one.flow).0.0 ≡ one.flow.0.0) (passage_of network (bounds_of network whole) h) refl (λ p. refl) in
    λ i. first i ∷ rest i

pub same_requests : (network : NetworkDomain) (found : List NetworkFlowText) (edge : EdgeFlowsText) → edge_flows network found ≡ Ok edge →
    asks_of edge.flows ≡ asks_of (flows_in_file found)
same_requests network found edge h =
    let e = stepped {B = EdgeFlowsText} (handed_of_all network found) (λ (handed : List (Option Handed)). Ok (edges_with network found handed)) edge h in
    subst (λ (x : EdgeFlowsText). asks_of x.flows ≡ asks_of (flows_in_file found)) (same_ok (edges_with network found e.0) edge e.2)
    (requests_after network e.0 e.0 found (handed_each network found e.0 e.1))

-- by access links
edges_are_paced : (network : NetworkDomain) (text : List ℕ) (streams : List PlannedText) →
    and_then (and_then (edges_by_access network text) open_edge) without_traffic ≡ Ok streams →
    paced_of_text text ≡ Ok (map (λ (planned : PlannedText). planned.0) streams)
edges_are_paced network text streams h =
    let e = stepped {B = List PlannedText} (and_then (edges_by_access network text) open_edge) without_traffic streams h in
    let are = open_by_access network text e.0 e.1 in
    let flows = flows_in_file are.found in
    let read = flows_are_planned text flows (network_flows_are_flows text are.found are.are_read) in
    let bare : map (λ (flow : FlowText). flow.0) e.0.flows ≡ streams = same_ok (map (λ (flow : FlowText). flow.0) e.0.flows) streams e.2 in
    planned_streams_are_paced text (map (λ (flow : FlowText). flow.0) flows) read
    ∙ ap (λ (requests : List PacedText). Ok requests)
    (sym (same_requests network are.found e.0 are.at_edges) ∙ ap (map (λ (planned : PlannedText). planned.0)) bare)

pub planned_parts_are_paced : PlannedPartsArePaced
planned_parts_are_paced network text streams h = by (has_access network) h
  where
    by : (b : Bool) →
        (if b
        then and_then (and_then (if b then edges_by_access network text else edges_without text) open_edge) without_traffic
        else or_line streams_line (planned_of_text text))
        ≡ Ok streams → paced_of_text text ≡ Ok (map (λ (planned : PlannedText). planned.0) streams)
    by true read = edges_are_paced network text streams read
    by false read = planned_streams_are_paced text streams (lined streams_line (planned_of_text text) streams read)

-- ---- the parts of an input

-- the scenario with its frames
abbrev made_by : RunTexts → Domain → List Called → Result Scenario (List ℕ)
made_by texts d calls = and_then (frames_of_part d texts) (λ (frames : List Offer × List Background). Ok (record {
  domain = d;
  calls = calls;
  sealer = administrators (lines_of texts.script);
  offers = frames.0;
  background = frames.1;
}))

-- the script's calls, by the streams with their deadlines
calls_are : (cycles : ℕ) (texts : RunTexts) (streams : List PlannedText) →
    paced_of_text texts.streams ≡ Ok (map (λ (planned : PlannedText). planned.0) streams) →
    calls_in cycles texts ≡ or_line script_line (script_of (asked_in streams) cycles texts.script)
calls_are cycles texts streams h =
    ap (λ found. and_then (or_line streams_line found) (λ (requests : List PacedText). or_line script_line (script_of (map asked_by requests) cycles texts.script))) h
    ∙ ap (λ (asked : List Asked). or_line script_line (script_of asked cycles texts.script))
    (map-map asked_by (λ (planned : PlannedText). planned.0) streams)

pub readers_agree_on_parts : ReadersAgreeOnParts
readers_agree_on_parts limits cycles texts streams h = by (network_of_part limits texts.domain) refl
  where
    by : (found : Result NetworkDomain (List ℕ)) → network_of_part limits texts.domain ≡ found →
        and_then found (with_network cycles texts)
        ≡ and_then (and_then (and_then found (λ (network : NetworkDomain). Ok (domain_of network)))
        (λ (d : Domain). and_then (calls_in cycles texts) (made_by texts d))) (with_scenario streams)
    by (Err line) is = refl
    by (Ok network) is =
        let read = h network is in
        let d = domain_of network in
        ap (λ found. and_then found (with_streams cycles texts d)) read
        ∙ ap (λ calls. and_then (and_then calls (made_by texts d)) (with_scenario streams))
        (sym (calls_are cycles texts streams (planned_parts_are_paced network texts.streams streams read)))

-- ---- inputs

pub planned_are_scenarios : PlannedScenariosAreScenarios
planned_are_scenarios limits cycles input s streams h =
    let t = stepped {B = Read} (run_parts (parts_of input)) (planned_scenario_of limits cycles) (s, streams) h in
    let texts : RunTexts = t.0 in
    let of = read_of_parts limits cycles texts (s, streams) t.2 in
    let agree = readers_agree_on_parts limits cycles texts streams (λ network is.
    subst (λ (n : NetworkDomain). planned_of_part n texts.streams ≡ Ok streams) (same_ok of.network network (sym of.is_network ∙ is)) of.streams) in
    let c = stepped {B = Read} (scenario_of limits cycles texts) (with_scenario streams) (s, streams) (sym agree ∙ t.2) in
    let made : Read = (c.0, streams) in
    let found : Read = (s, streams) in
    ap (λ parts. and_then parts (scenario_of limits cycles)) t.1 ∙ c.1 ∙ ap (λ (r : Read). Ok r.0) (same_ok made found c.2)
