-- Reading the streams of a text with what was chosen for them, and so the text of a planned network.
use Rattle.std.proofs.Common.{◌≡◌, ◌∙◌, ℕ, suc, List, [], ◌∷◌, ◌&&◌, pos, Bool, true, false, cond, Option, IsSome, Some, None, Result, Ok, Err, is_none, is_some, ok_or, refl, ap, sym, arith}
use Rattle.std.specs.Option.{option_and_then, option_map_or, option_or}
use Rattle.toml.specs.Data.{Data, Items, Members, array, as_array, as_table, integer, item, no_items, table}
use Rattle.cqf_lists.specs.Results.{and_then, refuse}
use Rattle.cqf_topology.specs.declared.keys.Key.{Key}
use Rattle.cqf_topology.specs.declared.keys.Key.TheVariants as key
use Rattle.cqf_topology.specs.declared.toml_faults.TomlFault.{TomlFault}
use Rattle.cqf_topology.specs.declared.toml_faults.TomlFault.TheVariants.{BadValue}
use Rattle.cqf_topology.specs.Fields.{and_first, are_tables, each_from, first_absent, first_absent_within, key_text, read_at, tables_from, tables_of_key, value_at}
use Rattle.cqf_topology.specs.Fields.{whole_document}
use Rattle.cqf_topology.specs.PacedText.{paced_from}
use Rattle.cqf_topology.specs.PlannedText.{planned_from}
use Rattle.cqf_topology.specs.StreamsText.{request_from, stream_keys, streams_keys}
use Rattle.cqf_topology.proofs.Refusals.{and_then-Ok, ok_or-Ok, refuse-Ok}
use Rattle.cqf_traffic.specs.declared.faults.FlowsFault.{FlowsFault}
use Rattle.cqf_traffic.specs.declared.faults.FlowsFault.TheVariants as flows_fault
use Rattle.cqf_traffic.specs.FlowsText.{first_lack as first_flow_lack, first_lack_of as first_flow_lack_of, first_lack_within as first_flow_lack_within}
use Rattle.cqf_traffic.specs.FlowsText.{flow_from, flows_from, flows_in, flows_of_array, flows_of_text, or_streams}
use Rattle.cqf_traffic.specs.PacedFlows.{paced_flow_from, paced_flows_from, paced_flows_in, paced_flows_of_array, paced_flows_of_text}
use Rattle.cqf_network.specs.NetworkFlows.{network_flow_from, network_flows_from, network_flows_in, network_flows_of_array, network_flows_of_text}
use Rattle.cqf_network.specs.StreamsText.{StreamText, first_lack, first_lack_of, first_lack_within, network_streams_of_text, stream_from, streams_from, streams_in}
use Rattle.cqf_network.specs.StreamsText.{streams_of_array}
use Rattle.cqf_network.proofs.StreamParts.{map_both-Ok, or_None}
use Rattle.cqf_network_text.specs.declared.filling.FilledStream.{FilledStream}
use Rattle.cqf_network_text.specs.DomainMembers.{put}
use Rattle.cqf_network_text.specs.Networks.{array_or_none, filled_item, filled_network, filled_stream, filled_streams, streams_of, table_of}
use Rattle.cqf_network_text.specs.NetworkLaws.{AreChoices, FilledNetworksReadBack, IsChoice, chosen_flow, chosen_network_flow, chosen_paced, chosen_paced_flow}
use Rattle.cqf_network_text.specs.NetworkLaws.{chosen_planned, chosen_request, chosen_stream, each_chosen}
use Rattle.cqf_network_text.proofs.CycleChosen.{network_reads_back, open_network_reads_back}
use Rattle.cqf_network_text.proofs.Puts.{put_here}
use Rattle.cqf_network_text.proofs.StreamChosen.{flow_is_chosen, flow_lacks_none, keys_lack_none, network_flow_is_chosen, paced_flow_is_chosen, paced_is_chosen, planned_is_chosen}
use Rattle.cqf_network_text.proofs.StreamChosen.{request_is_chosen, stream_is_chosen, stream_lacks_none}
use Rattle.cqf_network_text.proofs.TablesRead.{one_table, table_is, whole_is, whole_parts}

-- the fault of an array whose elements aren't all tables
abbrev no_table : FlowsFault
no_table = flows_fault.Streams (BadValue key.Streams)

-- a reader of the elements of an array
abbrev by_table : {A E : Type 0} → E → (Members → Result A E) → Data → Result A E
by_table fault reader d = and_then (ok_or (as_table d) fault) reader

-- if no key is required, none is missing
none_asked : (items : Items) → first_absent_within [] items ≡ None
none_asked no_items = refl
none_asked (item d ds) = by (as_table d) (none_asked ds)
  where
    by : (o : Option Members) → first_absent_within [] ds ≡ None → option_or (option_and_then (first_absent []) o) (first_absent_within [] ds) ≡ None
    by None rest = rest
    by (Some found) rest = rest

-- the choices for the streams after the first
choices_after : (one : FilledStream) (filled : List FilledStream) (s : StreamText) (streams : List StreamText) → AreChoices (one ∷ filled) (s ∷ streams) →
    AreChoices filled streams
choices_after one filled s streams are = record { one_each = omega (arith, are.one_each); each = λ index. are.each (suc index) }

-- what was read of the first element and of the others
module _ {A : Type 0} where
  first_read : (here : Result A FlowsFault) (rest : Result (List A) FlowsFault) (x : A) (xs : List A) → and_first here rest ≡ Ok (x ∷ xs) → (here ≡ Ok x) × (rest ≡ Ok xs)
  first_read (Ok y) (Ok ys) x xs h =
      let same : y ∷ ys ≡ x ∷ xs = cc in
      let one : y ≡ x = cc in
      let more : ys ≡ xs = cc in
      (ap (λ z. Ok z) one, ap (λ zs. Ok zs) more)
  first_read (Ok y) (Err e) x xs h = absurd cc
  first_read (Err e) rest x xs h = absurd cc

  none_read : (here : Result A FlowsFault) (rest : Result (List A) FlowsFault) → and_first here rest ≡ Ok [] → ⊥
  none_read (Ok y) (Ok ys) h = cc
  none_read (Ok y) (Err e) h = cc
  none_read (Err e) rest h = cc

-- a reader finds in each stream's table what was chosen
record AreChosen {A E L : Type 0} (reader : Members → Result A E) (chosen : FilledStream → StreamText → A) (lacking : Members → Option L) : Type 0 where
  reads : (one : FilledStream) (before : Members) (s : StreamText) → IsChoice one s → stream_from before ≡ Ok s → first_lack before ≡ None →
      reader (filled_stream one before) ≡ Ok (chosen one s)
  lacks : (one : FilledStream) (before : Members) (s : StreamText) → IsChoice one s → stream_from before ≡ Ok s → first_lack before ≡ None →
      lacking (filled_stream one before) ≡ None

-- the first fault that a test finds in the elements of an array
abbrev lacks_within : {L : Type 0} → (Members → Option L) → Items → Option L
lacks_within lacking no_items = None
lacks_within lacking (item d ds) = option_or (option_and_then lacking (as_table d)) (lacks_within lacking ds)

-- all that is read of an array of streams
record ReadsAll {A E L : Type 0} (fault : E) (reader : Members → Result A E) (lacking : Members → Option L) (items : Items) (found : List A) : Type 0 where
  tables : are_tables items ≡ true
  none : lacks_within lacking items ≡ None
  each : each_from (by_table fault reader) items ≡ Ok found

-- a stream that was read is a table
record IsTable (d : Data) (s : StreamText) : Type 0 where
  members : Members
  is : as_table d ≡ Some members
  read : stream_from members ≡ Ok s

is_table : (d : Data) (s : StreamText) → by_table no_table stream_from d ≡ Ok s → IsTable d s
is_table d s h =
    let (members, at, read) = and_then-Ok (ok_or (as_table d) no_table) stream_from s h in
    record { members = members; is = ok_or-Ok (as_table d) no_table members at; read = read }

module _ {A E L : Type 0} (fault : E) (reader : Members → Result A E) (chosen : FilledStream → StreamText → A) (lacking : Members → Option L)
    (good : AreChosen reader chosen lacking) where
  -- one stream
  one_more : (one : FilledStream) (filled : List FilledStream) (d : Data) (ds : Items) (s : StreamText) (streams : List StreamText) →
      IsChoice one s → by_table no_table stream_from d ≡ Ok s → option_and_then first_lack (as_table d) ≡ None →
      ReadsAll fault reader lacking (filled_streams filled ds) (each_chosen chosen filled streams) →
      ReadsAll fault reader lacking (filled_streams (one ∷ filled) (item d ds)) (each_chosen chosen (one ∷ filled) (s ∷ streams))
  one_more one filled d ds s streams choice read none rest =
      let t = is_table d s read in
      let whole : first_lack t.members ≡ None = ap (option_and_then first_lack) (sym t.is) ∙ none in
      let here : filled_item one d ≡ table (filled_stream one t.members) = ap (λ o. option_map_or (λ members. table (filled_stream one members)) o d) t.is in
      let reads = good.reads one t.members s choice t.read whole in
      let lacks = good.lacks one t.members s choice t.read whole in
      let rest_tables = rest.tables in
      let rest_none = rest.none in
      let rest_each = rest.each in
      record {
        tables = (λ i. is_some (as_table (here i)) && rest_tables i);
        none = (λ i. option_or (option_and_then lacking (as_table (here i))) (rest_none i)) ∙ ap (λ o. option_or o None) lacks;
        each = (λ i. and_first (by_table fault reader (here i)) (rest_each i)) ∙ ap (λ r. and_first r (Ok (each_chosen chosen filled streams))) reads;
      }

  -- all of them
  all_read : (filled : List FilledStream) (items : Items) (streams : List StreamText) → AreChoices filled streams →
      each_from (by_table no_table stream_from) items ≡ Ok streams → first_lack_within items ≡ None →
      ReadsAll fault reader lacking (filled_streams filled items) (each_chosen chosen filled streams)
  all_read [] no_items streams are read none = record { tables = refl; none = refl; each = refl }
  all_read [] (item d ds) [] are read none = absurd (none_read (by_table no_table stream_from d) (each_from (by_table no_table stream_from) ds) read)
  all_read [] (item d ds) (s ∷ streams) are read none = absurd (omega (arith, are.one_each))
  all_read (one ∷ filled) no_items [] are read none = absurd (omega (arith, are.one_each))
  all_read (one ∷ filled) no_items (s ∷ streams) are read none = absurd cc
  all_read (one ∷ filled) (item d ds) [] are read none = absurd (omega (arith, are.one_each))
  all_read (one ∷ filled) (item d ds) (s ∷ streams) are read none =
      let (here, rest) = first_read (by_table no_table stream_from d) (each_from (by_table no_table stream_from) ds) s streams read in
      let (none_here, none_after) = or_None (option_and_then first_lack (as_table d)) (first_lack_within ds) none in
      one_more one filled d ds s streams (are.each 0 one s refl refl) here none_here
      (all_read filled ds streams (choices_after one filled s streams are) rest none_after)

-- each reader
by_plan : AreChosen stream_from chosen_stream first_lack
by_plan = record { reads = stream_is_chosen; lacks = stream_lacks_none }

by_flows : AreChosen flow_from chosen_flow first_flow_lack
by_flows = record { reads = flow_is_chosen; lacks = flow_lacks_none }

by_network : AreChosen network_flow_from chosen_network_flow first_flow_lack
by_network = record { reads = network_flow_is_chosen; lacks = flow_lacks_none }

by_paced_flows : AreChosen paced_flow_from chosen_paced_flow first_flow_lack
by_paced_flows = record { reads = paced_flow_is_chosen; lacks = flow_lacks_none }

by_planned : AreChosen planned_from chosen_planned (first_absent stream_keys)
by_planned = record { reads = planned_is_chosen; lacks = keys_lack_none }

by_paced : AreChosen paced_from chosen_paced (first_absent stream_keys)
by_paced = record { reads = paced_is_chosen; lacks = keys_lack_none }

by_requests : AreChosen request_from chosen_request (first_absent stream_keys)
by_requests = record { reads = request_is_chosen; lacks = keys_lack_none }

-- what an array of streams lacks, as the readers say it
keys_lack : (items : Items) → lacks_within (first_absent stream_keys) items ≡ first_absent_within stream_keys items
keys_lack no_items = refl
keys_lack (item d ds) = ap (option_or (option_and_then (first_absent stream_keys) (as_table d))) (keys_lack ds)

network_lacks : (items : Items) → lacks_within first_lack items ≡ first_lack_within items
network_lacks no_items = refl
network_lacks (item d ds) = ap (option_or (option_and_then first_lack (as_table d))) (network_lacks ds)

flows_lack : (items : Items) → lacks_within first_flow_lack items ≡ first_flow_lack_within items
flows_lack no_items = refl
flows_lack (item d ds) = ap (option_or (option_and_then first_flow_lack (as_table d))) (flows_lack ds)

-- the array of streams of a text
record HasStreams (text : List ℕ) (members : Members) (wanted : List StreamText) : Type 0 where
  items : Items
  at : option_and_then as_array (value_at key.Streams members) ≡ Some items
  none : first_lack_within items ≡ None
  each : each_from (by_table no_table stream_from) items ≡ Ok wanted

has_streams : (text : List ℕ) (members : Members) (wanted : List StreamText) → network_streams_of_text text ≡ Ok wanted → table_of text ≡ Some members →
    HasStreams text members wanted
has_streams text members wanted h is =
    let (found, whole, rest) = and_then-Ok (or_streams (whole_document streams_keys key.Streams [] text)) _ wanted h in
    let parts = whole_parts streams_keys key.Streams [] text found (map_both-Ok flows_fault.Streams (whole_document streams_keys key.Streams [] text) found whole) in
    let (lack, all) = refuse-Ok (first_lack_of found) (λ fault. fault) (streams_in found) wanted rest in
    let (items, at, each) = and_then-Ok (or_streams (read_at key.Streams as_array found)) streams_of_array wanted all in
    let there : option_and_then as_array (value_at key.Streams found) ≡ Some items =
    ok_or-Ok (option_and_then as_array (value_at key.Streams found)) (BadValue key.Streams) items
    (map_both-Ok flows_fault.Streams (read_at key.Streams as_array found) items at) in
    let same : found ≡ members = one_table text found members parts.document is in
    record {
      items = items;
      at = ap (λ m. option_and_then as_array (value_at key.Streams m)) (sym same) ∙ there;
      none = ap (option_and_then first_lack_within) (sym there) ∙ lack;
      each = by items (are_tables items) each;
    }
  where
    by : (items : Items) (b : Bool) → cond b (streams_from items) (Err no_table) ≡ Ok wanted → streams_from items ≡ Ok wanted
    by items true h = h
    by items false h = absurd cc

-- the text's array with what was chosen
module _ (cycle : ℕ) (filled : List FilledStream) (domain streams : List ℕ) (text : List ℕ) (domain_members members : Members) (wanted : List StreamText)
    (read : network_streams_of_text streams ≡ Ok wanted) (are : AreChoices filled wanted) (from_table : table_of streams ≡ Some members)
    (is : table_of text ≡ Some (filled_network cycle filled domain_members members)) where
  abbrev all : Members
  all = filled_network cycle filled domain_members members

  abbrev has : HasStreams streams members wanted
  has = has_streams streams members wanted read from_table

  array_there : value_at key.Streams all ≡ Some (array (filled_streams filled has.items))
  array_there =
      put_here (key_text key.Streams) (array (filled_streams filled (streams_of members))) (put (key_text key.Cycle) (integer (pos cycle)) domain_members)
      ∙ ap (λ o. Some (array (filled_streams filled (array_or_none o)))) has.at

  whole_within : (within : List Key) → first_absent_within within (filled_streams filled has.items) ≡ None → whole_document streams_keys key.Streams within text ≡ Ok all
  whole_within within none =
      let there = array_there in
      whole_is streams_keys key.Streams within text all is
      ((λ i. option_or (cond (is_none (there i) && true) (Some key.Streams) None)
      (option_and_then (first_absent_within within) (option_and_then as_array (there i)))) ∙ none)

  whole : whole_document streams_keys key.Streams [] text ≡ Ok all
  whole = whole_within [] (none_asked (filled_streams filled has.items))

  module _ {A E L : Type 0} (fault : E) (reader : Members → Result A E) (chosen : FilledStream → StreamText → A) (lacking : Members → Option L)
      (good : AreChosen reader chosen lacking) where
    found : ReadsAll fault reader lacking (filled_streams filled has.items) (each_chosen chosen filled wanted)
    found = all_read fault reader chosen lacking good filled has.items wanted are has.each has.none

  -- `plan` reads the streams with what was chosen
  streams_read_back : network_streams_of_text text ≡ Ok (each_chosen chosen_stream filled wanted)
  streams_read_back =
      let items = filled_streams filled has.items in
      let parts = found no_table stream_from chosen_stream first_lack by_plan in
      let there = array_there in
      let document = whole in
      let none : first_lack_within items ≡ None = sym (network_lacks items) ∙ parts.none in
      let tables = parts.tables in
      (λ i. and_then (or_streams (document i)) (λ found. refuse (first_lack_of found) (λ fault. fault) (streams_in found)))
      ∙ (λ i. refuse (option_and_then first_lack_within (option_and_then as_array (there i))) (λ fault. fault)
      (and_then (or_streams (ok_or (option_and_then as_array (there i)) (BadValue key.Streams))) streams_of_array))
      ∙ (λ i. refuse (none i) (λ fault. fault) (cond (tables i) (streams_from items) (Err no_table)))
      ∙ parts.each

  -- the other commands do
  flows_read_back : flows_of_text text ≡ Ok (each_chosen chosen_flow filled wanted)
  flows_read_back =
      let items = filled_streams filled has.items in
      let parts = found no_table flow_from chosen_flow first_flow_lack by_flows in
      let there = array_there in
      let document = whole in
      let none : first_flow_lack_within items ≡ None = sym (flows_lack items) ∙ parts.none in
      let tables = parts.tables in
      (λ i. and_then (or_streams (document i)) (λ found. refuse (first_flow_lack_of found) (λ fault. fault) (flows_in found)))
      ∙ (λ i. refuse (option_and_then first_flow_lack_within (option_and_then as_array (there i))) (λ fault. fault)
      (and_then (or_streams (ok_or (option_and_then as_array (there i)) (BadValue key.Streams))) flows_of_array))
      ∙ (λ i. refuse (none i) (λ fault. fault) (cond (tables i) (flows_from items) (Err no_table)))
      ∙ parts.each

  -- and so they do where the network has access links
  network_flows_read_back : network_flows_of_text text ≡ Ok (each_chosen chosen_network_flow filled wanted)
  network_flows_read_back =
      let items = filled_streams filled has.items in
      let parts = found no_table network_flow_from chosen_network_flow first_flow_lack by_network in
      let there = array_there in
      let document = whole in
      let none : first_flow_lack_within items ≡ None = sym (flows_lack items) ∙ parts.none in
      let tables = parts.tables in
      (λ i. and_then (or_streams (document i)) (λ found. refuse (first_flow_lack_of found) (λ fault. fault) (network_flows_in found)))
      ∙ (λ i. refuse (option_and_then first_flow_lack_within (option_and_then as_array (there i))) (λ fault. fault)
      (and_then (or_streams (ok_or (option_and_then as_array (there i)) (BadValue key.Streams))) network_flows_of_array))
      ∙ (λ i. refuse (none i) (λ fault. fault) (cond (tables i) (network_flows_from items) (Err no_table)))
      ∙ parts.each

  -- and those that read them with traffic alone
  paced_flows_read_back : paced_flows_of_text text ≡ Ok (each_chosen chosen_paced_flow filled wanted)
  paced_flows_read_back =
      let items = filled_streams filled has.items in
      let parts = found no_table paced_flow_from chosen_paced_flow first_flow_lack by_paced_flows in
      let there = array_there in
      let document = whole in
      let none : first_flow_lack_within items ≡ None = sym (flows_lack items) ∙ parts.none in
      let tables = parts.tables in
      (λ i. and_then (or_streams (document i)) (λ found. refuse (first_flow_lack_of found) (λ fault. fault) (paced_flows_in found)))
      ∙ (λ i. refuse (option_and_then first_flow_lack_within (option_and_then as_array (there i))) (λ fault. fault)
      (and_then (or_streams (ok_or (option_and_then as_array (there i)) (BadValue key.Streams))) paced_flows_of_array))
      ∙ (λ i. refuse (none i) (λ fault. fault) (cond (tables i) (paced_flows_from items) (Err no_table)))
      ∙ parts.each

  -- or without it
  requests_read_back : {A : Type 0} (reader : Members → Result A TomlFault) (chosen : FilledStream → StreamText → A) →
      AreChosen reader chosen (first_absent stream_keys) →
      and_then (whole_document streams_keys key.Streams stream_keys text) (tables_of_key key.Streams reader) ≡ Ok (each_chosen chosen filled wanted)
  requests_read_back reader chosen good =
      let items = filled_streams filled has.items in
      let parts = found (BadValue key.Streams) reader chosen (first_absent stream_keys) good in
      let there = array_there in
      let document = whole_within stream_keys (sym (keys_lack items) ∙ parts.none) in
      let tables = parts.tables in
      (λ i. and_then (document i) (tables_of_key key.Streams reader))
      ∙ (λ i. and_then (ok_or (option_and_then as_array (there i)) (BadValue key.Streams))
      (λ found. cond (are_tables found) (tables_from key.Streams reader found) (Err (BadValue key.Streams))))
      ∙ (λ i. cond (tables i) (tables_from key.Streams reader items) (Err (BadValue key.Streams)))
      ∙ parts.each

-- what was chosen is what is read
pub filled_reads_back : FilledNetworksReadBack
filled_reads_back limits given domain streams text cycle filled network wanted read open_to streams_read are reported shallow =
    let is : table_of text ≡ Some (filled_network cycle filled reported.domain_members reported.streams_members) = reported.written shallow in
    record {
      network_is =
          network_reads_back limits cycle filled reported.domain_members reported.streams_members given domain text network read open_to reported.domain_read is;
      open_network_is = open_network_reads_back limits cycle filled reported.domain_members reported.streams_members given domain text network read open_to reported.domain_read is;
      streams_are = streams_read_back cycle filled domain streams text reported.domain_members reported.streams_members wanted streams_read are reported.streams_read is;
      flows_are = flows_read_back cycle filled domain streams text reported.domain_members reported.streams_members wanted streams_read are reported.streams_read is;
      network_flows_are =
          network_flows_read_back cycle filled domain streams text reported.domain_members reported.streams_members wanted streams_read are reported.streams_read is;
      paced_flows_are = paced_flows_read_back cycle filled domain streams text reported.domain_members reported.streams_members wanted streams_read are reported.streams_read is;
      planned_are = requests_read_back cycle filled domain streams text reported.domain_members reported.streams_members wanted streams_read are reported.streams_read is planned_from chosen_planned by_planned;
      paced_are = requests_read_back cycle filled domain streams text reported.domain_members reported.streams_members wanted streams_read are reported.streams_read is paced_from chosen_paced by_paced;
      requests_are = requests_read_back cycle filled domain streams text reported.domain_members reported.streams_members wanted streams_read are reported.streams_read is request_from chosen_request by_requests;
    }

-- a text whose streams were read has a table
pub streams_have_table : (text : List ℕ) (wanted : List StreamText) → network_streams_of_text text ≡ Ok wanted → IsSome (table_of text)
streams_have_table text wanted read =
    let (found, whole, _) = and_then-Ok (or_streams (whole_document streams_keys key.Streams [] text)) _ wanted read in
    let parts = whole_parts streams_keys key.Streams [] text found (map_both-Ok flows_fault.Streams (whole_document streams_keys key.Streams [] text) found whole) in
    ap is_some (table_is text found parts.document)
