-- What was read of a stream's table, key by key; and what holds of each stream of a network file's text.
use Rattle.std.proofs.Common.{◌≡◌, ◌∙◌, ℕ, [], ◌∷◌, All, Bool, true, false, List, Option, Some, None, Result, Ok, Err, ap, cond, ok_or, option_map, refl, subst, sym}
use Rattle.std.specs.Prelude.{option_and_then}
use Rattle.std.specs.Option.{option_or}
use Rattle.std.specs.Result.{result_map_both}
use Rattle.std.proofs.lemmas.List.Elements.{All-cons, All-nil}
use Rattle.toml.specs.Data.{Data, Items, Members, as_array, as_str, as_table, item, no_items}
use Rattle.cqf_lists.specs.Results.{and_then}
use Rattle.cqf_topology.specs.declared.keys.Key.TheVariants as key
use Rattle.cqf_topology.specs.declared.toml_faults.TomlFault.TheVariants as toml_fault
use Rattle.cqf_topology.specs.Fields.{and_first, are_tables, each_from, read_at, value_at, whole_document}
use Rattle.cqf_topology.specs.PlannedText.{deadline_from}
use Rattle.cqf_topology.specs.StreamsText.{streams_keys}
use Rattle.cqf_topology.proofs.Refusals.{and_then-Ok, ok_or-Ok, refuse-Ok}
use Rattle.cqf_traffic.specs.declared.faults.FlowsFault.{FlowsFault}
use Rattle.cqf_traffic.specs.declared.faults.FlowsFault.TheVariants as flows_fault
use Rattle.cqf_traffic.specs.FlowsText.{or_streams, traffic_or}
use Rattle.cqf_traffic.specs.TrafficText.{traffic_from}
use Rattle.cqf_network.specs.StreamsText.{StreamText, branches_if, first_lack, first_lack_of, first_lack_within, listeners_read, octets_from, pacing_from, shortest_read}
use Rattle.cqf_network.specs.StreamsText.{network_streams_of_text, path_by, stream_from, streams_from, streams_in, streams_of_array, talker_read}

-- what was read, before its fault is converted
pub map_both-Ok : {A E F : Type 0} (f : E → F) (r : Result A E) (x : A) → result_map_both (λ y. y) f r ≡ Ok x → r ≡ Ok x
map_both-Ok f (Ok y) x h = cc
map_both-Ok f (Err e) x h = absurd cc

pub record HasRead (table : Members) (s : StreamText) : Type 0 where
  pub given : Option (List (List (List ℕ)))
  pub name : read_at key.Name as_str table ≡ Ok s.name
  pub octets : octets_from table ≡ Ok s.octets
  pub pacing : pacing_from table ≡ Ok s.pacing
  pub branches : branches_if table ≡ Ok given
  pub talker : talker_read table ≡ Ok s.talker
  pub listeners : listeners_read table ≡ Ok s.listeners
  pub path : path_by given s.talker s.listeners ≡ Ok s.path
  pub deadline : deadline_from table ≡ Ok s.deadline
  pub traffic : traffic_from table ≡ Ok s.traffic
  pub shortest : shortest_read s.traffic table ≡ Ok s.shortest

-- what is read is one stream
abbrev read_as : StreamText → Result StreamText FlowsFault
read_as s = Ok s

abbrev ok_value : StreamText → Result StreamText FlowsFault → StreamText
ok_value default (Ok x) = x
ok_value default (Err e) = default

one_ok : (a b : StreamText) → read_as a ≡ read_as b → a ≡ b
one_ok a b same = ap (ok_value a) same

pub has_read : (table : Members) (s : StreamText) → stream_from table ≡ Ok s → HasRead table s
has_read table s h =
    let (name, at_name, h1) = and_then-Ok (or_streams (read_at key.Name as_str table)) _ s h in
    let (octets, at_octets, h2) = and_then-Ok (or_streams (octets_from table)) _ s h1 in
    let (pacing, at_pacing, h3) = and_then-Ok (pacing_from table) _ s h2 in
    let (paths, at_paths, h4) = and_then-Ok (or_streams (branches_if table)) _ s h3 in
    let (talker, at_talker, h5) = and_then-Ok (or_streams (talker_read table)) _ s h4 in
    let (listeners, at_listeners, h6) = and_then-Ok (or_streams (listeners_read table)) _ s h5 in
    let (path, at_path, h7) = and_then-Ok (or_streams (path_by paths talker listeners)) _ s h6 in
    let (deadline, at_deadline, h8) = and_then-Ok (or_streams (deadline_from table)) _ s h7 in
    let (traffic, at_traffic, h9) = and_then-Ok (traffic_or table) _ s h8 in
    let (shortest, at_shortest, h10) = and_then-Ok (shortest_read traffic table) _ s h9 in
    let found : StreamText = record {
      name = name;
      octets = octets;
      pacing = pacing;
      path = path;
      talker = talker;
      listeners = listeners;
      deadline = deadline;
      traffic = traffic;
      shortest = shortest;
    } in
    let same : found ≡ s = one_ok found s h10 in
    let was : HasRead table found = record {
      given = paths;
      name = map_both-Ok flows_fault.Streams (read_at key.Name as_str table) name at_name;
      octets = map_both-Ok flows_fault.Streams (octets_from table) octets at_octets;
      pacing = at_pacing;
      branches = map_both-Ok flows_fault.Streams (branches_if table) paths at_paths;
      talker = map_both-Ok flows_fault.Streams (talker_read table) talker at_talker;
      listeners = map_both-Ok flows_fault.Streams (listeners_read table) listeners at_listeners;
      path = map_both-Ok flows_fault.Streams (path_by paths talker listeners) path at_path;
      deadline = map_both-Ok flows_fault.Streams (deadline_from table) deadline at_deadline;
      traffic = map_both-Ok flows_fault.BadValue (traffic_from table) traffic at_traffic;
      shortest = at_shortest;
    } in
    subst (HasRead table) same was

-- the first was right, and so were the others
pub record AreBoth {A E : Type 0} (first : Result A E) (others : Result (List A) E) (xs : List A) : Type 0 where
  pub one : A
  pub more : List A
  pub first_is : first ≡ Ok one
  pub others_are : others ≡ Ok more
  pub all : xs ≡ one ∷ more

pub and_first-Ok : {A E : Type 0} (first : Result A E) (others : Result (List A) E) (xs : List A) → and_first first others ≡ Ok xs → AreBoth first others xs
and_first-Ok (Err e) others xs h = absurd cc
and_first-Ok (Ok x) (Err e) xs h = absurd cc
and_first-Ok {A} {E} (Ok x) (Ok ys) xs h = let e : xs ≡ x ∷ ys = cc in record { one = x; more = ys; first_is = refl; others_are = refl; all = e }

-- neither of two answers is there, or the answer that a map changes
pub or_None : {A : Type 0} (a b : Option A) → option_or a b ≡ None → (a ≡ None) × (b ≡ None)
or_None None b h = (refl, h)
or_None (Some x) b h = absurd cc

pub map_None : {A B : Type 0} (f : A → B) (o : Option A) → option_map f o ≡ None → o ≡ None
map_None f None h = refl
map_None f (Some x) h = absurd cc

-- ---- all streams of a text

abbrev no_table : FlowsFault
no_table = flows_fault.Streams (toml_fault.BadValue key.Streams)

abbrev reader : Data → Result StreamText FlowsFault
reader d = and_then (ok_or (as_table d) no_table) stream_from

module _ (P : StreamText → Type 0) (each : (table : Members) (s : StreamText) → first_lack table ≡ None → stream_from table ≡ Ok s → P s) where
  each_element : (items : Items) (streams : List StreamText) → first_lack_within items ≡ None → each_from reader items ≡ Ok streams → All P streams
  each_element no_items streams lack e = let nil : [] ≡ streams = cc in subst (All P) nil (All-nil P)
  each_element (item d ds) streams lack e =
      let both = and_first-Ok (reader d) (each_from reader ds) streams e in
      let none = or_None (option_and_then first_lack (as_table d)) (first_lack_within ds) lack in
      let (table, at, read) = and_then-Ok (ok_or (as_table d) no_table) stream_from both.one both.first_is in
      let whole : first_lack table ≡ None = sym (ap (option_and_then first_lack) (ok_or-Ok (as_table d) no_table table at)) ∙ none.0 in
      subst (All P) (sym both.all) (All-cons P both.one both.more (each table both.one whole read) (each_element ds both.more none.1 both.others_are))

  -- what holds of each stream that is read of a table that lacks no key
  pub each_stream : (text : List ℕ) (streams : List StreamText) → network_streams_of_text text ≡ Ok streams → All P streams
  each_stream text streams e =
      let (table, whole, read) = and_then-Ok (or_streams (whole_document streams_keys key.Streams [] text)) _ streams e in
      let (lack, all) = refuse-Ok (first_lack_of table) (λ (fault : FlowsFault). fault) (streams_in table) streams read in
      let (items, at, array) = and_then-Ok (or_streams (read_at key.Streams as_array table)) streams_of_array streams all in
      let array_is : option_and_then as_array (value_at key.Streams table) ≡ Some items =
      ok_or-Ok (option_and_then as_array (value_at key.Streams table)) (toml_fault.BadValue key.Streams) items
      (map_both-Ok flows_fault.Streams (read_at key.Streams as_array table) items at) in
      by items (are_tables items) (sym (ap (option_and_then first_lack_within) array_is) ∙ lack) array
    where
      by : (items : Items) (b : Bool) → first_lack_within items ≡ None → cond b (streams_from items) (Err no_table) ≡ Ok streams → All P streams
      by items true lack each_read = each_element items streams lack each_read
      by items false lack each_read = absurd cc
