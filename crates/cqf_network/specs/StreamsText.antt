-- The streams of a network file, or the first fault of their text.
use Rattle.std.specs.Prelude.{ℕ, List, [], ◌∷◌, ◌++◌, ◌&&◌, ◌||◌, ◌==◌, Bool, false, codes, drop, if◌then◌else◌, is_none, is_some, length, map, nat_le, Option, Some, None, ok_or}
use Rattle.std.specs.Prelude.{option_and_then, option_map, position, Result, Ok, Err, string_bytes, suc, take}
use Rattle.std.specs.Option.{option_map_or, option_or}
use Rattle.toml.specs.Data.{Data, Items, no_items, item, Members, as_array, as_bool, as_str, as_table, get_member}
use Rattle.cqf_lists.specs.Results.{and_then, refuse}
use Rattle.cqf_topology.specs.declared.keys.Key.{Key}
use Rattle.cqf_topology.specs.declared.keys.Key.TheVariants.{From, To, Streams, Name, Octets, Every, Phase, Path, Paths}
use Rattle.cqf_topology.specs.declared.toml_faults.TomlFault.{TomlFault}
use Rattle.cqf_topology.specs.declared.toml_faults.TomlFault.TheVariants as toml_fault
use Rattle.cqf_topology.specs.Fields.{are_tables, each_from, first_absent, if_name, name_from, names_from, number_from, number_or, read_at, value_at, whole_document}
use Rattle.cqf_topology.specs.DomainText.{first_taken}
use Rattle.cqf_topology.specs.PlannedText.{deadline_from}
use Rattle.cqf_topology.specs.StreamsText.{branches_from, streams_keys}
use Rattle.cqf_traffic.specs.declared.faults.FlowsFault.{FlowsFault}
use Rattle.cqf_traffic.specs.declared.faults.FlowsFault.TheVariants as flows_fault
use Rattle.cqf_traffic.specs.FlowsText.{or_streams, traffic_or}
use Rattle.cqf_traffic.specs.TrafficText.{TrafficText, first_owed, has_traffic}
use Rattle.cqf_network.specs.declared.pacing.Pacing.{Pacing}
use Rattle.cqf_network.specs.declared.pacing.Pacing.TheVariants.{Given, InStep}
use Rattle.cqf_network.specs.declared.talkers.Talker.{Talker}
use Rattle.cqf_network.specs.declared.wanted.WantedPath.{WantedPath}
use Rattle.cqf_network.specs.declared.wanted.WantedPath.TheVariants as wanted
use Rattle.cqf_network.specs.declared.streams.Stream.{Stream}

-- the path that a stream is to take: along given branches, or from a talker or bridge to its listeners
pub data WantedText : Type 0 where
  Along : List (List (List ℕ)) → WantedText
  Between : List ℕ → List (List ℕ) → WantedText

-- a stream of a network file: its name, its octets per cycle if the text gives them, in which cycles it is offered, its path, its talker
-- and its listeners if the text gives them, its deadline, its traffic, and how long its shortest frame is if the text says it
pub record StreamText : Type 0 where
  pub name : List ℕ
  pub octets : Option ℕ
  pub pacing : Pacing
  pub path : WantedText
  pub talker : Option Talker
  pub listeners : Option (List (List ℕ))
  pub deadline : Option ℕ
  pub traffic : Option TrafficText
  pub shortest : Option ℕ

abbrev pub wanted_text : WantedPath → WantedText
wanted_text (wanted.Along paths) = Along (map (λ path. map string_bytes path.items) paths.items)
wanted_text (wanted.Between from to) = Between from to.items

abbrev pub stream_text : Stream → StreamText
stream_text stream = record {
  name = string_bytes stream.name;
  octets = stream.octets;
  pacing = stream.pacing;
  path = wanted_text stream.path;
  talker = stream.talker;
  listeners = option_map (λ names. names.items) stream.listeners;
  deadline = stream.deadline;
  traffic = stream.traffic;
  shortest = stream.shortest;
}

-- whether branches are given
abbrev pub has_path : Members → Bool
has_path table = is_some (value_at Path table) || is_some (value_at Paths table)

-- the keys that a stream's table must have, apart from those of traffic: `octets` if there is no traffic, and the ends
-- if no branches are given
abbrev pub owed_keys : Members → List Key
owed_keys table = Name ∷ ((if has_traffic table then [] else Octets ∷ []) ++ (if has_path table then [] else From ∷ To ∷ []))

-- the first key that a stream's table lacks
abbrev pub first_lack : Members → Option FlowsFault
first_lack table =
    option_or (option_map (λ key. flows_fault.Streams (toml_fault.Missing key)) (first_absent (owed_keys table) table))
    (option_map flows_fault.Missing (first_owed table))

-- the same over the elements of an array, in order; elements that aren't tables are skipped
abbrev pub first_lack_within : Items → Option FlowsFault
first_lack_within no_items = None
first_lack_within (item d ds) = option_or (option_and_then first_lack (as_table d)) (first_lack_within ds)

abbrev pub first_lack_of : Members → Option FlowsFault
first_lack_of table = option_and_then first_lack_within (option_and_then as_array (value_at Streams table))

-- the octets of a stream, if the key is there
abbrev pub octets_by : Option Data → Members → Result (Option ℕ) TomlFault
octets_by None table = Ok None
octets_by (Some d) table = and_then (read_at Octets (number_from 0 4294967295) table) (λ octets. Ok (Some octets))

abbrev pub octets_from : Members → Result (Option ℕ) TomlFault
octets_from table = octets_by (value_at Octets table) table

-- whether a stream's talker is in step with the network; not if the key is absent
abbrev pub in_step_by : Option Data → Result Bool FlowsFault
in_step_by None = Ok false
in_step_by (Some d) = ok_or (as_bool d) flows_fault.BadInStep

abbrev pub in_step_at : Members → Result Bool FlowsFault
in_step_at table = in_step_by (get_member (codes "in-step") table)

-- the pacing of a stream is open: its talker is in step, and its table has no `every`
abbrev pub is_pacing_open : Bool → Members → Bool
is_pacing_open in_step table = in_step && is_none (value_at Every table)

-- in which cycles a stream is offered: in one of `every`, from this phase on; or, if its pacing is open, in those that the plan chooses.
-- With an open pacing, its table may not have `phase`
abbrev pub pacing_by : ℕ → ℕ → Bool → Members → Result Pacing FlowsFault
pacing_by every phase in_step table =
    if is_pacing_open in_step table
    then (if is_some (value_at Phase table) then Err (flows_fault.Streams (toml_fault.BadValue Phase)) else Ok InStep)
    else Ok (Given every phase)

abbrev pub pacing_from : Members → Result Pacing FlowsFault
pacing_from table =
    and_then (or_streams (number_or Every 1 table)) (λ every.
    and_then (or_streams (number_or Phase 0 table)) (λ phase.
    and_then (in_step_at table) (λ in_step.
    pacing_by every phase in_step table)))

-- checks that there are 1 to 64 listeners, all different
abbrev pub if_listeners : List (List ℕ) → Result (List (List ℕ)) TomlFault
if_listeners names =
    if nat_le 1 (length names) && nat_le (length names) 64 && is_none (first_taken [] names) then Ok names else Err (toml_fault.BadValue To)

-- the listeners of a value: a name, or an array of names
abbrev pub listeners_by : Option Items → Data → Result (List (List ℕ)) TomlFault
listeners_by None d = and_then (ok_or (name_from d) (toml_fault.BadValue To)) (λ name. Ok (name ∷ []))
listeners_by (Some items) d = and_then (names_from To items) if_listeners

-- a talker by a text: the name of a node; or the names of a station and of the bridge at the other end of its access link, with `@` between
-- them
abbrev pub talker_at_bridge : ℕ → List ℕ → Option Talker
talker_at_bridge at text =
    option_and_then (λ node. option_map (λ bridge. record { node = node; bridge = Some bridge }) (if_name (drop (suc at) text))) (if_name (take at text))

abbrev pub talker_by : Option ℕ → List ℕ → Option Talker
talker_by None text = option_map (λ node. record { node = node; bridge = None }) (if_name text)
talker_by (Some at) text = talker_at_bridge at text

abbrev pub talker_of_text : List ℕ → Option Talker
talker_of_text text = talker_by (position (λ octet. octet == 64) text) text

-- the talker of a stream's table, and its listeners, if it has them
abbrev pub talker_from : Data → Option Talker
talker_from d = option_and_then talker_of_text (as_str d)

abbrev pub talker_if : Option Data → Members → Result (Option Talker) TomlFault
talker_if None table = Ok None
talker_if (Some d) table = and_then (read_at From talker_from table) (λ talker. Ok (Some talker))

abbrev pub talker_read : Members → Result (Option Talker) TomlFault
talker_read table = talker_if (value_at From table) table

abbrev pub listeners_if : Option Data → Result (Option (List (List ℕ))) TomlFault
listeners_if None = Ok None
listeners_if (Some d) = and_then (listeners_by (as_array d) d) (λ names. Ok (Some names))

abbrev pub listeners_read : Members → Result (Option (List (List ℕ))) TomlFault
listeners_read table = listeners_if (value_at To table)

-- how many octets the shortest frame of a stream has, if its table gives it: at least 64, and at most the size of its traffic, or 1,522
-- without traffic
abbrev pub shortest_by : Option Data → ℕ → Result (Option ℕ) FlowsFault
shortest_by None most = Ok None
shortest_by (Some d) most = and_then (ok_or (number_from 64 most d) flows_fault.BadLeastSize) (λ octets. Ok (Some octets))

abbrev pub shortest_read : Option TrafficText → Members → Result (Option ℕ) FlowsFault
shortest_read traffic table =
    shortest_by (get_member (codes "least-size") table) (option_map_or (λ (t : TrafficText). t.size) traffic 1522)

-- the path between its talker's node and its listeners
abbrev pub between_ends : Option Talker → Option (List (List ℕ)) → Result WantedText TomlFault
between_ends None to = Err (toml_fault.BadValue From)
between_ends (Some talker) None = Err (toml_fault.BadValue To)
between_ends (Some talker) (Some to) = Ok (Between talker.node to)

-- the branches of a stream's table, if it has them
abbrev pub branches_if : Members → Result (Option (List (List (List ℕ)))) TomlFault
branches_if table = if has_path table then and_then (branches_from table) (λ paths. Ok (Some paths)) else Ok None

-- the path along the branches that are given, or otherwise between the ends
abbrev pub path_by : Option (List (List (List ℕ))) → Option Talker → Option (List (List ℕ)) → Result WantedText TomlFault
path_by (Some paths) talker to = Ok (Along paths)
path_by None talker to = between_ends talker to

-- a stream's table; its traffic is read after its other keys
abbrev pub stream_from : Members → Result StreamText FlowsFault
stream_from table =
    and_then (or_streams (read_at Name as_str table)) (λ name.
    and_then (or_streams (octets_from table)) (λ octets.
    and_then (pacing_from table) (λ pacing.
    and_then (or_streams (branches_if table)) (λ paths.
    and_then (or_streams (talker_read table)) (λ talker.
    and_then (or_streams (listeners_read table)) (λ listeners.
    and_then (or_streams (path_by paths talker listeners)) (λ path.
    and_then (or_streams (deadline_from table)) (λ deadline.
    and_then (traffic_or table) (λ traffic.
    and_then (shortest_read traffic table) (λ shortest.
    Ok (record {
      name = name;
      octets = octets;
      pacing = pacing;
      path = path;
      talker = talker;
      listeners = listeners;
      deadline = deadline;
      traffic = traffic;
      shortest = shortest;
    })))))))))))

-- the elements of the array of streams; each must be a table
abbrev pub streams_from : Items → Result (List StreamText) FlowsFault
streams_from items = each_from (λ d. and_then (ok_or (as_table d) (flows_fault.Streams (toml_fault.BadValue Streams))) stream_from) items

abbrev pub streams_of_array : Items → Result (List StreamText) FlowsFault
streams_of_array items = if are_tables items then streams_from items else Err (flows_fault.Streams (toml_fault.BadValue Streams))

-- the streams of a document
abbrev pub streams_in : Members → Result (List StreamText) FlowsFault
streams_in table = and_then (or_streams (read_at Streams as_array table)) streams_of_array

-- the streams of a network file's text. They are read if it is TOML and no key is missing
abbrev pub network_streams_of_text : List ℕ → Result (List StreamText) FlowsFault
network_streams_of_text text =
    and_then (or_streams (whole_document streams_keys Streams [] text)) (λ table.
    refuse (first_lack_of table) (λ fault. fault) (streams_in table))
