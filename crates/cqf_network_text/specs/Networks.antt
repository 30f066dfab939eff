-- The text of a planned network: the tables of its file, with everything that was open filled in.
use Rattle.std.specs.Prelude.{ℕ, ◌≡◌, ◌≤◌, ◌||◌, List, [], ◌∷◌, Bool, Option, Some, None, if◌then◌else◌, is_some, option_and_then, pos}
use Rattle.std.specs.Option.{option_map_or}
use Rattle.std.specs.Str.{is_utf8}
use Rattle.toml.specs.Data.{Data, Items, no_items, item, Members, as_array, as_table, array, get_member, integer, members_depth, table}
use Rattle.toml.specs.Parse.{parse_document}
use Rattle.cqf_topology.specs.declared.keys.Key.TheVariants.{Cycle, Every, Octets, Path, Paths, Phase, Streams}
use Rattle.cqf_topology.specs.Fields.{key_text, value_at}
use Rattle.cqf_topology.specs.PacedText.{paced_text}
use Rattle.cqf_topology.specs.declared.paced.PacedRequest.{PacedRequest}
use Rattle.cqf_traffic.specs.declared.keys.TrafficKey.TheVariants.{Offset}
use Rattle.cqf_traffic.specs.Keys.{key_text as traffic_key_text}
use Rattle.cqf_network_text.specs.declared.filling.FilledStream.{FilledStream}
use Rattle.cqf_network_text.specs.DomainMembers.{put}
use Rattle.cqf_network_text.specs.StreamMembers.{put_branches}

-- the table of a text; none if the text isn't TOML, and so UTF-8
abbrev pub table_of : List ℕ → Option Members
table_of text = if is_utf8 text then parse_document text else None

-- a text is read as this table, if the table isn't nested deeper than the reader allows
abbrev pub IsReadAs : Members → List ℕ → Type 0
IsReadAs members text = members_depth members ≤ 80 → table_of text ≡ Some members

-- whether a stream's table gives its branches
abbrev pub has_branches : Members → Bool
has_branches members = is_some (value_at Path members) || is_some (value_at Paths members)

-- a stream's table with its paths, if it had none
abbrev pub with_path : FilledStream → Members → Members
with_path filled members = if has_branches members then members else put_branches (paced_text filled.request).paths members

-- a stream's table with the cycles in which it is offered and the instant at which its talker's offers begin, if they were chosen
abbrev pub put_active_cycles : PacedRequest → ℕ → Members → Members
put_active_cycles request offset members =
    put (traffic_key_text Offset) (integer (pos offset))
    (put (key_text Phase) (integer (pos request.phase))
    (put (key_text Every) (integer (pos request.every)) members))

abbrev pub active_cycles_by : PacedRequest → Option ℕ → Members → Members
active_cycles_by request None members = members
active_cycles_by request (Some offset) members = put_active_cycles request offset members

abbrev pub with_active_cycles : FilledStream → Members → Members
with_active_cycles filled members = active_cycles_by filled.request filled.offset members

-- a stream's table with the octets that it reserves
abbrev pub with_octets : FilledStream → Members → Members
with_octets filled members = put (key_text Octets) (integer (pos filled.request.octets)) members

-- a stream's table with everything that was chosen for it
abbrev pub filled_stream : FilledStream → Members → Members
filled_stream filled members = with_active_cycles filled (with_path filled (with_octets filled members))

-- the streams of an array, each a table, with what was chosen for them in their order; a stream without a choice is unchanged
abbrev pub filled_item : FilledStream → Data → Data
filled_item filled d = option_map_or (λ members. table (filled_stream filled members)) (as_table d) d

abbrev pub item_by : Option FilledStream → Data → Data
item_by None d = d
item_by (Some one) d = filled_item one d

abbrev pub filled_streams : List FilledStream → Items → Items
filled_streams [] items = items
filled_streams (one ∷ rest) no_items = no_items
filled_streams (one ∷ rest) (item d ds) = item (filled_item one d) (filled_streams rest ds)

-- the elements of the array at a key of a table, or none if there is no array
abbrev pub array_or_none : Option Items → Items
array_or_none None = no_items
array_or_none (Some items) = items

abbrev pub array_at : List ℕ → Members → Items
array_at key members = array_or_none (option_and_then as_array (get_member key members))

abbrev pub streams_of : Members → Items
streams_of members = array_at (key_text Streams) members

-- a network's table: the top and the links of one document, the streams of another, and the chosen cycle time
abbrev pub filled_network : ℕ → List FilledStream → Members → Members → Members
filled_network cycle_time filled domain streams =
    put (key_text Streams) (array (filled_streams filled (streams_of streams))) (put (key_text Cycle) (integer (pos cycle_time)) domain)

-- the text of such a network
pub record IsFilledText (domain streams : List ℕ) (cycle_time : ℕ) (filled : List FilledStream) (text : List ℕ) : Type 0 where
  pub domain_members : Members
  pub streams_members : Members
  pub domain_read : table_of domain ≡ Some domain_members
  pub streams_read : table_of streams ≡ Some streams_members
  pub written : IsReadAs (filled_network cycle_time filled domain_members streams_members) text
