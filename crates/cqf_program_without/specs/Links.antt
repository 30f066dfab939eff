-- The links of a network file without some of them.
use Rattle.std.specs.Prelude.{ℕ, List, [], ◌∷◌, ◌&&◌, ◌||◌, Bool, true, false, codes, find, if◌then◌else◌, not, Option, Some, None, option_and_then, option_map, unwrap_or}
use Rattle.std.specs.List.{list_any}
use Rattle.std.specs.Option.{option_map_or}
use Rattle.std.specs.Ordering.{match_ordering, nat_cmp}
use Rattle.std.specs.Cmp.Lexicographic.{slice_cmp}
use Rattle.toml.specs.Data.{Data, Items, no_items, item, Members, no_members, member, as_bool, as_str, as_table, get_member, table}
use Rattle.cqf_model.specs.Domain.{is_text}
use Rattle.cqf_topology.specs.declared.keys.Key.{Key}
use Rattle.cqf_topology.specs.declared.keys.Key.TheVariants.{From, Links, Stations, To}
use Rattle.cqf_topology.specs.Fields.{key_text, value_at}
use Rattle.cqf_network_text.specs.DomainMembers.{put}
use Rattle.cqf_network_text.specs.Networks.{array_at}
use Rattle.cqf_program_words.specs.declared.links.LinkName.{LinkName}

-- whether the text at a key of a table is this name
abbrev pub has_name : Key → List ℕ → Members → Bool
has_name key name members = option_map_or (is_text name) (option_and_then as_str (value_at key members)) false

-- whether an element of the array of links is written in the direction of a link; whether a key of a table is `true`; and so whether the
-- element has both directions
abbrev pub is_along : LinkName → Members → Bool
is_along link element = has_name From link.from element && has_name To link.to element

abbrev pub back_of : LinkName → LinkName
back_of link = record { from = link.to; to = link.from }

abbrev pub is_set : List ℕ → Members → Bool
is_set key members = unwrap_or (option_and_then as_bool (get_member key members)) false

abbrev pub is_duplex : Members → Bool
is_duplex element = is_set (codes "duplex") element

-- whether a link is one of an element's directions, and one of those of an array or of a table's links
abbrev pub is_direction : LinkName → Members → Bool
is_direction link element = is_along link element || (is_duplex element && is_along (back_of link) element)

abbrev pub is_direction_of : LinkName → Data → Bool
is_direction_of link d = option_map_or (is_direction link) (as_table d) false

abbrev pub is_among : LinkName → Items → Bool
is_among link no_items = false
is_among link (item d ds) = is_direction_of link d || is_among link ds

-- the first of some links that a network's table doesn't have
abbrev pub first_unknown : List LinkName → Members → Option LinkName
first_unknown links members = find (λ link. not (is_among link (array_at (key_text Links) members))) links

-- a table without a key, and with a value at a key or without the key
abbrev pub take_key : List ℕ → Members → Members
take_key key no_members = no_members
take_key key (member other d more) =
    match_ordering (slice_cmp nat_cmp key other) (member other d (take_key key more)) (take_key key more) (member other d (take_key key more))

abbrev pub set_at : List ℕ → Option Data → Members → Members
set_at key None members = take_key key members
set_at key (Some d) members = put key d members

-- a table in which the values at two keys are exchanged
abbrev pub exchange : List ℕ → List ℕ → Members → Members
exchange key other members = set_at other (get_member key members) (set_at key (get_member other members) members)

-- an element that is written in its other direction: its ends are exchanged, and so are their interfaces
abbrev pub turned : Members → Members
turned element = exchange (codes "interface") (codes "far-interface") (exchange (key_text From) (key_text To) element)

-- whether an element is written from a station
abbrev pub is_named : List ℕ → Items → Bool
is_named name no_items = false
is_named name (item d ds) = option_map_or (is_text name) (as_str d) false || is_named name ds

abbrev pub leaves_station : Items → Members → Bool
leaves_station stations element = option_map_or (λ name. is_named name stations) (option_and_then as_str (value_at From element)) false

-- the written direction of an element with both. What its station sends besides streams belongs to the direction that leaves the station
abbrev pub without_other : Items → Members → Members
without_other stations element = if leaves_station stations element then element else take_key (codes "other") element

abbrev pub alone : Items → Members → Members
alone stations element = without_other stations (take_key (codes "duplex") element)

-- what is left of an element with one direction, and of one with both: whether the written direction is taken out, and whether the one back is
abbrev pub one_left : Bool → Members → Option Members
one_left there element = if there then None else Some element

abbrev pub both_left : Bool → Bool → Items → Members → Option Members
both_left there back stations element =
    if there then (if back then None else Some (alone stations (turned element)))
    else (if back then Some (alone stations element) else Some element)

-- whether one of some links is an element's written direction, or the one back
abbrev pub is_out : List LinkName → Members → Bool
is_out links element = list_any (λ link. is_along link element) links

abbrev pub is_back_out : List LinkName → Members → Bool
is_back_out links element = list_any (λ link. is_along (back_of link) element) links

abbrev pub element_left : List LinkName → Items → Members → Option Members
element_left links stations element =
    if is_duplex element
    then both_left (is_out links element) (is_back_out links element) stations element
    else one_left (is_out links element) element

-- what is left of an array of links, each a table
abbrev pub table_left : List LinkName → Items → Option Members → Data → Option Data
table_left links stations None d = Some d
table_left links stations (Some element) d = option_map table (element_left links stations element)

abbrev pub item_left : List LinkName → Items → Data → Option Data
item_left links stations d = table_left links stations (as_table d) d

abbrev pub item_if : Option Data → Items → Items
item_if None ds = ds
item_if (Some d) ds = item d ds

abbrev pub listed : Option Data → List Data
listed None = []
listed (Some d) = d ∷ []

abbrev pub links_left : List LinkName → Items → Items → Items
links_left links stations no_items = no_items
links_left links stations (item d ds) = item_if (item_left links stations d) (links_left links stations ds)
