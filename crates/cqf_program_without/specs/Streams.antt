-- The streams of a network file without some of its links: those that use such a link lose their paths, and keep their talkers and listeners.
use Rattle.std.specs.Prelude.{ℕ, List, [], ◌∷◌, ◌++◌, ◌&&◌, ◌||◌, Bool, true, false, codes, find, if◌then◌else◌, is_some, map, Option, Some, None, Result, Ok, Err}
use Rattle.std.specs.List.{list_any}
use Rattle.std.specs.Option.{option_map_or}
use Rattle.toml.specs.Data.{Data, Items, no_items, item, Members, as_table, string, table}
use Rattle.cqf_model.specs.Domain.{is_text}
use Rattle.cqf_topology.specs.declared.keys.Key.{Key}
use Rattle.cqf_topology.specs.declared.keys.Key.TheVariants.{Every, From, Path, Paths, Phase, To}
use Rattle.cqf_topology.specs.Fields.{key_text, value_at}
use Rattle.cqf_topology.specs.StreamsText.{branches_from}
use Rattle.cqf_network_text.specs.DomainMembers.{put, texts_data}
use Rattle.cqf_program_words.specs.declared.links.LinkName.{LinkName}
use Rattle.cqf_program_without.specs.Links.{has_name, is_set, take_key}

-- whether a branch begins with a link, and whether it passes it: the link's ends follow each other
abbrev pub is_step : LinkName → List ℕ → List ℕ → Bool
is_step link from to = is_text link.from from && is_text link.to to

abbrev pub begins_along : LinkName → List (List ℕ) → Bool
begins_along link [] = false
begins_along link (last ∷ []) = false
begins_along link (from ∷ to ∷ rest) = is_step link from to

abbrev pub passes : LinkName → List (List ℕ) → Bool
passes link [] = false
passes link (name ∷ rest) = begins_along link (name ∷ rest) || passes link rest

-- whether one of some branches passes one of some links
abbrev pub pass_any : List LinkName → List (List (List ℕ)) → Bool
pass_any links paths = list_any (λ link. list_any (passes link) paths) links

-- the branches that a stream's table gives; none if it gives none, or if they can't be read
abbrev pub or_none : {A E : Type 0} → Result (List A) E → List A
or_none (Ok some) = some
or_none (Err fault) = []

abbrev pub given_paths : Members → List (List (List ℕ))
given_paths members = or_none (branches_from members)

-- a talker that enters by an access link is named by both ends of the link, with `@` between
abbrev pub entrance_text : LinkName → List ℕ
entrance_text link = link.from ++ (codes "@" ++ link.to)

-- the first of some links by which a stream's table says that it enters
abbrev pub entered : List LinkName → Members → Option LinkName
entered links members = find (λ link. has_name From (entrance_text link) members) links

-- the first node of some branches, and the last one of a branch
abbrev pub first_name : List (List ℕ) → List ℕ
first_name [] = []
first_name (name ∷ rest) = name

abbrev pub edge_name : List (List (List ℕ)) → List ℕ
edge_name [] = []
edge_name (path ∷ rest) = first_name path

abbrev pub last_name : List (List ℕ) → List ℕ
last_name [] = []
last_name (name ∷ []) = name
last_name (name ∷ next ∷ rest) = last_name (next ∷ rest)

-- a value put at a key that a table lacks
abbrev pub put_absent : Key → Data → Members → Members
put_absent key d members = if is_some (value_at key members) then members else put (key_text key) d members

-- a stream's table whose cycles are open again if its talker is in step: by another access link its frames may arrive in another cycle
abbrev pub with_open_cycles : Members → Members
with_open_cycles members = if is_set (codes "in-step") members then take_key (key_text Phase) (take_key (key_text Every) members) else members

-- a stream's table with its talker: the station alone if the stream entered by a link that is out; otherwise the talker of the table; or else
-- the bridge at which its branches begin
abbrev pub with_talker : Option LinkName → List (List (List ℕ)) → Members → Members
with_talker (Some link) paths members = put (key_text From) (string link.from) (with_open_cycles members)
with_talker None paths members = put_absent From (string (edge_name paths)) members

-- and with its listeners: those of the table; or else the stations at which its branches end, in their order
abbrev pub listeners_data : List (List (List ℕ)) → Data
listeners_data (path ∷ []) = string (last_name path)
listeners_data paths = texts_data (map last_name paths)

abbrev pub with_listeners : List (List (List ℕ)) → Members → Members
with_listeners [] members = members
with_listeners (path ∷ paths) members = put_absent To (listeners_data (path ∷ paths)) members

-- a stream's table with both, and without branches
abbrev pub without_branches : Members → Members
without_branches members = take_key (key_text Paths) (take_key (key_text Path) members)

abbrev pub between : Option LinkName → List (List (List ℕ)) → Members → Members
between link paths members = without_branches (with_listeners paths (with_talker link paths members))

-- what is left of a stream's table: it has its ends in place of its branches if it uses a link that is out
abbrev pub uses : Option LinkName → List LinkName → List (List (List ℕ)) → Bool
uses link links paths = is_some link || pass_any links paths

abbrev pub stream_by : Option LinkName → List LinkName → List (List (List ℕ)) → Members → Members
stream_by link links paths members = if uses link links paths then between link paths members else members

abbrev pub stream_left : List LinkName → Members → Members
stream_left links members = stream_by (entered links members) links (given_paths members) members

-- what is left of an array of streams, each a table
abbrev pub stream_item_left : List LinkName → Data → Data
stream_item_left links d = option_map_or (λ members. table (stream_left links members)) (as_table d) d

abbrev pub streams_left : List LinkName → Items → Items
streams_left links no_items = no_items
streams_left links (item d ds) = item (stream_item_left links d) (streams_left links ds)
