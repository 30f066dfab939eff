-- A network file without some of its links.
use Rattle.std.specs.Prelude.{ℕ, ◌≡◌, List, Option, Some, None, option_and_then}
use Rattle.toml.specs.Data.{Items, Members, array, as_array, get_member}
use Rattle.cqf_topology.specs.declared.keys.Key.TheVariants.{Links, Stations, Streams}
use Rattle.cqf_topology.specs.Fields.{key_text}
use Rattle.cqf_network_text.specs.DomainMembers.{put}
use Rattle.cqf_network_text.specs.Networks.{IsReadAs, array_at, table_of}
use Rattle.cqf_program_words.specs.declared.links.LinkName.{LinkName}
use Rattle.cqf_program_without.specs.Links.{links_left}
use Rattle.cqf_program_without.specs.Streams.{streams_left}

-- a table in which the elements of the array at a key are changed, if there is an array
abbrev pub changed_by : List ℕ → (Items → Items) → Option Items → Members → Members
changed_by key change None members = members
changed_by key change (Some items) members = put key (array (change items)) members

abbrev pub changed_at : List ℕ → (Items → Items) → Members → Members
changed_at key change members = changed_by key change (option_and_then as_array (get_member key members)) members

-- the tables of a network file without these links
abbrev pub without_links : List LinkName → Members → Members
without_links links members =
    changed_at (key_text Streams) (streams_left links)
    (changed_at (key_text Links) (links_left links (array_at (key_text Stations) members)) members)

-- the text of a network file, or of a part of one, without these links. A text that isn't TOML is left as it is
abbrev pub IsTextOfTable : Option Members → List LinkName → List ℕ → List ℕ → Type 0
IsTextOfTable None links text left = left ≡ text
IsTextOfTable (Some members) links text left = IsReadAs (without_links links members) left

abbrev pub IsTextWithout : List LinkName → List ℕ → List ℕ → Type 0
IsTextWithout links text left = IsTextOfTable (table_of text) links text left
