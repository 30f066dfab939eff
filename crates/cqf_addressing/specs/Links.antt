-- The interfaces of the links of a text, or the first fault of the text.
use Rattle.std.specs.Prelude.{ℕ, ◌&&◌, ◌||◌, ◌++◌, Bool, false, not, List, [], ◌∷◌, Option, Result, Ok, Err, if◌then◌else◌, ok_or}
use Rattle.std.specs.Prelude.{bytes_eq, codes, option_and_then, slice_get, unwrap_or}
use Rattle.std.specs.Option.{option_map_or}
use Rattle.toml.specs.Data.{Data, Items, no_items, item, Members, as_array, as_bool, as_str, as_table, get_member}
use Rattle.cqf_lists.specs.Results.{and_then}
use Rattle.cqf_topology.specs.declared.keys.Key.{Key}
use Rattle.cqf_topology.specs.declared.keys.Key.TheVariants as key
use Rattle.cqf_topology.specs.declared.toml_faults.TomlFault.TheVariants as toml_fault
use Rattle.cqf_topology.specs.Fields.{are_tables, read_at, value_at, whole_document}
use Rattle.cqf_addressing.specs.declared.faults.AddressingFault.{AddressingFault}
use Rattle.cqf_addressing.specs.declared.faults.AddressingFault.TheVariants as fault
use Rattle.cqf_addressing.specs.declared.keys.AddressKey.TheVariants.{Interface, FarInterface}
use Rattle.cqf_addressing.specs.declared.links.LinkInterfaces.{LinkInterfaces}
use Rattle.cqf_addressing.specs.Streams.{or_text}
use Rattle.cqf_addressing.specs.Values.{interface_at}

-- a link's table
abbrev pub link_from : Members → Result LinkInterfaces AddressingFault
link_from table =
    and_then (interface_at Interface table) (λ near.
    and_then (interface_at FarInterface table) (λ far.
    Ok (record { near = near; far = far })))

-- the same link in its other direction: its interfaces are exchanged
abbrev pub back_from : Members → Result LinkInterfaces AddressingFault
back_from table = and_then (link_from table) (λ there. Ok (record { near = there.far; far = there.near }))

-- whether the value at a key of a link's table is the name of a station, and whether the element is two links, one in each direction
abbrev pub is_named : List ℕ → Items → Bool
is_named name no_items = false
is_named name (item d ds) = option_map_or (bytes_eq name) (as_str d) false || is_named name ds

abbrev pub is_station : Items → Key → Members → Bool
is_station stations key table = option_map_or (λ name. is_named name stations) (option_and_then as_str (value_at key table)) false

abbrev pub is_duplex : Members → Bool
is_duplex table = unwrap_or (option_and_then as_bool (get_member (codes "duplex") table)) false

-- a link's directions that begin at no station, the written one first. Its interfaces are read in any case
abbrev pub there_from : Items → Members → Result (List LinkInterfaces) AddressingFault
there_from stations table = and_then (link_from table) (λ there. Ok (if is_station stations key.From table then [] else there ∷ []))

abbrev pub back_too : Items → Members → Result (List LinkInterfaces) AddressingFault
back_too stations table =
    if is_duplex table && not (is_station stations key.To table) then and_then (back_from table) (λ back. Ok (back ∷ [])) else Ok []

abbrev pub directions_from : Items → Members → Result (List LinkInterfaces) AddressingFault
directions_from stations table =
    and_then (there_from stations table) (λ there. and_then (back_too stations table) (λ back. Ok (there ++ back)))

-- an element of the array of links, which is a table; and all of them, in their order
abbrev pub element_from : Items → Data → Result (List LinkInterfaces) AddressingFault
element_from stations d = and_then (ok_or (as_table d) (fault.Text (toml_fault.BadValue key.Links))) (directions_from stations)

abbrev pub interfaces_from : Items → Items → Result (List LinkInterfaces) AddressingFault
interfaces_from stations no_items = Ok []
interfaces_from stations (item d ds) =
    and_then (element_from stations d) (λ these. and_then (interfaces_from stations ds) (λ rest. Ok (these ++ rest)))

abbrev pub interfaces_of_array : Items → Items → Result (List LinkInterfaces) AddressingFault
interfaces_of_array stations items =
    if are_tables items then interfaces_from stations items else Err (fault.Text (toml_fault.BadValue key.Links))

-- the stations of a document; none if the value there is no array
abbrev pub stations_in : Members → Items
stations_in table = unwrap_or (option_and_then as_array (value_at key.Stations table)) no_items

-- the links of a document
abbrev pub interfaces_in : Members → Result (List LinkInterfaces) AddressingFault
interfaces_in table = and_then (or_text (read_at key.Links as_array table)) (interfaces_of_array (stations_in table))

-- the interfaces of the links of a text
abbrev pub interfaces_of_text : List ℕ → Result (List LinkInterfaces) AddressingFault
interfaces_of_text text = and_then (or_text (whole_document (key.Links ∷ []) key.Links [] text)) interfaces_in

-- the interfaces at the `from` end and at the `to` end of a link
abbrev pub near_interface : List LinkInterfaces → ℕ → Option (List ℕ)
near_interface links link = option_and_then (λ (l : LinkInterfaces). l.near) (slice_get links link)

abbrev pub far_interface : List LinkInterfaces → ℕ → Option (List ℕ)
far_interface links link = option_and_then (λ (l : LinkInterfaces). l.far) (slice_get links link)
