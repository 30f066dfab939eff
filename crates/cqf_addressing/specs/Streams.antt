-- The addresses of the streams of a text, or the first fault of the text.
use Rattle.std.specs.Prelude.{ℕ, ◌+◌, ◌++◌, ◌==◌, List, [], ◌∷◌, Option, Some, None, Result, Ok, Err, if◌then◌else◌, length, ok_or, option_and_then}
use Rattle.std.specs.Prelude.{slice_get}
use Rattle.std.specs.List.{list_any}
use Rattle.std.specs.Option.{option_map_or}
use Rattle.std.specs.Result.{result_map_both}
use Rattle.toml.specs.Data.{Items, Members, as_array, as_table}
use Rattle.cqf_lists.specs.Results.{and_then, refuse}
use Rattle.cqf_model.specs.declared.limits.Limits.{Limits}
use Rattle.cqf_model.specs.Limits.{streams_within}
use Rattle.cqf_topology.specs.declared.keys.Key.TheVariants as key
use Rattle.cqf_topology.specs.declared.toml_faults.TomlFault.{TomlFault}
use Rattle.cqf_topology.specs.declared.toml_faults.TomlFault.TheVariants as toml_fault
use Rattle.cqf_topology.specs.Fields.{are_tables, each_from, read_at, whole_document}
use Rattle.cqf_addressing.specs.declared.faults.AddressingFault.{AddressingFault}
use Rattle.cqf_addressing.specs.declared.faults.AddressingFault.TheVariants as fault
use Rattle.cqf_addressing.specs.declared.streams.StreamAddress.{StreamAddress}
use Rattle.cqf_addressing.specs.Values.{gate_at, mac_at, vlan_at}

-- a refusal of a text for anything except its keys of addressing
abbrev pub or_text : {A : Type 0} → Result A TomlFault → Result A AddressingFault
or_text r = result_map_both (λ x. x) fault.Text r

-- a stream's table. The index of its gate is at most `most`
abbrev pub stream_from : ℕ → Members → Result StreamAddress AddressingFault
stream_from most table =
    and_then (mac_at table) (λ mac.
    and_then (vlan_at table) (λ vlan.
    and_then (gate_at most table) (λ gate.
    Ok (record { mac = mac; vlan = vlan; gate = gate }))))

-- the elements of the array of streams; each must be a table
abbrev pub addresses_from : ℕ → Items → Result (List StreamAddress) AddressingFault
addresses_from most items = each_from (λ d. and_then (ok_or (as_table d) (fault.Text (toml_fault.BadValue key.Streams))) (stream_from most)) items

abbrev pub addresses_of_array : ℕ → Items → Result (List StreamAddress) AddressingFault
addresses_of_array most items = if are_tables items then addresses_from most items else Err (fault.Text (toml_fault.BadValue key.Streams))

-- the streams of a document
abbrev pub addresses_in : ℕ → Members → Result (List StreamAddress) AddressingFault
addresses_in most table = and_then (or_text (read_at key.Streams as_array table)) (addresses_of_array most)

-- the index of the gate of the stream with a number, from 0: the one that its text gives, or its number plus 1
abbrev pub gate_or : ℕ → Option ℕ → ℕ
gate_or number None = number + 1
gate_or number (Some gate) = gate

abbrev pub gate_of : ℕ → StreamAddress → ℕ
gate_of number address = gate_or number address.gate

abbrev pub gate_index : List StreamAddress → ℕ → ℕ
gate_index addresses number = option_map_or (gate_of number) (slice_get addresses number) (number + 1)

-- the destination address and the VLAN of a stream's frames, if its text gives them
abbrev pub mac_of_stream : List StreamAddress → ℕ → Option (List ℕ)
mac_of_stream addresses number = option_and_then (λ (a : StreamAddress). a.mac) (slice_get addresses number)

abbrev pub vlan_of_stream : List StreamAddress → ℕ → Option ℕ
vlan_of_stream addresses number = option_and_then (λ (a : StreamAddress). a.vlan) (slice_get addresses number)

-- the gate indexes of streams, numbered from `number` on
abbrev pub gates_from : ℕ → List StreamAddress → List ℕ
gates_from number [] = []
gates_from number (address ∷ more) = gate_of number address ∷ gates_from (number + 1) more

-- the first gate index that occurred earlier: its position, from 1, and the index
abbrev pub first_again : List ℕ → List ℕ → Option (ℕ × ℕ)
first_again earlier [] = None
first_again earlier (gate ∷ gates) =
    if list_any (λ other. other == gate) earlier then Some (length earlier + 1, gate) else first_again (earlier ++ gate ∷ []) gates

abbrev pub first_gate_twice : List StreamAddress → Option (ℕ × ℕ)
first_gate_twice addresses = first_again [] (gates_from 0 addresses)

-- the addresses, if no two streams have the same gate index
abbrev pub if_apart : List StreamAddress → Result (List StreamAddress) AddressingFault
if_apart addresses = refuse (first_gate_twice addresses) (λ twice. fault.GateTwice twice.0 twice.1) (Ok addresses)

-- the addresses of the streams of a text, read within some limits
abbrev pub addresses_of_text : Limits → List ℕ → Result (List StreamAddress) AddressingFault
addresses_of_text limits text =
    and_then (or_text (whole_document (key.Streams ∷ []) key.Streams [] text)) (λ table.
    and_then (addresses_in (streams_within limits) table) if_apart)
