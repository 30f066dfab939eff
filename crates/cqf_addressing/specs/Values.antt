-- The values at the keys of a table.
use Rattle.std.specs.Prelude.{ℕ, ◌≤◌, ◌&&◌, Bool, List, Option, Some, None, Result, Ok, if◌then◌else◌, nat_le, ok_or, option_and_then}
use Rattle.toml.specs.Data.{Data, Members, as_str, get_member}
use Rattle.cqf_lists.specs.Results.{and_then}
use Rattle.cqf_topology.specs.Fields.{number_from}
use Rattle.cqf_addressing.specs.declared.faults.AddressingFault.{AddressingFault}
use Rattle.cqf_addressing.specs.declared.faults.AddressingFault.TheVariants.{BadValue}
use Rattle.cqf_addressing.specs.declared.keys.AddressKey.{AddressKey}
use Rattle.cqf_addressing.specs.declared.keys.AddressKey.TheVariants.{Mac, Vlan, Gate}
use Rattle.cqf_addressing.specs.Interface.{interface_of}
use Rattle.cqf_addressing.specs.Keys.{key_text}
use Rattle.cqf_addressing.specs.Mac.{mac_of_text}

-- the number of a VLAN: from 1 to 4,094
pub record IsVlan (number : ℕ) : Type 0 where
  pub least : 1 ≤ number
  pub most : number ≤ 4094

abbrev pub is_vlan : ℕ → Bool
is_vlan number = nat_le 1 number && nat_le number 4094

abbrev pub vlan_of : ℕ → Option ℕ
vlan_of number = if is_vlan number then Some number else None

-- the value at a key of a table
abbrev pub value_at : AddressKey → Members → Option Data
value_at key table = get_member (key_text key) table

-- a number from 1 to `most`
abbrev pub number_from_one : ℕ → Data → Option ℕ
number_from_one most d = number_from 1 most d

-- the address, the VLAN and the name of an interface that a value writes
abbrev pub mac_from : Data → Option (List ℕ)
mac_from d = option_and_then mac_of_text (as_str d)

abbrev pub vlan_from : Data → Option ℕ
vlan_from d = number_from_one 4094 d

abbrev pub interface_from : Data → Option (List ℕ)
interface_from d = option_and_then interface_of (as_str d)

-- the value at a key, read by a reader of values; none if the key is missing
abbrev pub given_by : {A : Type 0} → AddressKey → (Data → Option A) → Option Data → Result (Option A) AddressingFault
given_by key reader None = Ok None
given_by key reader (Some d) = and_then (ok_or (reader d) (BadValue key)) (λ x. Ok (Some x))

abbrev pub given_at : {A : Type 0} → AddressKey → (Data → Option A) → Members → Result (Option A) AddressingFault
given_at key reader table = given_by key reader (value_at key table)

abbrev pub mac_at : Members → Result (Option (List ℕ)) AddressingFault
mac_at table = given_at Mac mac_from table

abbrev pub vlan_at : Members → Result (Option ℕ) AddressingFault
vlan_at table = given_at Vlan vlan_from table

abbrev pub gate_at : ℕ → Members → Result (Option ℕ) AddressingFault
gate_at most table = given_at Gate (number_from_one most) table

abbrev pub interface_at : AddressKey → Members → Result (Option (List ℕ)) AddressingFault
interface_at key table = given_at key interface_from table
