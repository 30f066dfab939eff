-- The keys that map a plan to real bridges.
use Rattle.std.specs.Prelude.{ℕ, List, codes}
use Rattle.cqf_addressing.specs.declared.keys.AddressKey.{AddressKey}
use Rattle.cqf_addressing.specs.declared.keys.AddressKey.TheVariants.{Mac, Vlan, Gate, Interface, FarInterface}

-- a key as a text has it
abbrev pub key_text : AddressKey → List ℕ
key_text Mac = codes "mac"
key_text Vlan = codes "vlan"
key_text Gate = codes "x-gate"
key_text Interface = codes "interface"
key_text FarInterface = codes "far-interface"
