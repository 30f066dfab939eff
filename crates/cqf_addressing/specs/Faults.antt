-- The texts of the faults of addressing: a fault's name, followed by its values, each after a space.
use Rattle.std.specs.Prelude.{ℕ, ◌++◌, List, codes, decimal}
use Rattle.cqf_output.specs.Stops.{fault_line}
use Rattle.cqf_topology.specs.TomlFaults.{toml_fault_text}
use Rattle.cqf_addressing.specs.Keys.{key_text}
use Rattle.cqf_addressing.specs.declared.faults.AddressingFault.{AddressingFault}
use Rattle.cqf_addressing.specs.declared.faults.AddressingFault.TheVariants as fault

-- why a text is refused
abbrev pub addressing_fault_text : AddressingFault → List ℕ
addressing_fault_text (fault.Text early) = toml_fault_text early
addressing_fault_text (fault.BadValue key) = codes "BadValue " ++ key_text key
addressing_fault_text (fault.GateTwice stream gate) = codes "GateTwice " ++ (decimal stream ++ (codes " " ++ decimal gate))

-- the line that reports why the interfaces of a domain are refused, and the one for the addresses of streams: `cqf:`, the part, and the
-- fault
abbrev pub interfaces_line : AddressingFault → List ℕ
interfaces_line fault = fault_line (codes "domain") (addressing_fault_text fault)

abbrev pub stream_addresses_line : AddressingFault → List ℕ
stream_addresses_line fault = fault_line (codes "streams") (addressing_fault_text fault)
