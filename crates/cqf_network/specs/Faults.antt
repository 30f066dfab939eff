-- Why the domain of a network file is refused, and the text of that fault.
use Rattle.std.specs.Prelude.{ℕ, ◌++◌, List, Result, codes, decimal}
use Rattle.std.specs.Result.{result_map_both}
use Rattle.cqf_topology.specs.declared.toml_faults.TomlFault.{TomlFault}
use Rattle.cqf_topology.specs.DomainText.{domain_fault}
use Rattle.cqf_topology.specs.Faults.{domain_fault_text}
use Rattle.cqf_network.specs.declared.faults.NetworkFault.{NetworkFault}
use Rattle.cqf_network.specs.declared.faults.NetworkFault.TheVariants as fault

-- the text of a fault
abbrev pub network_fault_text : NetworkFault → List ℕ
network_fault_text (fault.Domain found) = domain_fault_text found
network_fault_text fault.BadDuplex = codes "BadValue duplex"
network_fault_text fault.BadOther = codes "BadValue other"
network_fault_text (fault.NoAccessLink element) = codes "NoAccessLink " ++ decimal element

-- a fault of reading, as one of a network file
abbrev pub network_fault : TomlFault → NetworkFault
network_fault early = fault.Domain (domain_fault early)

abbrev pub or_network : {A : Type 0} → Result A TomlFault → Result A NetworkFault
or_network r = result_map_both (λ x. x) network_fault r
