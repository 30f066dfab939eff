-- The lines for a part of an input that is refused: `cqf:`, the part, and the fault by its text.
use Rattle.std.specs.Prelude.{ℕ, List, codes}
use Rattle.cqf_report.specs.Faults.{table_fault_text}
use Rattle.cqf_report.specs.declared.tables.TableFault.{TableFault}
use Rattle.cqf_admission.specs.Faults.{script_fault_text}
use Rattle.cqf_admission.specs.declared.faults.ScriptFault.{ScriptFault}
use Rattle.cqf_output.specs.Stops.{fault_line}
use Rattle.cqf_topology.specs.TomlFaults.{toml_fault_text}
use Rattle.cqf_network.specs.Faults.{network_fault_text}
use Rattle.cqf_network.specs.declared.faults.NetworkFault.{NetworkFault}
use Rattle.cqf_topology.specs.declared.toml_faults.TomlFault.{TomlFault}

-- why the domain of a network is refused
abbrev pub domain_line : NetworkFault → List ℕ
domain_line fault = fault_line (codes "domain") (network_fault_text fault)

-- why streams are refused
abbrev pub streams_line : TomlFault → List ℕ
streams_line fault = fault_line (codes "streams") (toml_fault_text fault)

-- why offers are refused
abbrev pub offers_line : TableFault → List ℕ
offers_line fault = fault_line (codes "offers") (table_fault_text fault)

-- why a script is refused
abbrev pub script_line : ScriptFault → List ℕ
script_line fault = fault_line (codes "script") (script_fault_text fault)

-- why background frames are refused
abbrev pub background_line : TableFault → List ℕ
background_line fault = fault_line (codes "background") (table_fault_text fault)
