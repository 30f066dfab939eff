-- The texts of the faults of TOML texts: a fault's name, followed by a space and its key if it has one.
use Rattle.std.specs.Prelude.{ℕ, ◌++◌, List, codes}
use Rattle.cqf_topology.specs.Fields.{key_text}
use Rattle.cqf_topology.specs.declared.toml_faults.TomlFault.{TomlFault}
use Rattle.cqf_topology.specs.declared.toml_faults.TomlFault.TheVariants as toml_fault

-- why a text is refused
abbrev pub toml_fault_text : TomlFault → List ℕ
toml_fault_text toml_fault.NotToml = codes "NotToml"
toml_fault_text (toml_fault.Missing key) = codes "Missing " ++ key_text key
toml_fault_text (toml_fault.BadValue key) = codes "BadValue " ++ key_text key
toml_fault_text toml_fault.Memory = codes "Memory"
