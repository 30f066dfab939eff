-- The texts of the faults of domain texts: a fault's name, followed by a space and its value if it has one. A key and a name are written as
-- they are, a link as its number.
use Rattle.std.specs.Prelude.{ℕ, ◌++◌, List, codes, decimal}
use Rattle.cqf_topology.specs.Fields.{key_text}
use Rattle.cqf_topology.specs.declared.faults.DomainFault.{DomainFault}
use Rattle.cqf_topology.specs.declared.faults.DomainFault.TheVariants as domain_fault

-- why a domain text is refused
abbrev pub domain_fault_text : DomainFault → List ℕ
domain_fault_text domain_fault.NotToml = codes "NotToml"
domain_fault_text (domain_fault.Missing key) = codes "Missing " ++ key_text key
domain_fault_text (domain_fault.BadValue key) = codes "BadValue " ++ key_text key
domain_fault_text (domain_fault.NameTaken name) = codes "NameTaken " ++ name
domain_fault_text (domain_fault.UnknownName name) = codes "UnknownName " ++ name
domain_fault_text (domain_fault.LinkTwice link) = codes "LinkTwice " ++ decimal link
domain_fault_text domain_fault.GuardTooLong = codes "GuardTooLong"
domain_fault_text (domain_fault.LinkGuardTooLong link) = codes "LinkGuardTooLong " ++ decimal link
domain_fault_text (domain_fault.DelayTooLong link) = codes "DelayTooLong " ++ decimal link
domain_fault_text (domain_fault.GapTooLong link) = codes "GapTooLong " ++ decimal link
domain_fault_text domain_fault.TooMany = codes "TooMany"
domain_fault_text (domain_fault.SyncTooLong link) = codes "SyncTooLong " ++ decimal link
domain_fault_text domain_fault.Memory = codes "Memory"
