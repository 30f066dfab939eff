-- The texts of a gate list's faults: a fault's name, followed by its value, if it has one, after a space.
use Rattle.std.specs.Prelude.{ℕ, ◌++◌, List, codes, decimal}
use Rattle.cqf_gates.specs.declared.faults.ListFault.{ListFault}
use Rattle.cqf_gates.specs.declared.faults.ListFault.TheVariants as list_fault
use Rattle.cqf_gates.specs.declared.faults.TextFault.{TextFault}
use Rattle.cqf_gates.specs.declared.faults.TextFault.TheVariants as text_fault

-- why a list of entries isn't a gate list
abbrev pub list_fault_text : ListFault → List ℕ
list_fault_text list_fault.Empty = codes "Empty"
list_fault_text list_fault.TooMany = codes "TooMany"
list_fault_text list_fault.ZeroInterval = codes "ZeroInterval"
list_fault_text list_fault.BadIpv = codes "BadIpv"

-- why a text isn't a gate list: for a bad line its number, for bad entries their fault alone
abbrev pub text_fault_text : TextFault → List ℕ
text_fault_text (text_fault.BadLine line) = codes "BadLine " ++ decimal line
text_fault_text (text_fault.List fault) = list_fault_text fault
