-- The texts of a script's faults: a fault's name, followed by a space and its line's number if it has one.
use Rattle.std.specs.Prelude.{ℕ, ◌++◌, List, codes, decimal}
use Rattle.cqf_admission.specs.declared.faults.ScriptFault.{ScriptFault}
use Rattle.cqf_admission.specs.declared.faults.ScriptFault.TheVariants as script_fault

-- why a script is refused
abbrev pub script_fault_text : ScriptFault → List ℕ
script_fault_text (script_fault.BadLine line) = codes "BadLine " ++ decimal line
script_fault_text (script_fault.UnknownStream line) = codes "UnknownStream " ++ decimal line
script_fault_text (script_fault.TooMany line) = codes "TooMany " ++ decimal line
script_fault_text script_fault.Memory = codes "Memory"
