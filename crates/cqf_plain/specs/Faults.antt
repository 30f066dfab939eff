-- Why a run returns no book.
use Rattle.std.specs.Prelude.{ℕ, ◌++◌, List, codes, decimal}
use Rattle.cqf_plain.specs.declared.faults.RunFault.{RunFault}
use Rattle.cqf_plain.specs.declared.faults.RunFault.TheVariants.{WrongTables, Inside, Memory}

-- the text of a fault: its name, followed by the frame's number if there is one
abbrev pub text_of_run_fault : RunFault → List ℕ
text_of_run_fault WrongTables = codes "WrongTables"
text_of_run_fault (Inside frame) = codes "Inside " ++ decimal frame
text_of_run_fault Memory = codes "Memory"
