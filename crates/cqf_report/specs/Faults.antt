-- The texts of a table's faults: a fault's name, followed by a space and its row's number if it has one.
use Rattle.std.specs.Prelude.{ℕ, ◌++◌, List, codes, decimal}
use Rattle.cqf_report.specs.declared.tables.TableFault.{TableFault}
use Rattle.cqf_report.specs.declared.tables.TableFault.TheVariants as table_fault

-- why a table is refused
abbrev pub table_fault_text : TableFault → List ℕ
table_fault_text table_fault.BadHeader = codes "BadHeader"
table_fault_text table_fault.TooMany = codes "TooMany"
table_fault_text (table_fault.BadRow row) = codes "BadRow " ++ decimal row
table_fault_text (table_fault.OutOfOrder row) = codes "OutOfOrder " ++ decimal row
table_fault_text table_fault.Memory = codes "Memory"
