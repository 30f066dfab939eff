-- Faults of closing a desk as texts: a fault's name, followed by a space and its value if it has one.
use Rattle.std.specs.Prelude.{ℕ, ◌++◌, List, codes, decimal}
use Rattle.cqf_desk.specs.declared.faults.CloseFault.{CloseFault}
use Rattle.cqf_desk.specs.declared.faults.CloseFault.TheVariants.{SeatMissing, SeatsDisagree, Memory}

-- the text of a fault
abbrev pub close_fault_text : CloseFault → List ℕ
close_fault_text SeatMissing = codes "SeatMissing"
close_fault_text (SeatsDisagree seat) = codes "SeatsDisagree " ++ decimal seat
close_fault_text Memory = codes "Memory"
