-- The texts of faults of streams and access links.
use Rattle.std.specs.Prelude.{ℕ, ◌++◌, List, codes}
use Rattle.cqf_edge.specs.declared.faults.EdgeFault.{EdgeFault}
use Rattle.cqf_edge.specs.declared.faults.EdgeFault.TheVariants as edge_fault
use Rattle.cqf_edge.specs.declared.faults.TalkerFault.{TalkerFault}
use Rattle.cqf_edge.specs.declared.faults.TalkerFault.TheVariants as talker_fault

-- the fault of a stream's talker
abbrev pub talker_fault_text : TalkerFault → List ℕ
talker_fault_text talker_fault.NoTalker = codes "NoTalker"
talker_fault_text talker_fault.TwoAccessLinks = codes "TwoAccessLinks"
talker_fault_text talker_fault.OtherEdge = codes "OtherEdge"
talker_fault_text talker_fault.OtherListeners = codes "OtherListeners"

-- the first fault of a network's streams
abbrev pub edge_fault_text : EdgeFault → List ℕ
edge_fault_text (edge_fault.Talker name fault) = talker_fault_text fault ++ (codes " " ++ name)
edge_fault_text (edge_fault.AccessFull station) = codes "AccessFull " ++ station
edge_fault_text edge_fault.Memory = codes "Memory"
