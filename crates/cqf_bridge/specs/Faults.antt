-- Why a bridge refuses a call, and its state afterwards.
use Rattle.std.specs.Prelude.{ℕ, ◌≡◌, ◌++◌, List, codes, decimal, false, true}
use Rattle.cqf_bridge.specs.declared.faults.BridgeFault.{BridgeFault}
use Rattle.cqf_bridge.specs.declared.faults.BridgeFault.TheVariants.{Spent, WrongCycle, StrangeBatch, OverOctets, Memory}
use Rattle.cqf_bridge.specs.BridgeState.{BridgeState, IsNextToSend, IsSpentBy}

-- the text of a fault: its name, followed by the frame's number if there is one
abbrev pub text_of_fault : BridgeFault → List ℕ
text_of_fault Spent = codes "Spent"
text_of_fault WrongCycle = codes "WrongCycle"
text_of_fault StrangeBatch = codes "StrangeBatch"
text_of_fault (OverOctets frame) = codes "OverOctets " ++ decimal frame
text_of_fault Memory = codes "Memory"

-- why a cycle isn't sent, and the state afterwards: each cause is the first that applies
abbrev pub IsSendFault : BridgeState → BridgeState → ℕ → BridgeFault → Type 0
IsSendFault before after cycle Spent = (before.spent ≡ true) × (after ≡ before)
IsSendFault before after cycle WrongCycle = (before.spent ≡ false) × (¬ IsNextToSend before cycle) × (after ≡ before)
IsSendFault before after cycle StrangeBatch = ⊥
IsSendFault before after cycle (OverOctets frame) = ⊥
IsSendFault before after cycle Memory = (before.spent ≡ false) × IsNextToSend before cycle × IsSpentBy before after
