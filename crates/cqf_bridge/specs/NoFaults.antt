-- Laws about the faults of a bridge that follows the network of a run, in a planner's words.
use Rattle.std.specs.Prelude.{ℕ, ◌≡◌, ◌≤◌, ◌<◌, List, false, length}
use Rattle.cqf_model.specs.declared.frames.Background.{Background}
use Rattle.cqf_model.specs.declared.frames.Offer.{Offer}
use Rattle.cqf_model.specs.Domain.{Domain}
use Rattle.cqf_model.specs.History.{IsLegalHistory, Recorded, seals}
use Rattle.cqf_model.specs.HistoryBook.{run_of_history}
use Rattle.cqf_model.specs.Network.{LosesNothing, Network}
use Rattle.cqf_model.specs.Run.{AreBackground, AreOffers, Run}
use Rattle.cqf_model.specs.Table.{table_of}
use Rattle.cqf_laws_shift.specs.Run.{IsLegalRun}
use Rattle.cqf_laws_cycle.specs.BridgeCycle.{IsCompiledNetwork}
use Rattle.cqf_bridge.specs.declared.faults.BridgeFault.{BridgeFault}
use Rattle.cqf_bridge.specs.declared.faults.BridgeFault.TheVariants.{Memory}
use Rattle.cqf_bridge.specs.BridgeState.{BridgeState, IsNextToSend}
use Rattle.cqf_bridge.specs.Faults.{IsSendFault}
use Rattle.cqf_bridge.specs.Receiving.{AreBatchesOf, IsFirstOver, IsReceiveFault, MayReceive, verdicts_in}
use Rattle.cqf_bridge.specs.Follows.{batches_into, handed_in}

-- a run of orderly tables loses nothing inside
abbrev pub OrderlyRunLosesNothing : Type 0
OrderlyRunLosesNothing = (run : Run) (net : Network) → IsLegalRun run net → LosesNothing run (length run.tables) net

-- so under the tables of a legal history nothing is lost, for all offers and any background frames
abbrev pub RunOfHistoryLosesNothing : Type 0
RunOfHistoryLosesNothing = (d : Domain) (entries : List Recorded) (offers : List Offer) (background : List Background) (cycles : ℕ) (net : Network) →
    IsLegalHistory d entries → cycles ≤ seals entries → AreOffers d offers → AreBackground d background →
    (let run = run_of_history d entries offers background cycles in IsCompiledNetwork run cycles net → LosesNothing run cycles net)

-- if nothing is lost, the batches that end in a bridge in a cycle are the cycle's: each of their frames goes on there, by the table of the
-- cycle, and is whole there within it
abbrev pub BatchesMayCome : Type 0
BatchesMayCome = (run : Run) (cycles cycle bridge : ℕ) (net : Network) → IsCompiledNetwork run cycles net → LosesNothing run cycles net →
    cycle < cycles → AreBatchesOf run.domain bridge cycle (table_of run.tables cycle) (batches_into run.domain net.carried bridge cycle)

-- if nothing is lost, no frame of the batches that end in a bridge in a cycle is over its octets
abbrev pub NoneIsOver : Type 0
NoneIsOver = (run : Run) (cycles cycle bridge frame : ℕ) (net : Network) → IsCompiledNetwork run cycles net → LosesNothing run cycles net →
    cycle < cycles → ¬ IsFirstOver (verdicts_in run bridge cycle (batches_into run.domain net.carried bridge cycle)) frame

-- a bridge that isn't spent refuses to send its next cycle only if an allocation fails
abbrev pub SendsButForMemory : Type 0
SendsButForMemory = (cycle : ℕ) (before after : BridgeState) (fault : BridgeFault) →
    before.spent ≡ false → IsNextToSend before cycle → IsSendFault before after cycle fault → fault ≡ Memory

-- if nothing is lost, a bridge that is given the table of the cycle and the network's batches refuses to receive the cycle that it has sent
-- only if an allocation fails, no matter what was recorded at its ports
abbrev pub ReceivesButForMemory : Type 0
ReceivesButForMemory = (run : Run) (cycles cycle : ℕ) (net : Network) (before after : BridgeState) (fault : BridgeFault) →
    IsCompiledNetwork run cycles net → LosesNothing run cycles net → before.domain ≡ run.domain →
    MayReceive before cycle (handed_in run net before.number cycle) → cycle < cycles →
    IsReceiveFault run before after cycle (handed_in run net before.number cycle) fault → fault ≡ Memory
