-- Laws about the verdicts on the frames that a bridge takes in a cycle, in a planner's words.
use Rattle.std.specs.Prelude.{ℕ, ◌≡◌, ◌<◌, [], Contains}
use Rattle.cqf_model.specs.Network.{IsLoss, Network}
use Rattle.cqf_model.specs.Run.{Run}
use Rattle.cqf_model.specs.Table.{table_of}
use Rattle.cqf_model.specs.Policing.{Carried, Policed}
use Rattle.cqf_laws_cycle.specs.BridgeCycle.{IsCompiledNetwork, policed_in, policed_of}
use Rattle.cqf_bridge.specs.Receiving.{AreBatchesOf, verdicts_in}
use Rattle.cqf_bridge.specs.Follows.{batches_into}

-- the verdicts on the frames of a cycle don't depend on frames of earlier cycles
abbrev pub EachCycleIsAnew : Type 0
EachCycleIsAnew = (run : Run) (carried : Carried) (bridge cycle : ℕ) → 0 < run.domain.cycle_time →
    policed_in run carried bridge cycle [] ≡ policed_of run carried bridge cycle

-- nothing that arrives at a bridge in a cycle is lost
abbrev pub LosesNothingIn : Run → Network → ℕ → ℕ → Type 0
LosesNothingIn run net bridge cycle = (p : Policed) → Contains (policed_of run net.carried bridge cycle) p → ¬ IsLoss p.verdict

-- the verdicts of a bridge that is given the network's batches are those of the run
abbrev pub VerdictsAreTheRuns : Type 0
VerdictsAreTheRuns = (run : Run) (cycles cycle bridge : ℕ) (net : Network) → IsCompiledNetwork run cycles net →
    verdicts_in run bridge cycle (batches_into run.domain net.carried bridge cycle) ≡ policed_of run net.carried bridge cycle

-- if a bridge loses nothing in a cycle, the network's batches are the cycle's: each of their frames goes on there, by the table of the
-- cycle, and is whole there within it
abbrev pub UnlostBatchesMayCome : Type 0
UnlostBatchesMayCome = (run : Run) (cycles cycle bridge : ℕ) (net : Network) → IsCompiledNetwork run cycles net → LosesNothingIn run net bridge cycle →
    AreBatchesOf run.domain bridge cycle (table_of run.tables cycle) (batches_into run.domain net.carried bridge cycle)
