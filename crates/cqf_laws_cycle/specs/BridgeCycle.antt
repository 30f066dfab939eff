-- Laws about what a bridge takes in one cycle, in a planner's words.
use Rattle.std.specs.Prelude.{ℕ, ◌≡◌, ◌+◌, ◌*◌, ◌<◌, ◌++◌, AllPairs, List, Contains, true}
use Rattle.cqf_lists.specs.Lists.{each_below}
use Rattle.cqf_model.specs.declared.frames.Sent.{Sent}
use Rattle.cqf_model.specs.Book.{batch, drops_in}
use Rattle.cqf_model.specs.Domain.{IsAccepted, cycle_of, enters}
use Rattle.cqf_model.specs.GateList.{Entry}
use Rattle.cqf_model.specs.Network.{IsLegalNetwork, Network, compiled_lists}
use Rattle.cqf_model.specs.Run.{Run}
use Rattle.cqf_model.specs.Policing.{Carried, Policed, Received, police_all, policed_before, received_at, whole_at}

-- what arrives at a bridge in a cycle, instant by instant
abbrev pub received_in : Run → Carried → ℕ → ℕ → List Received
received_in run carried bridge cycle =
    each_below (λ offset. received_at run carried bridge (cycle * run.domain.cycle_time + offset)) run.domain.cycle_time

-- the verdicts on what arrives in a cycle, after the earlier frames
abbrev pub policed_in : Run → Carried → ℕ → ℕ → List Policed → List Policed
policed_in run carried bridge cycle earlier = police_all run.domain run.tables bridge earlier (received_in run carried bridge cycle)

-- the verdicts of a cycle in a run, after the frames of the cycles before
abbrev pub policed_of : Run → Carried → ℕ → ℕ → List Policed
policed_of run carried bridge cycle = policed_in run carried bridge cycle (policed_before run carried bridge (cycle * run.domain.cycle_time))

-- a bridge goes on from cycle to cycle: its verdicts on what arrived by the end of a cycle are those on what arrived before the
-- cycle, followed by those on what arrived in it
abbrev pub BridgeGoesOn : Type 0
BridgeGoesOn = (run : Run) (carried : Carried) (bridge cycle : ℕ) →
    policed_before run carried bridge ((cycle + 1) * run.domain.cycle_time)
    ≡ policed_before run carried bridge (cycle * run.domain.cycle_time) ++ policed_of run carried bridge cycle

-- the legal network of a run with an accepted domain and the compiled gate lists
pub record IsCompiledNetwork (run : Run) (cycles : ℕ) (net : Network) : Type 0 where
  pub accepted : IsAccepted run.domain
  pub legal : IsLegalNetwork run (compiled_lists run.domain) cycles net

-- what a link sends in a cycle has fully arrived in the next node in the same cycle
abbrev pub BatchIsWholeInItsCycle : Type 0
BatchIsWholeInItsCycle = (run : Run) (cycles cycle m : ℕ) (net : Network) (sent : Sent) →
    IsCompiledNetwork run cycles net → Contains (batch run.domain net.carried m cycle) sent →
    cycle_of run.domain (whole_at run.domain m sent) ≡ cycle

-- so what arrives at a bridge in a cycle depends only on what its incoming links send in the cycle, and on the offers
abbrev pub CycleBringsItsBatches : Type 0
CycleBringsItsBatches = (run : Run) (cycles cycle bridge : ℕ) (net : Network) (batches : Carried) →
    IsCompiledNetwork run cycles net →
    ((m : ℕ) → enters run.domain m bridge ≡ true → batches m ≡ batch run.domain net.carried m cycle) →
    received_in run batches bridge cycle ≡ received_in run net.carried bridge cycle

-- the frames of one link fully arrive one after the other, in the order in which they were sent
abbrev pub FramesKeepTheirOrder : Type 0
FramesKeepTheirOrder = (run : Run) (lists : ℕ → List Entry) (cycles m : ℕ) (net : Network) →
    IsLegalNetwork run lists cycles net → AllPairs (λ (a b : Sent). whole_at run.domain m a < whole_at run.domain m b) (net.carried m)

-- the drops of a cycle are those among the frames that arrive in it
abbrev pub DropsAreOfTheCycle : Type 0
DropsAreOfTheCycle = (run : Run) (carried : Carried) (cycles cycle bridge indices : ℕ) → cycle < cycles →
    drops_in run.domain indices (λ b. policed_before run carried b (cycles * run.domain.cycle_time)) cycle bridge
    ≡ drops_in run.domain indices (λ b. policed_of run carried b cycle) cycle bridge
