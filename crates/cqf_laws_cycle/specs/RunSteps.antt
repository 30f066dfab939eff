-- Laws about a run that goes on cycle by cycle, in a planner's words.
use Rattle.cqf_model.specs.Domain.{guard_of}
use Rattle.std.specs.Prelude.{ℕ, ◌≡◌, ◌+◌, ◌*◌, ◌<◌, ◌≤◌, ◌↔◌, List, [], length, Contains}
use Rattle.cqf_lists.specs.Lists.{each_below}
use Rattle.cqf_model.specs.declared.topology.Row.{Row}
use Rattle.cqf_model.specs.Book.{backed_batch, batch}
use Rattle.cqf_model.specs.GateList.{Entry}
use Rattle.cqf_model.specs.Network.{IsLegalNetwork, IsLoss, IsLost, Network, Sends, comes_before, compiled_lists}
use Rattle.cqf_model.specs.Run.{Run}
use Rattle.cqf_model.specs.Policing.{Carried, Policed, policed_before}
use Rattle.cqf_laws_network.specs.NetworkLaws.{HaveTheSameTables, IsShorter, with_tables}
use Rattle.cqf_laws_cycle.specs.BridgeCycle.{IsCompiledNetwork, policed_of}
use Rattle.cqf_laws_cycle.specs.PortCycle.{waits_in}

-- a network that sends nothing
abbrev pub silence : Network
silence = record { carried = λ l. []; backed = λ l. [] }

-- in a run of no cycles nothing is sent
abbrev pub RunBegins : Type 0
RunBegins = (run : Run) (lists : ℕ → List Entry) → IsLegalNetwork run lists 0 silence

-- one cycle more: up to the end of that cycle, each link sends what its gate list demands for what its port has in that cycle, given what
-- was sent before the cycle
pub record SendsOneMore (run : Run) (cycles : ℕ) (net more : Network) : Type 0 where
  pub sends : (l : ℕ) → l < length run.domain.links →
      Sends run.domain (compiled_lists run.domain l) ((cycles + 1) * run.domain.cycle_time) l (waits_in run net.carried l cycles)
      (more.carried l) (more.backed l)
  pub no_others : (l : ℕ) → length run.domain.links ≤ l → (more.carried l ≡ []) × (more.backed l ≡ [])

-- if a legal network goes on for one cycle more, the network of the longer run is legal
abbrev pub RunGoesOn : Type 0
RunGoesOn = (run : Run) (cycles : ℕ) (net more : Network) → ((l : ℕ) → guard_of run.domain l < run.domain.cycle_time) →
    IsLegalNetwork run (compiled_lists run.domain) cycles net → SendsOneMore run cycles net more →
    IsLegalNetwork run (compiled_lists run.domain) (cycles + 1) more

-- what is sent in a cycle depends only on the tables of the cycles before it, since what arrives in a cycle waits: with other
-- tables in its last cycle and in later ones, a run's network stays legal
abbrev pub LastTableWaits : Type 0
LastTableWaits = (run : Run) (others : List (List Row)) (cycles : ℕ) (net : Network) → HaveTheSameTables cycles run.tables others →
    IsCompiledNetwork run (cycles + 1) net → IsCompiledNetwork (with_tables run others) (cycles + 1) net

-- a longer run changes neither what was sent in a cycle of a shorter one nor what arrived at the bridges and the ports
pub record KeepsItsCycles (run : Run) (others : List (List Row)) (cycles : ℕ) (net longer : Network) : Type 0 where
  pub sends : (l cycle : ℕ) → cycle < cycles → batch run.domain longer.carried l cycle ≡ batch run.domain net.carried l cycle
  pub sends_background : (l cycle : ℕ) → cycle < cycles →
      backed_batch run.domain longer.backed l cycle ≡ backed_batch run.domain net.backed l cycle
  pub takes : (bridge cycle : ℕ) → cycle ≤ cycles →
      policed_before run longer.carried bridge (cycle * run.domain.cycle_time)
      ≡ policed_before (with_tables run others) net.carried bridge (cycle * run.domain.cycle_time)
  pub waits : (l cycle : ℕ) → cycle ≤ cycles →
      comes_before run longer.carried l cycle ≡ comes_before (with_tables run others) net.carried l cycle

-- each longer run with the same tables in a shorter one's cycles changes nothing in these cycles
abbrev pub LongerRunKeepsItsCycles : Type 0
LongerRunKeepsItsCycles = (run : Run) (others : List (List Row)) (lists : ℕ → List Entry) (cycles longer : ℕ) (net more : Network) →
    IsShorter cycles longer run.tables others → IsLegalNetwork (with_tables run others) lists cycles net → IsLegalNetwork run lists longer more →
    KeepsItsCycles run others cycles net more

-- a bridge's verdicts on all that arrives are, cycle by cycle, its verdicts on what arrives in each cycle
abbrev pub RunIsItsCycles : Type 0
RunIsItsCycles = (run : Run) (carried : Carried) (bridge cycles : ℕ) →
    policed_before run carried bridge (cycles * run.domain.cycle_time) ≡ each_below (policed_of run carried bridge) cycles

-- a frame is lost in one of the cycles
pub record IsLostIn (run : Run) (carried : Carried) (cycles bridge : ℕ) (policed : Policed) : Type 0 where
  pub cycle : ℕ
  pub within_run : cycle < cycles
  pub came : Contains (policed_of run carried bridge cycle) policed
  pub lost : IsLoss policed.verdict

-- a frame is lost inside the network in a run exactly if it is lost in one of its cycles
abbrev pub LossesAreOfCycles : Type 0
LossesAreOfCycles = (run : Run) (carried : Carried) (cycles bridge : ℕ) (policed : Policed) →
    IsLost run carried cycles bridge policed ↔ IsLostIn run carried cycles bridge policed
