-- Laws about what a port does in one cycle, in a planner's words.
use Rattle.std.specs.Prelude.{ℕ, ◌≡◌, ◌+◌, ◌*◌, ◌≤◌, ◌<◌, ◌↔◌, ◌++◌, List, length, Contains}
use Rattle.std.specs.List.{flat_map}
use Rattle.cqf_model.specs.declared.ports.Arrival.{Arrival}
use Rattle.cqf_model.specs.Book.{backed_batch, batch}
use Rattle.cqf_model.specs.Domain.{Domain, bridge_of, cycle_of, guard_of, octet_time_of}
use Rattle.cqf_model.specs.GateList.{IsOpen}
use Rattle.cqf_model.specs.Network.{Network, QueuedFrame, Sends, arrivals_of, backed_in, backed_of, comes_before, compiled_lists, queued_in, queued_to, sent_of}
use Rattle.cqf_model.specs.Port.{AreLegal, PortRules, Transmission}
use Rattle.cqf_model.specs.Run.{Run}
use Rattle.cqf_model.specs.Policing.{Carried, Policed}
use Rattle.cqf_laws_network.specs.NetworkLaws.{backed_before, sent_before}
use Rattle.cqf_laws_cycle.specs.BridgeCycle.{IsCompiledNetwork, policed_of}

-- arrivals after the others change nothing if the gate of each is closed from its arrival until the end: the same transmissions are
-- legal with them and without them
abbrev pub ClosedArrivalsChangeNothing : Type 0
ClosedArrivalsChangeNothing = (rules : PortRules) (arrivals closed : List Arrival) (end : ℕ) (starts : List Transmission) →
    0 < rules.octet_time → ((x : Arrival) (t : ℕ) → Contains closed x → x.at.0 ≤ t → t < end → ¬ IsOpen rules.entries x.class t) →
    AreLegal rules (arrivals ++ closed) end starts ↔ AreLegal rules arrivals end starts

-- a stream's frame that is queued in a cycle waits at least until the cycle's end: no port opens its class before
abbrev pub QueuedFramesWait : Type 0
QueuedFramesWait = (d : Domain) (l t : ℕ) (policed : List Policed) (frame : QueuedFrame) →
    guard_of d l < d.cycle_time → Contains (queued_to d l policed) frame →
    frame.arrival.at.0 ≤ t → t < (cycle_of d frame.arrival.at.0 + 1) * d.cycle_time → ¬ IsOpen (compiled_lists d l) frame.arrival.class t

-- what a port has when it sends a cycle: what arrived before the cycle, then the background frames of the cycle
abbrev pub waits_in : Run → Carried → ℕ → ℕ → List QueuedFrame
waits_in run carried l cycle = comes_before run carried l cycle ++ backed_in run.domain run.background l cycle

-- the streams' frames that are queued to a port in a cycle are those that arrive at its bridge in it and go on by its link
abbrev pub QueuedInItsCycle : Type 0
QueuedInItsCycle = (run : Run) (carried : Carried) (l cycle : ℕ) →
    queued_in run carried l cycle ≡ queued_to run.domain l (policed_of run carried (bridge_of run.domain l) cycle)

-- so a port goes on from cycle to cycle: what has arrived at it by the end of a cycle is what it has when it sends the cycle,
-- followed by what its bridge queues to it in the cycle
abbrev pub PortGoesOn : Type 0
PortGoesOn = (run : Run) (carried : Carried) (l cycle : ℕ) →
    comes_before run carried l (cycle + 1)
    ≡ waits_in run carried l cycle ++ queued_to run.domain l (policed_of run carried (bridge_of run.domain l) cycle)

-- what a port sends up to the end of a cycle, of both kinds, is what its gate list demands for what it has when it sends the cycle:
-- the streams' frames of the cycle itself wait
abbrev pub SendsWhatCameBefore : Type 0
SendsWhatCameBefore = (run : Run) (cycles cycle l : ℕ) (net : Network) →
    IsCompiledNetwork run cycles net → cycle < cycles → l < length run.domain.links →
    (let end = (cycle + 1) * run.domain.cycle_time in
    Sends run.domain (compiled_lists run.domain l) end l (waits_in run net.carried l cycle)
    (sent_before end (net.carried l)) (backed_before end (net.backed l)))

-- a port that has these frames starts what its gate list demands up to the end of a cycle: some transmissions before the cycle,
-- then others in it
pub record StartsInCycle (d : Domain) (l cycle : ℕ) (queued : List QueuedFrame) (before made : List Transmission) : Type 0 where
  pub legal : AreLegal (record { entries = compiled_lists d l; octet_time = octet_time_of d l }) (arrivals_of queued)
      ((cycle + 1) * d.cycle_time) (before ++ made)
  pub sooner : (index s : ℕ) → Contains before (index, s) → s < cycle * d.cycle_time
  pub later : (index s : ℕ) → Contains made (index, s) → cycle * d.cycle_time ≤ s

-- these transmissions send what a link sends in a cycle, of both kinds
pub record MakesTheBatch (run : Run) (net : Network) (l cycle : ℕ) (made : List Transmission) : Type 0 where
  pub batch_made : batch run.domain net.carried l cycle ≡ flat_map (sent_of (waits_in run net.carried l cycle)) made
  pub background_made : backed_batch run.domain net.backed l cycle ≡ flat_map (backed_of (waits_in run net.carried l cycle)) made

-- so a port that has only these frames, and starts what its gate list demands, starts in the cycle what its link sends in it
abbrev pub PortStartsTheBatch : Type 0
PortStartsTheBatch = (run : Run) (cycles cycle l : ℕ) (net : Network) (before made : List Transmission) →
    IsCompiledNetwork run cycles net → cycle < cycles → l < length run.domain.links →
    StartsInCycle run.domain l cycle (waits_in run net.carried l cycle) before made → MakesTheBatch run net l cycle made
