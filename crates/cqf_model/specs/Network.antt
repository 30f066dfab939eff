-- All ports of a domain at once: the legal network. Each port follows IEEE Std 802.1Q-2018, 8.6.8; what connects them is this project's own.
use Rattle.std.specs.Prelude.{ℕ, ◌≡◌, ◌+◌, ◌*◌, ◌<◌, ◌≤◌, ◌++◌, List, [], ◌∷◌, Bool, ◌==◌, ◌&&◌, if◌then◌else◌, Option, Some, None, filter, map, length}
use Rattle.std.specs.Prelude.{slice_index_or, Contains}
use Rattle.std.specs.List.{enumerate_from, flat_map, list_any}
use Rattle.cqf_lists.specs.Lists.{each_below}
use Rattle.cqf_model.specs.declared.frames.Backed.{Backed}
use Rattle.cqf_model.specs.declared.frames.Background.{Background}
use Rattle.cqf_model.specs.declared.frames.Sent.{Sent}
use Rattle.cqf_model.specs.declared.ports.Arrival.{Arrival}
use Rattle.cqf_model.specs.declared.ports.Start.{Start}
use Rattle.cqf_model.specs.declared.topology.Row.{Row}
use Rattle.cqf_model.specs.GateList.{Entry, port_list}
use Rattle.cqf_model.specs.Port.{Transmission, AreLegal, no_arrival}
use Rattle.cqf_model.specs.StreamGate.{gate_class}
use Rattle.cqf_model.specs.Domain.{Domain, bridge_of, cycle_of, guard_of, octet_time_of}
use Rattle.cqf_model.specs.Run.{Run}
use Rattle.cqf_model.specs.Table.{goes_to}
use Rattle.cqf_model.specs.Policing.{Carried, Policed, Received, Verdict, Queued, DroppedFor, LacksRow, ExceedsGate, came_by, gate_list_after, policed_before}

-- a frame in a port's queues: the arrival that the port sees, labelled with the frame's number, and the number of its stream, none for a
-- background frame
pub record QueuedFrame : Type 0 where
  pub arrival : Arrival
  pub stream : Option ℕ

-- a stream's frame, with the class that its stream's gate assigns
abbrev pub queued_frame : Domain → Received → Row → QueuedFrame
queued_frame d x row = record {
  arrival = record { at = record { 0 = x.at }; class = gate_class (gate_list_after d row (came_by x.ingress)) x.at; octets = x.octets; frame = x.frame };
  stream = Some row.no;
}

-- a frame is queued to each port that sends on a link on which its stream continues
abbrev pub queued_by : Domain → ℕ → Received → Verdict → List QueuedFrame
queued_by d l x (Queued row) =
    if list_any (λ next. next == l) (goes_to row (came_by x.ingress)) then queued_frame d x row ∷ [] else []
queued_by d l x (DroppedFor reason) = []
queued_by d l x LacksRow = []
queued_by d l x ExceedsGate = []

-- the frames that are queued to a port, of those that arrived at its bridge
abbrev pub queued_to : Domain → ℕ → List Policed → List QueuedFrame
queued_to d l policed = flat_map (λ (p : Policed). queued_by d l p.received p.verdict) policed

-- all streams' frames that are queued to a port before an instant
abbrev pub queued_before : Run → Carried → ℕ → ℕ → List QueuedFrame
queued_before run carried l end = queued_to run.domain l (policed_before run carried (bridge_of run.domain l) end)

-- the background frames in order, each with its number, from 1
abbrev pub numbered_background : List Background → List Backed
numbered_background background =
    map (λ (x : ℕ × Background). record { frame = x.0; background = x.1 }) (enumerate_from 1 background)

-- a background frame in a port's queues: it waits with its own class, and no stream gate polices it
abbrev pub backed_frame : Backed → QueuedFrame
backed_frame x = record {
  arrival = record { at = x.background.at; class = x.background.class; octets = x.background.octets; frame = x.frame };
  stream = None;
}

-- whether a background frame is for the link and waits from the instant
abbrev pub is_backed_at : ℕ → ℕ → Backed → Bool
is_backed_at l t x = (x.background.link == l) && (x.background.at.0 == t)

-- the background frames of a link at an instant, in order of number
abbrev pub backed_at : List Background → ℕ → ℕ → List QueuedFrame
backed_at background l t = map backed_frame (filter (is_backed_at l t) (numbered_background background))

-- the background frames of a link in a cycle, in order of instant, then number
abbrev pub backed_in : Domain → List Background → ℕ → ℕ → List QueuedFrame
backed_in d background l cycle = each_below (λ offset. backed_at background l (cycle * d.cycle_time + offset)) d.cycle_time

-- the streams' frames that are queued to a port in a cycle
abbrev pub queued_in : Run → Carried → ℕ → ℕ → List QueuedFrame
queued_in run carried l cycle = filter (λ (x : QueuedFrame). cycle_of run.domain x.arrival.at.0 == cycle)
    (queued_before run carried l ((cycle + 1) * run.domain.cycle_time))

-- what arrives at a port in a cycle, in the order in which a bridge hands it over: the link's background frames, then the streams' frames.
-- The order of the two kinds doesn't matter: they have no class in common, and the order of arrivals matters only within a class, where it
-- is that of instants
abbrev pub comes_in : Run → Carried → ℕ → ℕ → List QueuedFrame
comes_in run carried l cycle = backed_in run.domain run.background l cycle ++ queued_in run carried l cycle

-- what arrives at a port in the first cycles, cycle by cycle
abbrev pub comes_before : Run → Carried → ℕ → ℕ → List QueuedFrame
comes_before run carried l cycles = each_below (comes_in run carried l) cycles

-- the arrivals of queued frames
abbrev pub arrivals_of : List QueuedFrame → List Arrival
arrivals_of queued = map (λ (x : QueuedFrame). x.arrival) queued

-- the value past the end of a list of queued frames
abbrev pub no_frame : QueuedFrame
no_frame = record { arrival = no_arrival; stream = None }

-- the stream's frame that a transmission sends, if it sends one
abbrev pub sent_by : ℕ → Arrival → Option ℕ → List Sent
sent_by t x None = []
sent_by t x (Some stream) = record { start = record { 0 = t }; frame = x.frame; stream = stream; octets = x.octets } ∷ []

-- the background frame that a transmission sends, if it sends one
abbrev pub backed_by : ℕ → Arrival → Option ℕ → List Start
backed_by t x None = record { start = record { 0 = t }; class = x.class; octets = x.octets; frame = x.frame } ∷ []
backed_by t x (Some stream) = []

-- the stream's frame of a transmission of a queue
abbrev pub sent_of : List QueuedFrame → Transmission → List Sent
sent_of queued start = let x = slice_index_or queued start.0 no_frame in sent_by start.1 x.arrival x.stream

-- the background frame of a transmission of a queue
abbrev pub backed_of : List QueuedFrame → Transmission → List Start
backed_of queued start = let x = slice_index_or queued start.0 no_frame in backed_by start.1 x.arrival x.stream

-- a port's transmissions are legal for what arrives at it. Its link carries those of streams' frames to the next node; those of background
-- frames end there
pub record Sends (d : Domain) (entries : List Entry) (end l : ℕ) (queued : List QueuedFrame) (sents : List Sent) (backed : List Start) :
    Type 0 where
  pub starts : List Transmission
  pub legal : AreLegal (record { entries = entries; octet_time = octet_time_of d l }) (arrivals_of queued) end starts
  pub are_sent : sents ≡ flat_map (sent_of queued) starts
  pub are_backed : backed ≡ flat_map (backed_of queued) starts

-- what each link sends, in order of start: the streams' frames, and the background frames
pub record Network : Type 0 where
  pub carried : Carried
  pub backed : ℕ → List Start

-- each link sends what its gate list demands, given what is heard of the other links, what is offered, and its background frames, up to the
-- end of the run. A link that the domain doesn't have sends nothing
pub record IsNetworkBy (run : Run) (lists : ℕ → List Entry) (cycles : ℕ) (net : Network) (heard : Carried) : Type 0 where
  pub sends : (l : ℕ) → l < length run.domain.links →
      Sends run.domain (lists l) (cycles * run.domain.cycle_time) l (comes_before run heard l cycles) (net.carried l) (net.backed l)
  pub no_others : (l : ℕ) → length run.domain.links ≤ l → (net.carried l ≡ []) × (net.backed l ≡ [])

-- the network in which all nodes have the same clock and each link has its stated delay, so that what is heard is what is sent
abbrev pub IsLegalNetwork : Run → (ℕ → List Entry) → ℕ → Network → Type 0
IsLegalNetwork run lists cycles net = IsNetworkBy run lists cycles net net.carried

-- the gate lists that a domain is compiled to: each port's list has its link's guard band
abbrev pub compiled_lists : Domain → ℕ → List Entry
compiled_lists d l = port_list d.cycle_time (guard_of d l)

-- a frame with this verdict is lost inside: it arrived at a bridge by a link, and goes on to no port there
abbrev pub IsLoss : Verdict → Type 0
IsLoss (Queued row) = ⊥
IsLoss (DroppedFor reason) = ⊥
IsLoss LacksRow = Unit {0}
IsLoss ExceedsGate = Unit {0}

-- the frame arrived at the bridge within the run, and is lost there
pub record IsLost (run : Run) (carried : Carried) (cycles bridge : ℕ) (policed : Policed) : Type 0 where
  pub came : Contains (policed_before run carried bridge (cycles * run.domain.cycle_time)) policed
  pub lost : IsLoss policed.verdict

-- nothing is lost inside in the first cycles
abbrev pub LosesNothing : Run → ℕ → Network → Type 0
LosesNothing run cycles net = (bridge : ℕ) (policed : Policed) → ¬ IsLost run net.carried cycles bridge policed
