-- The receive phase of a cycle, step by step.
use Rattle.std.specs.Prelude.{ℕ, ◌≡◌, ◌+◌, ◌≤◌, ◌<◌, ◌++◌, ◌==◌, Bool, false, true, not, List, [], ◌∷◌, Contains}
use Rattle.std.specs.Prelude.{Option, Some, None, if◌then◌else◌, length, map, replicate}
use Rattle.std.specs.List.{flat_map, list_any}
use Rattle.cqf_units.specs.Timing.{counted_of}
use Rattle.cqf_model.specs.declared.frames.Dropped.{Dropped}
use Rattle.cqf_model.specs.declared.frames.Offered.{Offered}
use Rattle.cqf_model.specs.declared.frames.Reason.{Reason}
use Rattle.cqf_model.specs.declared.frames.Reason.TheVariants.{Octets}
use Rattle.cqf_model.specs.declared.frames.Sent.{Sent}
use Rattle.cqf_model.specs.declared.ports.Arrival.{Arrival}
use Rattle.cqf_model.specs.declared.topology.Row.{Row}
use Rattle.cqf_model.specs.Book.{drop_by, drops_in}
use Rattle.cqf_model.specs.Domain.{Domain, cycle_of}
use Rattle.cqf_model.specs.Network.{IsLoss, queued_by, queued_to}
use Rattle.cqf_model.specs.Run.{Run}
use Rattle.cqf_model.specs.StreamGate.{gate_class}
use Rattle.cqf_model.specs.Table.{goes_on, goes_to, row_of}
use Rattle.cqf_model.specs.Policing.{AtEdge as Offering, DroppedFor, ExceedsGate, LacksRow, Policed, Queued, Received}
use Rattle.cqf_model.specs.Policing.{Ingress, Relayed, Verdict, came_by, gate_list_after, is_queued_of, offer_received, police, police_all}
use Rattle.cqf_model.specs.Policing.{sent_received, verdict_by}
use Rattle.cqf_laws_cycle.specs.Gathered.{dropped_of}
use Rattle.cqf_gates.specs.StreamGate.{lets_pass}
use Rattle.cqf_port.specs.PortState.{IsLate, IsOutOfOrder, PortState}
use Rattle.cqf_bridge.specs.declared.faults.BridgeFault.{BridgeFault}
use Rattle.cqf_bridge.specs.declared.faults.BridgeFault.TheVariants.{Spent, WrongCycle, StrangeBatch, OverOctets, Memory}
use Rattle.cqf_bridge.specs.declared.cycle_gate.KeptGate.{KeptGate}
use Rattle.cqf_bridge.specs.declared.gathering.Came.{Came}
use Rattle.cqf_bridge.specs.declared.gathering.Came.TheVariants.{AtEdge, ByLink}
use Rattle.cqf_bridge.specs.declared.gathering.Incoming.{Incoming}
use Rattle.cqf_bridge.specs.declared.policing.FrameVerdict.{FrameVerdict}
use Rattle.cqf_bridge.specs.declared.policing.FrameVerdict.TheVariants as outcome
use Rattle.cqf_bridge.specs.Batch.{LinkBatch}
use Rattle.cqf_bridge.specs.BridgeState.{BridgeState, IsBridge, end_of_cycle}
use Rattle.cqf_bridge.specs.Gates.{AreKept, HaveCounted, counted_in, gate_in}
use Rattle.cqf_bridge.specs.PortRecord.{PortRecord, rules_on, with_frames}
use Rattle.cqf_agenda.specs.Links.{links_into}
use Rattle.cqf_bridge.specs.Receiving.{IsFirstOver, MayCome, port_queued, verdicts_in}
use Rattle.cqf_model.specs.Limits.{end_of_starts}

-- a batch is of the cycle, and each of its frames may arrive by its link
pub record IsBatchOf (d : Domain) (bridge cycle : ℕ) (rows : List Row) (batch : LinkBatch) : Type 0 where
  pub of_cycle : batch.cycle ≡ cycle
  pub frames : (sent : Sent) → Contains batch.frames sent → MayCome d bridge cycle rows batch.link sent

-- a frame that arrives at a bridge, in the terms of the definitions
abbrev pub ingress_taken : Came → Ingress
ingress_taken (ByLink link stream) = Relayed link stream
ingress_taken (AtEdge name) = Offering name

abbrev pub received_as : Incoming → Received
received_as x = record { at = x.at.0; octets = x.octets; frame = x.frame; ingress = ingress_taken x.came }

-- a batch is of a link of the domain, and its frames start early enough for sums with their instants
pub record CanGather (d : Domain) (b : LinkBatch) : Type 0 where
  pub inside : b.link < length d.links
  pub early : (sent : Sent) → Contains b.frames sent → sent.start.0 < end_of_starts

-- the frames of batches, batch by batch, followed by the offers
abbrev pub gathered_by : Domain → List LinkBatch → List Offered → List Received
gathered_by d batches offers = flat_map (λ (b : LinkBatch). map (sent_received d b.link) b.frames) batches ++ map offer_received offers

-- the arrival may be recorded at the port
abbrev pub CanRecord : PortState → Arrival → Type 0
CanRecord p arrival = (¬ IsLate p arrival) × (¬ IsOutOfOrder p arrival)

-- a port after an arrival of a row's stream, which is queued if the stream goes on by the port's link
abbrev pub queue_on : Row → Option ℕ → Arrival → PortRecord → PortRecord
queue_on row ingress arrival r =
    with_frames r (if list_any (λ next. next == r.link) (goes_to row ingress) then record { arrival = arrival; stream = Some row.no } ∷ [] else [])

-- a port has run to the end of a cycle, and each of its streams' frames arrived before an instant
pub record IsWaiting (d : Domain) (cycle until : ℕ) (r : PortRecord) : Type 0 where
  pub rules : r.port.rules ≡ rules_on d r.link
  pub reached : r.port.reached ≡ end_of_cycle d cycle
  pub sooner : (a : Arrival) → Contains r.port.arrivals a → 6 ≤ a.class → a.at.0 < until

-- the same for each port
abbrev pub AreWaiting : Domain → ℕ → ℕ → List PortRecord → Type 0
AreWaiting d cycle until ports = (r : PortRecord) → Contains ports r → IsWaiting d cycle until r

-- whether the gate for a row's stream passes a frame
abbrev pub passes_by : Domain → List KeptGate → Received → Row → Bool
passes_by d gates x row = lets_pass (gate_in d gates row (came_by x.ingress)) x.at (counted_of d.overhead x.octets)

-- the verdict on a frame by the gates
abbrev pub verdict_taken : Domain → List Row → ℕ → ℕ → List KeptGate → Received → Verdict
verdict_taken d rows bridge cycle gates x = verdict_by d rows bridge cycle (passes_by d gates x) x.ingress

-- a port with the frame that a verdict queues to it
abbrev pub with_verdict : Domain → Received → Verdict → PortRecord → PortRecord
with_verdict d x verdict r = with_frames r (queued_by d r.link x verdict)

-- the verdict on a frame that arrived by a link, from whether its row's gate passes it
abbrev pub verdict_if : Bool → Row → Verdict
verdict_if went row = if went then Queued row else ExceedsGate

-- the class in which a frame of a row's stream waits if its gate passes it
abbrev pub class_in : Domain → Received → Row → ℕ
class_in d x row = gate_class (gate_list_after d row (came_by x.ingress)) x.at

-- a frame passes the gate of a row's stream and gets a class, or doesn't pass and gets none
pub record PassesGate (d : Domain) (cycle : ℕ) (x : Received) (row : Row) (gates gates_after : List KeptGate) (class : Option ℕ) : Type 0 where
  pub decided : class ≡ (if passes_by d gates x row then Some (class_in d x row) else None)
  pub counted : (number : ℕ) → counted_in gates_after number cycle
      ≡ counted_in gates number cycle + (if is_queued_of number (verdict_if (passes_by d gates x row) row) then counted_of d.overhead x.octets else 0)
  pub kept : AreKept (cycle + 1) gates → AreKept (cycle + 1) gates_after

-- the verdict on an offer with the name of a row's stream, given a reason that doesn't depend on its gate
abbrev pub verdict_unless : Option Reason → Bool → Row → Verdict
verdict_unless (Some reason) passes row = DroppedFor reason
verdict_unless None passes row = if not passes then DroppedFor Octets else Queued row

-- a verdict in the terms of the definitions
abbrev pub verdict_as : FrameVerdict → Verdict
verdict_as (outcome.GoesOn row class) = Queued row.now
verdict_as (outcome.Dropped reason) = DroppedFor reason
verdict_as outcome.LacksRow = LacksRow
verdict_as outcome.ExceedsGate = ExceedsGate

-- a frame that goes on waits in the class that its stream's gate gives it
abbrev pub HasClass : Domain → Received → FrameVerdict → Type 0
HasClass d x (outcome.GoesOn row class) = class ≡ class_in d x row.now
HasClass d x (outcome.Dropped reason) = Unit {0}
HasClass d x outcome.LacksRow = Unit {0}
HasClass d x outcome.ExceedsGate = Unit {0}

-- a frame is policed by the gates: this is the verdict on it, and if it goes on, its stream's gate has counted it
pub record Polices (d : Domain) (rows : List Row) (bridge cycle : ℕ) (x : Received) (gates gates_after : List KeptGate) (made : FrameVerdict) : Type 0 where
  pub verdict : verdict_as made ≡ verdict_taken d rows bridge cycle gates x
  pub class : HasClass d x made
  pub counted : (number : ℕ) → counted_in gates_after number cycle
      ≡ counted_in gates number cycle + (if is_queued_of number (verdict_taken d rows bridge cycle gates x) then counted_of d.overhead x.octets else 0)
  pub kept : AreKept (cycle + 1) gates → AreKept (cycle + 1) gates_after

-- so after the frames of the cycle that the gates have counted, it is the verdict in a run with such a table in the cycle, and the gates
-- have counted the frame too
pub record IsPolicedAfter (d : Domain) (tables : List (List Row)) (bridge cycle : ℕ) (x : Received) (policed : List Policed)
    (gates_after : List KeptGate) (made : FrameVerdict) : Type 0 where
  pub verdict : verdict_as made ≡ (police d tables bridge policed x).verdict
  pub counted : HaveCounted d cycle (policed ++ police d tables bridge policed x ∷ []) gates_after

-- a frame arrives in the cycle, and if it arrived by a link, its stream goes on from the bridge
pub record MayBeTaken (d : Domain) (bridge cycle : ℕ) (rows : List Row) (x : Received) : Type 0 where
  pub in_cycle : cycle_of d x.at ≡ cycle
  pub leads_on : (link stream : ℕ) → x.ingress ≡ Relayed link stream →
      (row : Row) × (row_of rows stream ≡ Some row) × (goes_on d row (Some link) bridge ≡ true)

-- a frame is taken: the gates have counted it if it went on, the ports have it, and it is among the drops if it is dropped
pub record TakesFrame (d : Domain) (rows : List Row) (bridge cycle : ℕ) (x : Received) (gates gates_after : List KeptGate)
    (ports ports_after : List PortRecord) (drops drops_after : List Dropped) : Type 0 where
  pub counted : (number : ℕ) → counted_in gates_after number cycle
      ≡ counted_in gates number cycle + (if is_queued_of number (verdict_taken d rows bridge cycle gates x) then counted_of d.overhead x.octets else 0)
  pub kept : AreKept (cycle + 1) gates → AreKept (cycle + 1) gates_after
  pub queued : ports_after ≡ map (with_verdict d x (verdict_taken d rows bridge cycle gates x)) ports
  pub dropped : drops_after ≡ drops ++ drop_by cycle bridge x (verdict_taken d rows bridge cycle gates x)
  pub not_lost : ¬ IsLoss (verdict_taken d rows bridge cycle gates x)

-- why no more frames are taken: a frame exceeds its gate, or an allocation failed
abbrev pub IsFaultByVerdict : Verdict → ℕ → BridgeFault → Type 0
IsFaultByVerdict verdict frame Spent = ⊥
IsFaultByVerdict verdict frame WrongCycle = ⊥
IsFaultByVerdict verdict frame StrangeBatch = ⊥
IsFaultByVerdict verdict frame (OverOctets over) = (verdict ≡ ExceedsGate) × (frame ≡ over)
IsFaultByVerdict verdict frame Memory = Unit {0}

-- the verdicts on frames of a cycle at a bridge, by the rows of the cycle's table
abbrev pub policed_by : Domain → List Row → ℕ → ℕ → List Received → List Policed
policed_by d rows bridge cycle frames = police_all d (replicate (cycle + 1) rows) bridge [] frames

-- the gates, the ports and the drops are the result of policing these frames of a cycle
pub record HasPoliced (d : Domain) (bridge cycle : ℕ) (ports_before : List PortRecord) (drops_before : List Dropped)
    (policed : List Policed) (gates : List KeptGate) (ports : List PortRecord) (drops : List Dropped) : Type 0 where
  pub counted : HaveCounted d cycle policed gates
  pub queued : ports ≡ map (λ (r : PortRecord). with_frames r (queued_to d r.link policed)) ports_before
  pub dropped : drops ≡ drops_before ++ dropped_of cycle bridge policed
  pub none_lost : (p : Policed) → Contains policed p → ¬ IsLoss p.verdict

-- why not all frames of a cycle are taken: one is the first that exceeds its gate, or an allocation failed
abbrev pub IsFaultByPoliced : List Policed → BridgeFault → Type 0
IsFaultByPoliced policed Spent = ⊥
IsFaultByPoliced policed WrongCycle = ⊥
IsFaultByPoliced policed StrangeBatch = ⊥
IsFaultByPoliced policed (OverOctets frame) = IsFirstOver policed frame
IsFaultByPoliced policed Memory = Unit {0}

-- all that arrives in a cycle is taken: each port gets what goes on by its link, nothing is lost, and the drops are by frame
pub record TakesCycle (run : Run) (bridge cycle : ℕ) (batches : List LinkBatch) (ports ports_after : List PortRecord) (drops : List Dropped) :
    Type 0 where
  pub queued : ports_after ≡ map (port_queued run (verdicts_in run bridge cycle batches)) ports
  pub none_lost : (p : Policed) → Contains (verdicts_in run bridge cycle batches) p → ¬ IsLoss p.verdict
  pub dropped : drops ≡ drops_in run.domain (length run.offers) (λ b. verdicts_in run b cycle batches) cycle bridge

-- why not all that arrives in a cycle is taken, in a run
abbrev pub IsFaultInRun : Run → ℕ → ℕ → List LinkBatch → BridgeFault → Type 0
IsFaultInRun run bridge cycle batches fault = IsFaultByPoliced (verdicts_in run bridge cycle batches) fault

-- a bridge with the gates that it keeps: if it isn't spent, each gate was last called before the cycle that is received next
pub record HasGates (b : BridgeState) (gates : List KeptGate) : Type 0 where
  pub bridge : IsBridge b
  pub gates_kept : b.spent ≡ false → AreKept b.received gates

-- what a bridge keeps in addition to its visible state: its gates, and the links that end in it, by number
pub record IsKept (b : BridgeState) (gates : List KeptGate) (incoming : List ℕ) : Type 0 where
  pub has_gates : HasGates b gates
  pub entering : incoming ≡ links_into b.domain b.number
