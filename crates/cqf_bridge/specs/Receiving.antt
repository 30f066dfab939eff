-- The receive phase of a cycle: the frames that arrive at a bridge, the verdicts on them, and why a bridge refuses the cycle.
use Rattle.std.specs.Prelude.{ℕ, ◌≡◌, ◌+◌, ◌==◌, List, [], if◌then◌else◌, false, true, length, map, slice_get, take, Contains, Some}
use Rattle.std.specs.List.{flat_map}
use Rattle.cqf_model.specs.declared.frames.Dropped.{Dropped}
use Rattle.cqf_model.specs.declared.frames.Offered.{Offered}
use Rattle.cqf_model.specs.declared.frames.Sent.{Sent}
use Rattle.cqf_model.specs.declared.topology.Row.{Row}
use Rattle.cqf_model.specs.Book.{drops_in}
use Rattle.cqf_model.specs.Domain.{Domain, cycle_of}
use Rattle.cqf_model.specs.Network.{IsLoss, queued_to}
use Rattle.cqf_model.specs.Run.{AreOffers, Run}
use Rattle.cqf_model.specs.Table.{goes_on, row_of, table_of}
use Rattle.cqf_model.specs.Policing.{Carried, ExceedsGate, Policed, whole_at}
use Rattle.cqf_laws_cycle.specs.BridgeCycle.{policed_in}
use Rattle.cqf_laws_cycle.specs.Gathered.{offered_for}
use Rattle.cqf_agenda.specs.Links.{links_into}
use Rattle.cqf_bridge.specs.declared.faults.BridgeFault.{BridgeFault}
use Rattle.cqf_bridge.specs.declared.faults.BridgeFault.TheVariants.{Spent, WrongCycle, StrangeBatch, OverOctets, Memory}
use Rattle.cqf_bridge.specs.Batch.{LinkBatch}
use Rattle.cqf_bridge.specs.PortRecord.{PortRecord, with_frames}
use Rattle.cqf_bridge.specs.BridgeState.{BridgeState, IsSpentBy}

-- the frames of the batches, link by link
abbrev pub carried_by : List LinkBatch → Carried
carried_by batches link = flat_map (λ (b : LinkBatch). if b.link == link then b.frames else []) batches

-- a frame may arrive at a bridge by a link in a cycle: the table has its stream's row, the row's tree goes on from this bridge after the
-- link, and the frame is whole here within the cycle
pub record MayCome (d : Domain) (bridge cycle : ℕ) (rows : List Row) (link : ℕ) (sent : Sent) : Type 0 where
  pub row : Row
  pub known : row_of rows sent.stream ≡ Some row
  pub leads_on : goes_on d row (Some link) bridge ≡ true
  pub in_time : cycle_of d (whole_at d link sent) ≡ cycle

-- the batches of a bridge in a cycle: one for each link that ends in it, by number, each of the cycle and with frames that may arrive
pub record AreBatchesOf (d : Domain) (bridge cycle : ℕ) (rows : List Row) (batches : List LinkBatch) : Type 0 where
  pub one_each : map (λ (b : LinkBatch). b.link) batches ≡ links_into d bridge
  pub of_cycle : (b : LinkBatch) → Contains batches b → b.cycle ≡ cycle
  pub frames : (b : LinkBatch) (sent : Sent) → Contains batches b → Contains b.frames sent → MayCome d bridge cycle rows b.link sent

-- a run that contains the call: of the bridge's domain, with the call's table in the cycle, and with the call's offers as those at the
-- bridge in the cycle
pub record IsRunOfBridge (d : Domain) (bridge cycle : ℕ) (rows : List Row) (offers : List Offered) (run : Run) : Type 0 where
  pub domain : run.domain ≡ d
  pub table : table_of run.tables cycle ≡ rows
  pub good : AreOffers d run.offers
  pub here : offered_for d run.offers bridge cycle ≡ offers

-- the verdicts on the frames that arrive at a bridge in a cycle, in the order in which it takes them. Frames of earlier cycles don't
-- matter, since a stream's gate counts each cycle anew
abbrev pub verdicts_in : Run → ℕ → ℕ → List LinkBatch → List Policed
verdicts_in run bridge cycle batches = policed_in run (carried_by batches) bridge cycle []

-- a port with the frames that are queued to it
abbrev pub port_queued : Run → List Policed → PortRecord → PortRecord
port_queued run policed r = with_frames r (queued_to run.domain r.link policed)

-- the bridge receives a cycle: each port gets what goes on by its link, nothing is lost inside, and every other offer is dropped, by frame
pub record ReceivesCycle (run : Run) (before after : BridgeState) (cycle : ℕ) (batches : List LinkBatch) (dropped : List Dropped) : Type 0 where
  pub bridge : after ≡ record {
    domain = before.domain;
    number = before.number;
    sent = before.sent;
    received = before.received + 1;
    spent = false;
    ports = map (port_queued run (verdicts_in run before.number cycle batches)) before.ports;
    background = before.background;
  }
  pub none_lost : (p : Policed) → Contains (verdicts_in run before.number cycle batches) p → ¬ IsLoss p.verdict
  pub drops : dropped ≡ drops_in run.domain (length run.offers) (λ bridge. verdicts_in run bridge cycle batches) cycle before.number

-- the cycle was sent and not yet received, and the table is of this cycle
abbrev pub IsNextToReceive : BridgeState → ℕ → ℕ → Type 0
IsNextToReceive b cycle table_cycle = (cycle ≡ b.received) × (b.sent ≡ b.received + 1) × (table_cycle ≡ cycle)

-- the frame is the first, in the order in which frames are taken, that arrived by a link and exceeds the octets that its stream's gate has
-- left
pub record IsFirstOver (policed : List Policed) (frame : ℕ) : Type 0 where
  pub index : ℕ
  pub over : Policed
  pub there : slice_get policed index ≡ Some over
  pub exceeds : over.verdict ≡ ExceedsGate
  pub is_frame : over.received.frame ≡ frame
  pub first : (p : Policed) → Contains (take index policed) p → ¬ (p.verdict ≡ ExceedsGate)

-- what a bridge is given with a cycle: the table's cycle and rows, and the batches
pub record Handed : Type 0 where
  pub table_cycle : ℕ
  pub rows : List Row
  pub batches : List LinkBatch

-- the bridge may receive the cycle, by its own state and the table's cycle
pub record MayReceive (b : BridgeState) (cycle : ℕ) (handed : Handed) : Type 0 where
  pub not_spent : b.spent ≡ false
  pub next : IsNextToReceive b cycle handed.table_cycle

-- the bridge may receive the cycle, and the batches are those of the cycle
pub record CanReceive (b : BridgeState) (cycle : ℕ) (handed : Handed) : Type 0 where
  pub may : MayReceive b cycle handed
  pub batches : AreBatchesOf b.domain b.number cycle handed.rows handed.batches

-- why a cycle isn't received, and the state afterwards: each cause is the first that applies. But memory may be refused before a frame that
-- is over its octets is reached
abbrev pub IsReceiveFault : Run → BridgeState → BridgeState → ℕ → Handed → BridgeFault → Type 0
IsReceiveFault run before after cycle handed Spent = (before.spent ≡ true) × (after ≡ before)
IsReceiveFault run before after cycle handed WrongCycle =
    (before.spent ≡ false) × (¬ IsNextToReceive before cycle handed.table_cycle) × (after ≡ before)
IsReceiveFault run before after cycle handed StrangeBatch =
    MayReceive before cycle handed × (¬ AreBatchesOf before.domain before.number cycle handed.rows handed.batches) × (after ≡ before)
IsReceiveFault run before after cycle handed (OverOctets frame) =
    CanReceive before cycle handed × IsFirstOver (verdicts_in run before.number cycle handed.batches) frame × IsSpentBy before after
IsReceiveFault run before after cycle handed Memory = CanReceive before cycle handed × IsSpentBy before after
