-- Which of the frames that arrive at a bridge in a cycle are queued to a link, decided for each frame alone, without the gates and
-- without the frames before it.
use Rattle.cqf_model.specs.Table.{reserved_in}
use Rattle.std.specs.Prelude.{ℕ, ◌≡◌, ◌↔◌, ◌<◌, ◌==◌, ◌&&◌, Bool, false, if◌then◌else◌, nat_le, List, [], ◌∷◌, Contains, Option, Some, None, filter, length}
use Rattle.std.specs.List.{flat_map, list_any}
use Rattle.std.specs.List.Sorted.{IsPermutation}
use Rattle.cqf_model.specs.declared.frames.Offered.{Offered}
use Rattle.cqf_model.specs.declared.topology.Row.{Row}
use Rattle.cqf_model.specs.Domain.{Domain, bridge_of, cycle_of}
use Rattle.cqf_model.specs.Network.{Network, QueuedFrame, queued_frame, queued_in}
use Rattle.cqf_model.specs.Run.{Run}
use Rattle.cqf_model.specs.Shift.{IsCovered, asked_with, offer_cycle, row_for}
use Rattle.cqf_model.specs.Table.{begins_at, goes_to, is_live, row_of, table_of}
use Rattle.cqf_model.specs.Policing.{AtEdge, Carried, Ingress, Received, Relayed, came_by, numbered}
use Rattle.cqf_laws_shift.specs.Run.{IsLegalRun}
use Rattle.cqf_laws_cycle.specs.BridgeCycle.{received_in}
use Rattle.cqf_laws_cycle.specs.Gathered.{gathered_in}
use Rattle.cqf_laws_instants.specs.TakenLaws.{AreItsBatches, StandAsTaken}

-- whether a row that an offer names covers it: the row is live, begins at the offer's bridge and has the octets left
abbrev pub covers : Run → Offered → Row → Bool
covers run x row =
    is_live row (offer_cycle run.domain x)
    && (begins_at run.domain row x.offer.bridge && nat_le (asked_with run.domain run.offers x row) (reserved_in row 0 (offer_cycle run.domain x)))

-- the row, if it passes a test
abbrev pub if_passes : (Row → Bool) → Option Row → Option Row
if_passes test None = None
if_passes test (Some row) = if test row then Some row else None

-- the row that covers an offer
abbrev pub covering : Run → Offered → Option Row
covering run x = if_passes (covers run x) (row_for run.domain run.tables x)

-- `covering` finds exactly the row that covers the offer in the sense of the shift
abbrev pub CoveringCovers : Type 0
CoveringCovers = (run : Run) (x : Offered) (row : Row) → Contains (numbered run.offers) x → covering run x ≡ Some row ↔ IsCovered run x row

-- a frame at the edge of a bridge, as an offer
abbrev pub offered_as : ℕ → Received → List ℕ → Offered
offered_as bridge x name =
    record { frame = x.frame; offer = record { at = record { 0 = x.at }; bridge = bridge; stream = name; octets = x.octets } }

-- the row with which a frame goes on from a bridge: for an offer the one that covers it, for a frame that a link brought the one of
-- its stream's number in the table of the cycle
abbrev pub row_with_name : Run → ℕ → Received → Ingress → Option Row
row_with_name run bridge x (AtEdge name) = covering run (offered_as bridge x name)
row_with_name run bridge x (Relayed m number) = row_of (table_of run.tables (cycle_of run.domain x.at)) number

-- whether it goes on by a link with such a row
abbrev pub goes_with : ℕ → Ingress → Option Row → Bool
goes_with l ingress None = false
goes_with l ingress (Some row) = list_any (λ next. next == l) (goes_to row (came_by ingress))

-- whether a frame at the bridge that a link leaves goes on by that link
abbrev pub goes_by : Run → ℕ → Received → Bool
goes_by run l x = goes_with l x.ingress (row_with_name run (bridge_of run.domain l) x x.ingress)

-- the frame as the link's port sees it
abbrev pub queued_with : Domain → Received → Option Row → List QueuedFrame
queued_with d x None = []
queued_with d x (Some row) = queued_frame d x row ∷ []

-- what a frame adds to the queue of a link's port
abbrev pub following : Run → ℕ → Received → List QueuedFrame
following run l x =
    if goes_by run l x then queued_with run.domain x (row_with_name run (bridge_of run.domain l) x x.ingress) else []

-- in a legal run, a cycle queues to a link exactly those of its bridge's frames that go on by it, in order of arrival
abbrev pub WhatACycleQueues : Type 0
WhatACycleQueues = (run : Run) (net : Network) (l cycle : ℕ) → IsLegalRun run net → cycle < length run.tables →
    queued_in run net.carried l cycle ≡ flat_map (following run l) (received_in run net.carried (bridge_of run.domain l) cycle)

-- so the gathered frames that go on by it, sorted in any way that keeps this order, are what the cycle queues
abbrev pub SortedIsQueued : Type 0
SortedIsQueued = (run : Run) (net : Network) (l cycle : ℕ) (batches : Carried) (sorted : List Received) →
    IsLegalRun run net → cycle < length run.tables → AreItsBatches run net (bridge_of run.domain l) cycle batches →
    IsPermutation (filter (goes_by run l) (gathered_in run batches (bridge_of run.domain l) cycle)) sorted → StandAsTaken sorted →
    queued_in run net.carried l cycle ≡ flat_map (following run l) sorted
