-- What is promised of the network of a run and of its book, cycle by cycle.
use Rattle.std.specs.Prelude.{None, ℕ, ◌≡◌, ◌≢◌, ◌+◌, ◌*◌, ◌<◌, ◌≤◌, List, length, sum_by, AllPairs, Contains, if◌then◌else◌, ◌==◌}
use Rattle.cqf_units.specs.Timing.{wire_of}
use Rattle.cqf_model.specs.declared.frames.Dropped.{Dropped}
use Rattle.cqf_model.specs.declared.frames.Offered.{Offered}
use Rattle.cqf_model.specs.declared.frames.Sent.{Sent}
use Rattle.cqf_model.specs.declared.frames.Started.{Started}
use Rattle.cqf_model.specs.Book.{Contents}
use Rattle.cqf_model.specs.Domain.{Domain, cycle_of, octet_time_of, budget}
use Rattle.cqf_model.specs.Network.{IsLost, QueuedFrame, arrivals_of, queued_before, sent_of}
use Rattle.cqf_model.specs.Run.{Run, end_of_run}
use Rattle.cqf_model.specs.Shift.{InShift, IsCovered, IsUncovered, offer_cycle}
use Rattle.cqf_model.specs.Table.{table_of, link_cost}
use Rattle.cqf_model.specs.Policing.{Carried, Policed, Verdict, Queued, DroppedFor, LacksRow, ExceedsGate, came_by, numbered, offer_received}
use Rattle.cqf_model.specs.Policing.{policed_before, whole_at}
use Rattle.cqf_model.specs.Due.{due, cycle_of_index}

-- the verdict that an offer must get: if it is covered, it goes on with the row that covers it; otherwise it is dropped for the first
-- reason that applies
abbrev pub IsDecided : Run → Offered → Verdict → Type 0
IsDecided run x (Queued row) = IsCovered run x row
IsDecided run x (DroppedFor reason) = IsUncovered run x reason
IsDecided run x LacksRow = ⊥
IsDecided run x ExceedsGate = ⊥

-- the offer arrives at its bridge before the end, the gates there give it this verdict, and the verdict is the one it must get
pub record IsPolicedAs (run : Run) (carried : Carried) (end : ℕ) (x : Offered) (verdict : Verdict) : Type 0 where
  pub come : Contains (policed_before run carried x.offer.bridge end) (record { received = offer_received x; verdict = verdict })
  pub decided : IsDecided run x verdict

-- the frame leaves on the link in the cycle
pub record LeavesIn (d : Domain) (carried : Carried) (frame link cycle : ℕ) : Type 0 where
  pub sent : Sent
  pub is_sent : Contains (carried link) sent
  pub is_frame : sent.frame ≡ frame
  pub is_cycle : cycle_of d sent.start.0 ≡ cycle

-- the frame leaves on the link as one of the streams' frames that were queued to it, in its turn: in the cycle after the one in which it
-- was queued, when those that came before it in that cycle have left
pub record LeavesInTurn (d : Domain) (link : ℕ) (queued : List QueuedFrame) (sent : Sent) : Type 0 where
  pub index : ℕ
  pub in_queue : index < length queued
  pub start : sent.start.0 ≡ due d.cycle_time (octet_time_of d link) (arrivals_of queued) index
  pub is : Contains (sent_of queued (index, sent.start.0)) sent
  pub cycle : cycle_of d sent.start.0 ≡ cycle_of_index d.cycle_time (arrivals_of queued) index + 1

-- the octets of the wire that a link's streams' frames take in a cycle
abbrev pub wire_in_cycle : Domain → Carried → ℕ → ℕ → ℕ
wire_in_cycle d carried link cycle = sum_by (λ (sent : Sent). if cycle_of d sent.start.0 == cycle then wire_of sent.octets else 0) (carried link)

-- a run's links carry the streams' frames of its shift. `heard` is what the nodes at the links' ends hear, each by its own clock (see `Loose`)
pub record MeansTheShiftAs (run : Run) (carried heard : Carried) : Type 0 where
  -- the gates at the edge pass exactly the offers that are covered, and drop each other offer for the reason that applies
  pub edge : (x : Offered) → Contains (numbered run.offers) x → offer_cycle run.domain x < length run.tables →
      (verdict : Verdict) × IsPolicedAs run heard (end_of_run run) x verdict
  -- nothing else arrives at the edge: each frame that came by no link is one of the offers at this bridge, with its verdict
  pub edge_only : (bridge : ℕ) (p : Policed) → Contains (policed_before run heard bridge (end_of_run run)) p → came_by p.received.ingress ≡ None →
      (x : Offered) × (x.offer.bridge ≡ bridge) × (offer_received x ≡ p.received) × IsDecided run x p.verdict
  -- the frames leave as the shift says, each once
  pub only : (frame link cycle : ℕ) → LeavesIn run.domain carried frame link cycle → InShift run (length run.tables) frame link cycle
  pub each : (frame link cycle : ℕ) → InShift run (length run.tables) frame link cycle → LeavesIn run.domain carried frame link cycle
  pub once : (link : ℕ) (a b : Sent) → Contains (carried link) a → Contains (carried link) b → a.frame ≡ b.frame → a ≡ b
  -- so no frame is on a link twice: the numbers of any two frames that a link carries differ
  pub apart : (link : ℕ) → AllPairs (λ (a b : Sent). a.frame ≢ b.frame) (carried link)
  -- each frame has the octets of the offer with its number
  pub octets : (link : ℕ) (sent : Sent) (x : Offered) → Contains (carried link) sent → Contains (numbered run.offers) x →
      sent.frame ≡ x.frame → sent.octets ≡ x.offer.octets
  -- nothing is lost inside
  pub none_lost : (bridge : ℕ) (policed : Policed) → ¬ IsLost run heard (length run.tables) bridge policed
  -- a link's streams' frames take no more in a cycle than the streams held in it cost, and that is within the link's budget
  pub loads : (link cycle : ℕ) → link < length run.domain.links → cycle < length run.tables →
      wire_in_cycle run.domain carried link cycle ≤ link_cost (table_of run.tables cycle) link cycle
  pub costs : (link cycle active_cycle : ℕ) → link < length run.domain.links → link_cost (table_of run.tables cycle) link active_cycle ≤ budget run.domain link
  -- each frame starts after those that came before it in their cycle, and is whole in the next node, by that node's clock, in the cycle of
  -- its start
  pub in_turn : (link : ℕ) (sent : Sent) → Contains (carried link) sent →
      LeavesInTurn run.domain link (queued_before run heard link (end_of_run run)) sent
  pub whole : (link : ℕ) (sent h : Sent) → Contains (carried link) sent → Contains (heard link) h → h.frame ≡ sent.frame →
      cycle_of run.domain (whole_at run.domain link h) ≡ cycle_of run.domain sent.start.0
  -- after a link with hop number k, a frame is whole in the next node more than k - 1 and less than k + 1 cycle times after its offer's instant
  pub latency : (link : ℕ) (sent h : Sent) → Contains (carried link) sent → Contains (heard link) h → h.frame ≡ sent.frame →
      (shift : InShift run (length run.tables) sent.frame link (cycle_of run.domain sent.start.0)) →
      (shift.x.offer.at.0 + shift.hop_number * run.domain.cycle_time < whole_at run.domain link h + run.domain.cycle_time)
      × (whole_at run.domain link h < shift.x.offer.at.0 + (shift.hop_number + 1) * run.domain.cycle_time)

-- the same if all nodes have the same clock and each link has its stated delay, so that what is heard is what is sent
abbrev pub MeansTheShift : Run → Carried → Type 0
MeansTheShift run carried = MeansTheShiftAs run carried carried

-- the drop is of an offer of the run that isn't covered, at its bridge, in its cycle, for the first reason that applies
pub record IsOfUncovered (run : Run) (dropped : Dropped) : Type 0 where
  pub x : Offered
  pub uncovered : IsUncovered run x dropped.reason
  pub within_run : dropped.cycle.0 < length run.tables
  pub cycle : dropped.cycle.0 ≡ offer_cycle run.domain x
  pub bridge : dropped.bridge ≡ x.offer.bridge
  pub frame : dropped.frame ≡ x.frame
  pub octets : dropped.octets ≡ x.offer.octets

-- the starts are exactly those of the shift, each once, and the drops are exactly the offers that aren't covered, each once
pub record SaysTheShift (run : Run) (book : Contents) : Type 0 where
  pub only : (s : Started) → Contains book.starts s → InShift run (length run.tables) s.frame s.link s.cycle.0
  pub each : (frame link cycle : ℕ) → InShift run (length run.tables) frame link cycle →
      (s : Started) × Contains book.starts s × (s.frame ≡ frame) × (s.link ≡ link) × (s.cycle.0 ≡ cycle)
  pub only_drops : (x : Dropped) → Contains book.drops x → IsOfUncovered run x
  pub each_drop : (x : Dropped) → IsOfUncovered run x → Contains book.drops x
  -- no frame is on a link twice: any two starts are of different frames or on different links
  pub once_each : AllPairs (λ (a b : Started). a.frame ≡ b.frame → a.link ≢ b.link) book.starts
  -- each start has the octets of the offer with its number
  pub octets : (s : Started) (x : Offered) → Contains book.starts s → Contains (numbered run.offers) x → s.frame ≡ x.frame →
      s.octets ≡ x.offer.octets
  -- no offer is dropped twice: any two drops are of different frames
  pub once_dropped : AllPairs (λ (a b : Dropped). a.frame ≢ b.frame) book.drops
