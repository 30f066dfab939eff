-- Laws that say exactly what has arrived at a bridge and at a port, and in which order, in a planner's words. IEEE Std 802.1Q,
-- Annex T, gives the cycle in which a frame is received and the cycle in which it waits; the rest is this project's own rule.
use Rattle.std.specs.Prelude.{ℕ, ◌≡◌, ◌≢◌, ◌+◌, ◌*◌, ◌<◌, ◌≤◌, ◌⊎◌, List, Some, None, map, slice_get, AllPairs, Contains}
use Rattle.cqf_units.specs.Timing.{time_of}
use Rattle.cqf_model.specs.declared.frames.Background.{Background}
use Rattle.cqf_model.specs.declared.frames.Offer.{Offer}
use Rattle.cqf_model.specs.declared.frames.Sent.{Sent}
use Rattle.cqf_model.specs.declared.topology.Node.TheVariants.{Bridge}
use Rattle.cqf_model.specs.declared.topology.Row.{Row}
use Rattle.cqf_model.specs.Domain.{Domain, bridge_of, cycle_of, delay_of, end_of, octet_time_of}
use Rattle.cqf_model.specs.Network.{QueuedFrame, comes_before}
use Rattle.cqf_model.specs.Run.{Run}
use Rattle.cqf_model.specs.Table.{goes_to}
use Rattle.cqf_model.specs.Policing.{AtEdge, Carried, Policed, Queued, Received, Relayed, came_by, policed_before, received_before}
use Rattle.cqf_laws_cycle.specs.Compiled.{given_class}

-- ---- a bridge

-- where a frame that arrives at a bridge comes from: a link, with the index among the frames that the link carries, or the run's
-- offers, with the index among these
pub data Source : Type 0 where
  OfLink : ℕ → ℕ → Source
  OfOffers : ℕ → Source

-- a frame of a link that ends in the bridge arrives there when 8 octets of preamble and start delimiter and its own octets have
-- been sent and the link's delay has passed: start + the time of (octets + 8) octets + delay, in nanoseconds
pub record ComesByLink (run : Run) (carried : Carried) (bridge link index : ℕ) (x : Received) : Type 0 where
  pub sent : Sent
  pub is_carried : slice_get (carried link) index ≡ Some sent
  pub ends_here : end_of run.domain link ≡ Some (Bridge bridge)
  pub instant : x.at ≡ sent.start.0 + time_of (sent.octets + 8) (octet_time_of run.domain link) + delay_of run.domain link
  pub octets : x.octets ≡ sent.octets
  pub frame : x.frame ≡ sent.frame
  pub ingress : x.ingress ≡ Relayed link sent.stream

-- an offer at the bridge arrives at its own instant. Its frame's number is its position among the offers, from 1
pub record ComesOfOffer (run : Run) (bridge index : ℕ) (x : Received) : Type 0 where
  pub offer : Offer
  pub is_there : slice_get run.offers index ≡ Some offer
  pub offered_here : offer.bridge ≡ bridge
  pub instant : x.at ≡ offer.at.0
  pub octets : x.octets ≡ offer.octets
  pub frame : x.frame ≡ index + 1
  pub ingress : x.ingress ≡ AtEdge offer.stream

-- a frame arrives at a bridge from a source
abbrev pub Comes : Run → Carried → ℕ → Source → Received → Type 0
Comes run carried bridge (OfLink link index) x = ComesByLink run carried bridge link index x
Comes run carried bridge (OfOffers index) x = ComesOfOffer run bridge index x

-- the order of two sources at one instant: links come first, by number, the frames of one link by index; then the offers by index
abbrev pub IsSourceBefore : Source → Source → Type 0
IsSourceBefore (OfLink l i) (OfLink m j) = (l < m) ⊎ ((l ≡ m) × (i < j))
IsSourceBefore (OfLink l i) (OfOffers j) = Unit {0}
IsSourceBefore (OfOffers i) (OfLink m j) = ⊥
IsSourceBefore (OfOffers i) (OfOffers j) = i < j

-- a frame that has arrived, with its source
pub record Came : Type 0 where
  pub source : Source
  pub received : Received

-- a arrives earlier than b, or at the same instant from an earlier source
abbrev pub CameBefore : Came → Came → Type 0
CameBefore a b = (a.received.at < b.received.at) ⊎ ((a.received.at ≡ b.received.at) × IsSourceBefore a.source b.source)

-- these frames are exactly those that have arrived at a bridge before an instant: each arrives from its source early enough, each
-- frame that arrives from a source early enough is among them, no source occurs twice, and they are ordered by instant, then by
-- source
pub record AreAllThatCome (run : Run) (carried : Carried) (bridge end : ℕ) (received : List Received) : Type 0 where
  pub came : List Came
  pub are : received ≡ map (λ (c : Came). c.received) came
  pub no_others : (c : Came) → Contains came c → Comes run carried bridge c.source c.received × (c.received.at < end)
  pub all : (source : Source) (x : Received) → Comes run carried bridge source x → x.at < end →
      Contains came (record { source = source; received = x })
  pub once : AllPairs (λ (a b : Came). a.source ≢ b.source) came
  pub in_order : AllPairs CameBefore came

-- a bridge receives, before an instant, exactly what has arrived at it before that instant
abbrev pub BridgesReceiveWhatComes : Type 0
BridgesReceiveWhatComes = (run : Run) (carried : Carried) (bridge end : ℕ) → AreAllThatCome run carried bridge end (received_before run carried bridge end)

-- there is one verdict on each frame that a bridge receives, in the same order
abbrev pub VerdictsAreOnWhatComes : Type 0
VerdictsAreOnWhatComes = (run : Run) (carried : Carried) (bridge end : ℕ) →
    map (λ (p : Policed). p.received) (policed_before run carried bridge end) ≡ received_before run carried bridge end

-- ---- a port

-- where a frame that arrives at a port comes from: the run's background frames, with the index among these, or the port's bridge,
-- with the index among all frames that the bridge has received
pub data Origin : Type 0 where
  OfBackground : ℕ → Origin
  OfBridge : ℕ → Origin

-- a background frame of the port's link arrives at its own instant, with its own class. Its number is its position among the
-- background frames, from 1
pub record ComesOfBackground (run : Run) (l index : ℕ) (q : QueuedFrame) : Type 0 where
  pub background : Background
  pub is_there : slice_get run.background index ≡ Some background
  pub on_link : background.link ≡ l
  pub instant : q.arrival.at ≡ background.at
  pub class : q.arrival.class ≡ background.class
  pub octets : q.arrival.octets ≡ background.octets
  pub frame : q.arrival.frame ≡ index + 1
  pub of_no_stream : q.stream ≡ None

-- a frame that its bridge received goes on with its stream's row, which leads to the port's link from the link by which the frame came, or
-- from the edge. It arrives at the port when it arrived at the bridge, with the class that the stream gates give in that cycle
pub record ComesThroughBridge (run : Run) (carried : Carried) (l end index : ℕ) (q : QueuedFrame) : Type 0 where
  pub policed : Policed
  pub is_received : slice_get (policed_before run carried (bridge_of run.domain l) end) index ≡ Some policed
  pub row : Row
  pub with_row : policed.verdict ≡ Queued row
  pub by_link : Contains (goes_to row (came_by policed.received.ingress)) l
  pub instant : q.arrival.at.0 ≡ policed.received.at
  pub class : q.arrival.class ≡ given_class (cycle_of run.domain policed.received.at)
  pub octets : q.arrival.octets ≡ policed.received.octets
  pub frame : q.arrival.frame ≡ policed.received.frame
  pub of_stream : q.stream ≡ Some row.no

-- a frame arrives at a port from an origin, if its bridge has received frames up to the instant `end`
abbrev pub ComesToPort : Run → Carried → ℕ → ℕ → Origin → QueuedFrame → Type 0
ComesToPort run carried l end (OfBackground index) q = ComesOfBackground run l index q
ComesToPort run carried l end (OfBridge index) q = ComesThroughBridge run carried l end index q

-- a frame that has arrived at a port, with its origin
pub record CameToPort : Type 0 where
  pub origin : Origin
  pub queued : QueuedFrame

-- the instant at which it arrived
abbrev pub came_at : CameToPort → ℕ
came_at c = c.queued.arrival.at.0

-- the order of two frames of one cycle: background frames come first, by instant and then by index; then the streams' frames, in
-- the order in which the bridge received them
abbrev pub IsOriginBefore : Origin → ℕ → Origin → ℕ → Type 0
IsOriginBefore (OfBackground i) s (OfBackground j) t = (s < t) ⊎ ((s ≡ t) × (i < j))
IsOriginBefore (OfBackground i) s (OfBridge j) t = Unit {0}
IsOriginBefore (OfBridge i) s (OfBackground j) t = ⊥
IsOriginBefore (OfBridge i) s (OfBridge j) t = i < j

-- a arrives in an earlier cycle than b, or is earlier in the order of the same cycle
abbrev pub StandsBefore : Domain → CameToPort → CameToPort → Type 0
StandsBefore d a b =
    (cycle_of d (came_at a) < cycle_of d (came_at b))
    ⊎ ((cycle_of d (came_at a) ≡ cycle_of d (came_at b)) × IsOriginBefore a.origin (came_at a) b.origin (came_at b))

-- frames of one kind: both are of streams, or both are background frames
abbrev pub AreOfOneKind : Origin → Origin → Type 0
AreOfOneKind (OfBackground i) (OfBackground j) = Unit {0}
AreOfOneKind (OfBackground i) (OfBridge j) = ⊥
AreOfOneKind (OfBridge i) (OfBackground j) = ⊥
AreOfOneKind (OfBridge i) (OfBridge j) = Unit {0}

-- these frames are exactly those that have arrived at a port in the first cycles: each arrives from its origin early enough, each
-- frame that arrives from an origin early enough is among them, no origin occurs twice, and they are in the order of
-- `StandsBefore`. Frames of one kind are ordered by instant. So frames of one class are as well, since no background frame of a run
-- has a class of streams
pub record AreAllThatComeToPort (run : Run) (carried : Carried) (l cycles : ℕ) (queued : List QueuedFrame) : Type 0 where
  pub came : List CameToPort
  pub are : queued ≡ map (λ (c : CameToPort). c.queued) came
  pub no_others : (c : CameToPort) → Contains came c →
      ComesToPort run carried l (cycles * run.domain.cycle_time) c.origin c.queued × (came_at c < cycles * run.domain.cycle_time)
  pub all : (origin : Origin) (q : QueuedFrame) → ComesToPort run carried l (cycles * run.domain.cycle_time) origin q →
      q.arrival.at.0 < cycles * run.domain.cycle_time → Contains came (record { origin = origin; queued = q })
  pub once : AllPairs (λ (a b : CameToPort). a.origin ≢ b.origin) came
  pub in_order : AllPairs (StandsBefore run.domain) came
  pub by_instant : AllPairs (λ (a b : CameToPort). AreOfOneKind a.origin b.origin → came_at a ≤ came_at b) came

-- a port gets, in the first cycles, exactly what has arrived at it in these cycles
abbrev pub PortsGetWhatComes : Type 0
PortsGetWhatComes = (run : Run) (carried : Carried) (l cycles : ℕ) → 0 < run.domain.cycle_time →
    AreAllThatComeToPort run carried l cycles (comes_before run carried l cycles)
