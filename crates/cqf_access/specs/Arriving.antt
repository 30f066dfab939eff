-- When frames of a talker's access link are whole at the edge bridge, and the promise that their stream keeps there.
use Rattle.std.specs.Prelude.{ℕ, ◌≡◌, ◌+◌, ◌-◌, ◌*◌, ◌/◌, ◌<◌, ◌≤◌, List, All, Some, Contains, length, slice_get}
use Rattle.cqf_units.specs.Timing.{ending_of}
use Rattle.cqf_model.specs.declared.frames.Offer.{Offer}
use Rattle.cqf_laws_timing.specs.Traffic.{Conforms, IsTraffic, Traffic}
use Rattle.cqf_access.specs.declared.edge.Delays.{Delays}
use Rattle.cqf_access.specs.Access.{AccessLink, AccessStream, Crossing, IsBound, IsSent, Other, promises_of, taken_of}

-- a frame is whole at the link's end one delay of the link after its last octet
pub record IsWholeAt (link : AccessLink) (delays : Delays) (x : Crossing) (at : ℕ) : Type 0 where
  pub least : ending_of x.start x.frame.octets link.octet_time + delays.least.0 ≤ at
  pub most : at ≤ ending_of x.start x.frame.octets link.octet_time + delays.most.0

-- the time from the hand-over of a frame that doesn't wait until it is whole at the edge bridge, given the link's delay and the frame's
-- octets: its transit time
abbrev pub travel_time : AccessLink → ℕ → ℕ → ℕ
travel_time link delay octets = ending_of 0 octets link.octet_time + delay

-- the longest wait of a frame of a stream
abbrev pub longest_wait : AccessLink → ℕ → Traffic → ℕ
longest_wait link time t = time - taken_of link t.size

-- a frame is whole, after its hand-over, no earlier than its shortest transit time, and no later than its longest transit time plus the
-- longest wait. And this is so for each frame
pub record IsWholeWithin (link : AccessLink) (delays : Delays) (time : ℕ) (t : Traffic) (x : Crossing) (at : ℕ) : Type 0 where
  pub least : x.frame.at.0 + travel_time link delays.least.0 x.frame.octets ≤ at
  pub most : at ≤ x.frame.at.0 + travel_time link delays.most.0 x.frame.octets + longest_wait link time t

abbrev pub FramesAreWholeWithin : Type 0
FramesAreWholeWithin =
    (link : AccessLink) (streams : List AccessStream) (others : List Other) (delays : Delays) (time : ℕ) (s : AccessStream) (x : Crossing) (at : ℕ) →
    IsSent link streams others → IsBound link (promises_of streams) time → Contains streams s → Contains s.crossings x → IsWholeAt link delays x at →
    IsWholeWithin link delays time s.promise x at

-- by how much the longest transit time of a largest frame exceeds the shortest transit time of a shortest frame
abbrev pub spread_of : AccessLink → Delays → ℕ → ℕ → ℕ
spread_of link delays shortest size = travel_time link delays.most.0 size - travel_time link delays.least.0 shortest

-- the stream's promise at the edge bridge, if none of its frames has fewer octets than `shortest`: the same, but a frame can be later by
-- the longest wait and by the spread of transit times
abbrev pub at_edge : AccessLink → Delays → ℕ → ℕ → Traffic → Traffic
at_edge link delays time shortest t = record {
  interval = t.interval;
  frames = t.frames;
  size = t.size;
  jitter = t.jitter + (longest_wait link time t + spread_of link delays shortest t.size);
}

-- an instant by two clocks that differ by at most `sync`
pub record AreWithin (sync one other : ℕ) : Type 0 where
  pub no_later : one ≤ other + sync
  pub no_sooner : other ≤ one + sync

-- the same promise by another clock: each frame can be early and late by as much as the clocks differ
abbrev pub by_clock : ℕ → Traffic → Traffic
by_clock sync t = record {
  interval = t.interval;
  frames = t.frames;
  size = t.size;
  jitter = t.jitter + 2 * sync;
}

-- what the edge bridge receives of a stream: some of the frames, each once, in the order in which they are whole by its clock. This clock
-- and the talker's differ by at most `sync`
pub record Arrives (link : AccessLink) (delays : Delays) (sync : ℕ) (crossings : List Crossing) (index : ℕ) (a : Offer) : Type 0 where
  pub crossing : Crossing
  pub there : slice_get crossings index ≡ Some crossing
  pub at : ℕ
  pub whole : IsWholeAt link delays crossing at
  pub clocks : AreWithin sync at a.at.0
  pub octets : a.octets ≡ crossing.frame.octets

pub record AreArrivals (link : AccessLink) (delays : Delays) (sync : ℕ) (crossings : List Crossing) (arrived : List Offer) : Type 0 where
  pub index : ℕ → ℕ
  pub each : (k : ℕ) (a : Offer) → slice_get arrived k ≡ Some a → Arrives link delays sync crossings (index k) a
  pub once : (i k : ℕ) → i < k → k < length arrived → index i ≡ index k → ⊥
  pub ordered : (i k : ℕ) (a b : Offer) → i ≤ k → slice_get arrived i ≡ Some a → slice_get arrived k ≡ Some b → a.at.0 ≤ b.at.0

-- in any order in which the link sends, and with any delays of the frames, the talker keeps a promise there: by another clock the one for
-- that clock, and the promise itself if the clocks don't differ
abbrev pub EdgeConformsByClocks : Type 0
EdgeConformsByClocks =
    (link : AccessLink) (streams : List AccessStream) (others : List Other) (delays : Delays) (time shortest sync : ℕ) (s : AccessStream)
    (arrived : List Offer) → IsSent link streams others → IsBound link (promises_of streams) time → Contains streams s →
    ((x : Crossing) → Contains s.crossings x → shortest ≤ x.frame.octets) → AreArrivals link delays sync s.crossings arrived →
    Conforms (by_clock sync (at_edge link delays time shortest s.promise)) arrived

abbrev pub EdgeConforms : Type 0
EdgeConforms =
    (link : AccessLink) (streams : List AccessStream) (others : List Other) (delays : Delays) (time shortest : ℕ) (s : AccessStream) (arrived : List Offer) →
    IsSent link streams others → IsBound link (promises_of streams) time → Contains streams s →
    ((x : Crossing) → Contains s.crossings x → shortest ≤ x.frame.octets) → AreArrivals link delays 0 s.crossings arrived →
    Conforms (at_edge link delays time shortest s.promise) arrived

-- an instant is on a grid, or late on it by at most the jitter; the grid has this interval, and begins at the offset
pub record IsOnGrid (offset interval jitter at : ℕ) : Type 0 where
  pub block : ℕ
  pub least : offset + block * interval ≤ at
  pub most : at ≤ offset + block * interval + jitter

-- if a stream is handed over on a grid, its grid at the edge bridge begins later by the shortest transit time of a shortest frame
abbrev pub edge_offset : AccessLink → Delays → ℕ → ℕ → ℕ
edge_offset link delays shortest offset = offset + travel_time link delays.least.0 shortest

-- each frame is whole on this grid, in the interval in which it was handed over
abbrev pub GridIsShifted : Type 0
GridIsShifted =
    (link : AccessLink) (streams : List AccessStream) (others : List Other) (delays : Delays) (time shortest offset : ℕ) (s : AccessStream) (x : Crossing)
    (at : ℕ) → IsSent link streams others → IsBound link (promises_of streams) time → Contains streams s → Contains s.crossings x →
    shortest ≤ x.frame.octets → (grid : IsOnGrid offset s.promise.interval s.promise.jitter x.frame.at.0) → IsWholeAt link delays x at →
    (edge : IsOnGrid (edge_offset link delays shortest offset) s.promise.interval (at_edge link delays time shortest s.promise).jitter at)
    × (edge.block ≡ grid.block)

-- frames that a talker hands over by a regular grid, in the order of their hand-overs. Each has its own place among the `frames` places of
-- an interval of the grid. It comes no earlier than its interval begins, and later by at most the jitter. Frames of later intervals may
-- overtake it
pub record AreByGrid (offset : ℕ) (t : Traffic) (sent : List Offer) : Type 0 where
  pub index : ℕ → ℕ
  pub once : (i k : ℕ) → i < k → k < length sent → index i ≡ index k → ⊥
  pub least : (k : ℕ) (a : Offer) → slice_get sent k ≡ Some a → offset + index k / t.frames * t.interval ≤ a.at.0
  pub most : (k : ℕ) (a : Offer) → slice_get sent k ≡ Some a → a.at.0 ≤ offset + index k / t.frames * t.interval + t.jitter
  pub sizes : All (λ (a : Offer). a.octets ≤ t.size) sent
  pub ordered : (i k : ℕ) (a b : Offer) → i ≤ k → slice_get sent i ≡ Some a → slice_get sent k ≡ Some b → a.at.0 ≤ b.at.0

-- a talker that hands frames over by a regular grid keeps its promise at the hand-over
abbrev pub GridsConform : Type 0
GridsConform = (offset : ℕ) (t : Traffic) (sent : List Offer) → IsTraffic t → AreByGrid offset t sent → Conforms t sent

-- each frame of such a talker is on the grid
abbrev pub GridsAreKept : Type 0
GridsAreKept = (offset : ℕ) (t : Traffic) (sent : List Offer) (a : Offer) → AreByGrid offset t sent → Contains sent a →
    IsOnGrid offset t.interval t.jitter a.at.0
