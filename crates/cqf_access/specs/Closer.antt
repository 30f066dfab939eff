-- A tighter promise at the edge bridge: frames of one stream that wait for each other do so in each interval.
use Rattle.std.specs.Prelude.{ℕ, ◌≡◌, ◌+◌, ◌-◌, ◌*◌, ◌<◌, ◌≤◌, ◌⊎◌, List, Some, Contains, slice_get}
use Rattle.cqf_units.specs.Timing.{idle_after}
use Rattle.cqf_model.specs.declared.frames.Offer.{Offer}
use Rattle.cqf_laws_timing.specs.Traffic.{Conforms, Traffic, most_frames}
use Rattle.cqf_access.specs.declared.edge.Delays.{Delays}
use Rattle.cqf_access.specs.Access.{AccessLink, AccessStream, Crossing, IsBound, IsSent, Other, promises_of, taken_of}
use Rattle.cqf_access.specs.Arriving.{AreArrivals, by_clock, longest_wait, spread_of}

-- a link sends one frame after the other: of two frames of a stream, one starts after the other's gap is over
abbrev pub AreInTurn : AccessLink → List Crossing → Type 0
AreInTurn link crossings = (i k : ℕ) (x y : Crossing) → i < k → slice_get crossings i ≡ Some x → slice_get crossings k ≡ Some y →
    (idle_after x.start x.frame.octets link.octet_time ≤ y.start) ⊎ (idle_after y.start y.frame.octets link.octet_time ≤ x.start)

-- by how much the wait of a frame of a stream can exceed that of another frame at the same position in its interval: by the longest wait,
-- less the time of the stream's frames that can come within a bound, except one, if each is a shortest one. The other frame waits for these
-- too
abbrev pub closer_wait : AccessLink → ℕ → ℕ → Traffic → ℕ
closer_wait link time shortest t = longest_wait link time t - (most_frames time t - 1) * taken_of link shortest

-- the stream's promise at the edge bridge with this difference in place of the longest wait
abbrev pub closer_at_edge : AccessLink → Delays → ℕ → ℕ → Traffic → Traffic
closer_at_edge link delays time shortest t = record {
  interval = t.interval;
  frames = t.frames;
  size = t.size;
  jitter = t.jitter + (closer_wait link time shortest t + spread_of link delays shortest t.size);
}

-- in any order in which the link sends, and with any delays of the frames, the talker keeps this promise there, by another clock
abbrev pub EdgeConformsCloserByClocks : Type 0
EdgeConformsCloserByClocks =
    (link : AccessLink) (streams : List AccessStream) (others : List Other) (delays : Delays) (time shortest sync : ℕ) (s : AccessStream)
    (arrived : List Offer) → IsSent link streams others → AreInTurn link s.crossings → IsBound link (promises_of streams) time → Contains streams s →
    ((x : Crossing) → Contains s.crossings x → shortest ≤ x.frame.octets) → AreArrivals link delays sync s.crossings arrived →
    Conforms (by_clock sync (closer_at_edge link delays time shortest s.promise)) arrived

-- the same if the clocks don't differ
abbrev pub EdgeConformsCloser : Type 0
EdgeConformsCloser =
    (link : AccessLink) (streams : List AccessStream) (others : List Other) (delays : Delays) (time shortest : ℕ) (s : AccessStream) (arrived : List Offer) →
    IsSent link streams others → AreInTurn link s.crossings → IsBound link (promises_of streams) time → Contains streams s →
    ((x : Crossing) → Contains s.crossings x → shortest ≤ x.frame.octets) → AreArrivals link delays 0 s.crossings arrived →
    Conforms (closer_at_edge link delays time shortest s.promise) arrived
