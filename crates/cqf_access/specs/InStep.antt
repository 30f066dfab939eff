-- Talkers in step: at the edge bridge all frames of an interval come within one cycle, by each clock that is possible there.
use Rattle.std.specs.Prelude.{ℕ, ◌≡◌, ◌+◌, ◌*◌, ◌%◌, ◌<◌, ◌≤◌, List, Contains}
use Rattle.cqf_units.specs.Timing.{cycle_at}
use Rattle.cqf_model.specs.declared.frames.Offer.{Offer}
use Rattle.cqf_laws_timing.specs.Traffic.{Traffic}
use Rattle.cqf_access.specs.declared.edge.Delays.{Delays}
use Rattle.cqf_access.specs.Access.{AccessLink, AccessStream, Crossing, IsBound, IsSent, Other, promises_of}
use Rattle.cqf_access.specs.Arriving.{AreArrivals, AreWithin, IsOnGrid, IsWholeAt, at_edge, edge_offset}

-- intervals are whole cycles. A frame that is late by the whole jitter comes in its cycle on the grid, even by a clock that differs by
-- `sync`: by no such clock does it come before that cycle begins or after it ends
pub record KeepsStep (cycle_time sync offset : ℕ) (t : Traffic) : Type 0 where
  pub some : 0 < cycle_time
  pub whole : t.interval % cycle_time ≡ 0
  pub early : sync ≤ offset % cycle_time
  pub late : offset % cycle_time + t.jitter + sync < cycle_time

-- if a stream keeps step at the edge bridge, by its grid and its promise there, each frame that is handed over on a grid keeps its cycle.
-- By each such clock it is whole at the edge bridge in the cycle in which its interval begins on the grid there
abbrev pub EdgeKeepsStep : Type 0
EdgeKeepsStep =
    (link : AccessLink) (streams : List AccessStream) (others : List Other) (delays : Delays) (time shortest offset cycle_time sync : ℕ) (s : AccessStream)
    (x : Crossing) (at reading : ℕ) → IsSent link streams others → IsBound link (promises_of streams) time → Contains streams s → Contains s.crossings x →
    shortest ≤ x.frame.octets → (grid : IsOnGrid offset s.promise.interval s.promise.jitter x.frame.at.0) → IsWholeAt link delays x at →
    KeepsStep cycle_time sync (edge_offset link delays shortest offset) (at_edge link delays time shortest s.promise) → AreWithin sync at reading →
    cycle_at cycle_time reading ≡ cycle_at cycle_time (edge_offset link delays shortest offset + grid.block * s.promise.interval)

-- all frames of a stream are handed over on a grid
abbrev pub AreOnGrid : ℕ → AccessStream → Type 0
AreOnGrid offset s = (x : Crossing) → Contains s.crossings x → IsOnGrid offset s.promise.interval s.promise.jitter x.frame.at.0

-- if, in addition, each interval is a multiple of `every` cycles long, all that arrives of the stream comes in every `every`-th cycle by
-- the edge bridge's clock, counted from the cycle in which its grid there begins
abbrev pub EdgeComesInActiveCycles : Type 0
EdgeComesInActiveCycles =
    (link : AccessLink) (streams : List AccessStream) (others : List Other) (delays : Delays) (time shortest offset cycle_time every sync : ℕ)
    (s : AccessStream) (arrived : List Offer) (a : Offer) → IsSent link streams others → IsBound link (promises_of streams) time →
    Contains streams s → ((x : Crossing) → Contains s.crossings x → shortest ≤ x.frame.octets) → AreOnGrid offset s →
    AreArrivals link delays sync s.crossings arrived →
    KeepsStep cycle_time sync (edge_offset link delays shortest offset) (at_edge link delays time shortest s.promise) →
    s.promise.interval % (every * cycle_time) ≡ 0 → Contains arrived a →
    cycle_at cycle_time a.at.0 % every ≡ cycle_at cycle_time (edge_offset link delays shortest offset) % every
