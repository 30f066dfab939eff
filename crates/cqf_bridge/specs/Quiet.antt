-- When the ports of a bridge start next, and cycles in which none of them starts a frame.
use Rattle.std.specs.Prelude.{ℕ, ◌≡◌, ◌+◌, ◌≤◌, ◌<◌, false, List, [], MatchOption, Option, Contains, map, slice_index_or}
use Rattle.cqf_units.specs.declared.timing.Nanos.{Nanos}
use Rattle.cqf_model.specs.Limits.{most_cycles}
use Rattle.cqf_model.specs.Port.{AreLegal}
use Rattle.cqf_port.specs.NextStart.{StartsNext, StartsNoMore}
use Rattle.cqf_bridge.specs.BridgeState.{BridgeState, end_of_cycle}
use Rattle.cqf_bridge.specs.PortRecord.{PortRecord}

-- the next start of a port, with its link, or none if there would be no start
abbrev pub IsNextStartOf : PortRecord → Option (Nanos × ℕ) → Type 0
IsNextStartOf r next = MatchOption next (StartsNoMore r.port) (λ x. StartsNext r.port x.0.0 × (x.1 ≡ r.link))

-- the next start of the port at an index
abbrev pub IsNextAt : List PortRecord → ℕ → Option (Nanos × ℕ) → Type 0
IsNextAt ports index next = (e : PortRecord) → IsNextStartOf (slice_index_or ports index e) next

-- a port starts no frame before an instant: what it has started is legal up to that instant
abbrev pub IsQuiet : ℕ → PortRecord → Type 0
IsQuiet until r = AreLegal r.port.rules r.port.arrivals until r.port.starts

-- a port that has run to an instant without a start on the way
abbrev pub rested : ℕ → PortRecord → PortRecord
rested until r = record {
  link = r.link;
  port = record { rules = r.port.rules; reached = until; arrivals = r.port.arrivals; starts = r.port.starts };
  streams = r.streams;
}

-- a bridge has sent and received the same cycles, and from there to the end of a cycle none of its ports starts a frame
pub record MayPass (b : BridgeState) (cycle : ℕ) : Type 0 where
  pub not_spent : b.spent ≡ false
  pub turn : b.sent ≡ b.received
  pub ahead : b.received ≤ cycle
  pub early : cycle < most_cycles
  pub quiet : (r : PortRecord) → Contains b.ports r → IsQuiet (end_of_cycle b.domain cycle) r

-- a bridge that has passed over the cycles up to and including this one: it has sent and received them empty
abbrev pub passed : ℕ → BridgeState → BridgeState
passed cycle b = record {
  domain = b.domain;
  number = b.number;
  sent = cycle + 1;
  received = cycle + 1;
  spent = false;
  ports = map (rested (end_of_cycle b.domain cycle)) b.ports;
  background = [];
}
