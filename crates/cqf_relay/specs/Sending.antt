-- What a link sends of the frames that wait for it, and what it then has to hand on.
use Rattle.std.specs.Prelude.{ℕ, zero, suc, ◌≡◌, ◌+◌, ◌*◌, ◌-◌, ◌<◌, ◌^◌, ◌≤◌, ◌++◌, ◌&&◌, Bool, true, false, if◌then◌else◌, nat_le, nat_lt}
use Rattle.std.specs.Prelude.{All, List, [], ◌∷◌, map, min}
use Rattle.std.specs.List.Sorted.{IsNonDecreasingBy, IsPermutation}
use Rattle.cqf_model.specs.declared.frames.Sent.{Sent}
use Rattle.cqf_model.specs.declared.topology.Link.{Link}
use Rattle.cqf_model.specs.declared.topology.Row.{Row}
use Rattle.cqf_units.specs.Timing.{ending_of, slot_of, ticks_of_octet, time_of}
use Rattle.cqf_trace.specs.Traces.{mark_of_sent}
use Rattle.cqf_relay.specs.declared.inlet.Inlet.{Inlet}
use Rattle.cqf_relay.specs.declared.leads.Leads.{Leads}
use Rattle.cqf_relay.specs.declared.log.ArrivedFrame.{ArrivedFrame}
use Rattle.cqf_relay.specs.declared.log.SourceLog.{SourceLog}
use Rattle.cqf_relay.specs.declared.moving.Segment.{Segment}
use Rattle.cqf_relay.specs.declared.moving.Moving.{Moving}
use Rattle.cqf_relay.specs.declared.outlet.Outlet.{Outlet}
use Rattle.cqf_relay.specs.declared.pending.Pending.{Pending}
use Rattle.cqf_relay.specs.declared.queue.Queued.{Queued}
use Rattle.cqf_relay.specs.declared.wire.Wire.{Wire}
use Rattle.cqf_relay.specs.Leading.{LearnsRow, by_hops}
use Rattle.cqf_relay.specs.Logs.{ByCycle, came_by_segment}
use Rattle.cqf_relay.specs.Queues.{AreByCycle, AreLeads, key_of_queued, queue_of}

-- the time from a frame's start until it is whole at a link's end, and whether it is whole within the cycle if it starts at an offset
abbrev pub time_on : Wire → ℕ → ℕ
time_on wire octets = time_of (octets + 8) wire.octet_time + wire.delay

abbrev pub has_room_on : Wire → ℕ → ℕ → Bool
has_room_on wire offset octets = nat_le octets 65535 && nat_lt (offset + time_on wire octets) wire.cycle_time

-- the offset at which the next frame may start after one
abbrev pub next_offset : Wire → ℕ → ArrivedFrame → ℕ
next_offset wire offset came = if has_room_on wire offset came.octets then offset + slot_of came.octets wire.octet_time else offset

-- a frame that starts at an offset in a cycle
abbrev pub sent_at : Wire → ℕ → ℕ → ArrivedFrame → Sent
sent_at wire cycle offset came =
    record { start = record { 0 = cycle * wire.cycle_time + offset }; frame = came.frame; stream = came.row; octets = came.octets }

-- what a link sends of these frames in a cycle, from an offset on: each starts after the one before it and its gap, and a frame that
-- wouldn't be whole within the cycle isn't sent. In a legal run all are sent
abbrev pub sends_of : Wire → ℕ → ℕ → List ArrivedFrame → List Sent
sends_of wire cycle offset [] = []
sends_of wire cycle offset (x ∷ xs) =
    if has_room_on wire offset x.octets
    then sent_at wire cycle offset x ∷ sends_of wire cycle (next_offset wire offset x) xs
    else sends_of wire cycle (next_offset wire offset x) xs

-- the frame without its source
abbrev pub came_of : Queued → ArrivedFrame
came_of queued = queued.came

-- a frame that a link sent in a cycle, on its way: cycles are counted from a first one
abbrev pub moving_on : Wire → ℕ → ℕ → Sent → Moving
moving_on wire first cycle sent = record {
  at = ending_of sent.start.0 sent.octets wire.octet_time + wire.delay - cycle * wire.cycle_time;
  frame = sent.frame;
  row = sent.stream;
  octets = sent.octets;
  after = min (cycle - first) 65535;
}

-- the cycle from which the cycles of waiting frames are counted, if a cycle sends more; and: a moving frame with another count
abbrev pub base_after : List Moving → ℕ → ℕ → ℕ
base_after [] base cycle = cycle
base_after (x ∷ xs) base cycle = base

abbrev pub base_with : List Moving → ℕ → ℕ → List Sent → ℕ
base_with frames base cycle [] = base
base_with frames base cycle (sent ∷ sents) = base_after frames base cycle

abbrev pub with_after : Moving → ℕ → Moving
with_after moving after = record { at = moving.at; frame = moving.frame; row = moving.row; octets = moving.octets; after = after }

-- a frame of a cycle is appended to the frames that wait to be handed on
pub record Hands (cycle : ℕ) (moving : Moving) (before after : Pending) : Type 0 where
  pub base : after.base ≡ base_after before.frames.items before.base cycle
  pub frames : after.frames.items ≡ before.frames.items ++ with_after moving (min (cycle - after.base) 65535) ∷ []

-- what stays of a link no matter what it sends or hands on
pub record IsSameLink (before after : Outlet) : Type 0 where
  pub wire : after.wire ≡ before.wire
  pub leads : after.leads ≡ before.leads
  pub link : after.trace.link ≡ before.trace.link
  pub background : after.trace.background.items ≡ before.trace.background.items

-- a link has sent frames in a cycle
pub record Adds (cycle : ℕ) (sents : List Sent) (before after : Outlet) : Type 0 where
  pub same : IsSameLink before after
  pub reported : after.reported ≡ before.reported
  pub marked : after.trace.starts.items ≡ before.trace.starts.items ++ map mark_of_sent sents
  pub base : before.wire.onward ≡ true → after.pending.base ≡ base_with before.pending.frames.items before.pending.base cycle sents
  pub pends : before.wire.onward ≡ true →
      after.pending.frames.items ≡ before.pending.frames.items ++ map (moving_on before.wire after.pending.base cycle) sents
  pub ends : before.wire.onward ≡ false → after.pending ≡ before.pending

-- a link has sent one frame, if there is room, and the next one may start at an offset
pub record SendsOne (cycle offset : ℕ) (came : ArrivedFrame) (before after : Outlet) (next : ℕ) : Type 0 where
  pub adds : Adds cycle (sends_of before.wire cycle offset (came ∷ [])) before after
  pub as_far : after.sent ≡ before.sent
  pub next_is : next ≡ next_offset before.wire offset came
  pub small : next < 2 ^ 40

-- a link has sent the frames of a queue
pub record SendsQueue (cycle : ℕ) (queue : List Queued) (before after : Outlet) : Type 0 where
  pub adds : Adds cycle (sends_of before.wire cycle 0 (map came_of queue)) before after
  pub as_far : after.sent ≡ before.sent

-- the frames that wait for a cycle: those that arrived in the cycle before it
abbrev pub waits_for : Leads → List Inlet → SourceLog → ℕ → List Queued
waits_for leads inlets edge zero = []
waits_for leads inlets edge (suc cycle) = queue_of leads inlets edge cycle

-- a link sends in the next cycle what waits for it, in order; cycles are numbered in 32 bits
pub record SendsOneCycle (inlets : List Inlet) (edge : SourceLog) (before after : Outlet) : Type 0 where
  pub early : before.sent < 2 ^ 32 - 1
  pub sorted : List Queued
  pub is_queue : AreByCycle inlets edge → AreLeads before.leads → IsPermutation (waits_for before.leads inlets edge before.sent) sorted
  pub in_order : IsNonDecreasingBy key_of_queued sorted
  pub adds : Adds before.sent (sends_of before.wire before.sent 0 (map came_of sorted)) before after
  pub as_far : after.sent ≡ before.sent + 1

-- a link sends in this many cycles what waits for it, and up to a cycle
abbrev pub SendsMore : ℕ → List Inlet → SourceLog → Outlet → Outlet → Type 0
SendsMore zero inlets edge before after = after ≡ before
SendsMore (suc cycles) inlets edge before after =
    (between : Outlet) × SendsMore cycles inlets edge before between × SendsOneCycle inlets edge between after

abbrev pub SendsCycles : ℕ → List Inlet → SourceLog → Outlet → Outlet → Type 0
SendsCycles until inlets edge before after = SendsMore (until - before.sent) inlets edge before after

-- the cycle up to which a link may send now, no matter what has arrived
abbrev pub most_after : List Moving → ℕ → ℕ → ℕ
most_after [] sent base = sent + 256
most_after (x ∷ xs) sent base = base + 256

abbrev pub most_of : Outlet → ℕ
most_of outlet = most_after outlet.pending.frames.items outlet.sent outlet.pending.base

-- an invariant of a link's pending frames: they are in order of cycle, of cycles that the link has sent and not handed on, and their cycles
-- are counted in 16 bits
pub record IsTidy (outlet : Outlet) : Type 0 where
  pub handed : outlet.reported ≤ outlet.sent
  pub counted : All (λ (moving : Moving). moving.after ≤ 65535) outlet.pending.frames.items
  pub by_cycle : ByCycle (map (came_by_segment outlet.pending.base) outlet.pending.frames.items)
  pub within : All (λ (came : ArrivedFrame). (outlet.reported ≤ came.cycle) × (came.cycle < outlet.sent))
      (map (came_by_segment outlet.pending.base) outlet.pending.frames.items)

-- a link that has sent nothing
pub record IsNewOutlet (cycle_time number : ℕ) (link : Link) (onward : Bool) (outlet : Outlet) : Type 0 where
  pub wire : outlet.wire ≡ record { octet_time = ticks_of_octet link.rate; delay = link.delay; cycle_time = cycle_time; onward = onward }
  pub no_rows : outlet.leads.rows.items ≡ []
  pub no_needs : outlet.leads.needs.items ≡ []
  pub unused : outlet.leads.used ≡ false
  pub sent : outlet.sent ≡ 0
  pub reported : outlet.reported ≡ 0
  pub pending : outlet.pending.frames.items ≡ []
  pub link_is : outlet.trace.link ≡ number
  pub starts : outlet.trace.starts.items ≡ []
  pub background : outlet.trace.background.items ≡ []

-- a link learns a row
pub record LearnsOf (row : Row) (before after : Outlet) : Type 0 where
  pub leads : LearnsRow row.no (by_hops before.trace.link row.tree.items) before.leads after.leads
  pub wire : after.wire ≡ before.wire
  pub sent : after.sent ≡ before.sent
  pub reported : after.reported ≡ before.reported
  pub pending : after.pending ≡ before.pending
  pub trace : after.trace ≡ before.trace

-- the pending frames are taken as a segment
pub record TakesPending (before after : Outlet) (segment : Segment) : Type 0 where
  pub same : IsSameLink before after
  pub trace : after.trace ≡ before.trace
  pub from : segment.from ≡ before.pending.base
  pub upto : segment.upto ≡ before.sent
  pub frames : segment.frames.items ≡ before.pending.frames.items
  pub as_far : after.sent ≡ before.sent
  pub reported : after.reported ≡ before.sent
  pub none : after.pending.frames.items ≡ []

-- a segment is given back to its link
pub record KeepsSegmentBack (reported : ℕ) (segment : Segment) (before after : Outlet) : Type 0 where
  pub same : IsSameLink before after
  pub trace : after.trace ≡ before.trace
  pub as_far : after.sent ≡ before.sent
  pub reported_by_then : after.reported ≡ reported
  pub base : after.pending.base ≡ segment.from
  pub frames : after.pending.frames.items ≡ segment.frames.items
