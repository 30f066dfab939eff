-- What links send, in segments.
use Rattle.std.specs.Prelude.{ℕ, ◌≡◌, ◌+◌, ◌*◌, ◌-◌, ◌≤◌, ◌<◌, All, List, [], ◌∷◌, length, map, slice_index_or}
use Rattle.std.specs.List.{flat_map}
use Rattle.cqf_lists.specs.Lists.{each_below}
use Rattle.cqf_model.specs.declared.frames.Sent.{Sent}
use Rattle.cqf_model.specs.Domain.{Domain}
use Rattle.cqf_model.specs.Policing.{whole_at}
use Rattle.cqf_relay.specs.declared.log.ArrivedFrame.{ArrivedFrame}
use Rattle.cqf_relay.specs.declared.moving.Segment.{Segment}
use Rattle.cqf_relay.specs.declared.moving.Moving.{Moving}
use Rattle.cqf_relay.specs.Logs.{ByCycle, came_by_segment}

-- for each link what it sent in its first cycles, cycle by cycle
abbrev pub Sendings : Type 0
Sendings = ℕ → List (List Sent)

-- a frame that a link sent in a cycle, on its way: the instant at which it is whole, from the cycle's beginning, and its cycle, from a
-- first one
abbrev pub moving_in : Domain → ℕ → ℕ → ℕ → Sent → Moving
moving_in d m first cycle sent = record {
  at = whole_at d m sent - cycle * d.cycle_time;
  frame = sent.frame;
  row = sent.stream;
  octets = sent.octets;
  after = cycle - first;
}

-- what a link sent in one of its first cycles
abbrev pub batch_at : List (List Sent) → ℕ → List Sent
batch_at sends cycle = slice_index_or sends cycle []

-- what it sent in the cycles from `begin` up to `upto`, on its way
abbrev pub moving_between : Domain → ℕ → List (List Sent) → ℕ → ℕ → ℕ → List Moving
moving_between d m sends first begin upto =
    each_below (λ k. map (moving_in d m first (begin + k)) (batch_at sends (begin + k))) (upto - begin)

-- the frames of a segment, as they arrive
abbrev pub frames_of : Segment → List ArrivedFrame
frames_of segment = map (came_by_segment segment.from) segment.frames.items

-- a segment may come next, after what has arrived up to a cycle: its frames are in order of cycle, and of cycles from that one up to the
-- segment's end
pub record IsNextSegment (begin : ℕ) (segment : Segment) : Type 0 where
  pub following : begin ≤ segment.upto
  pub by_cycle : ByCycle (frames_of segment)
  pub within : All (λ (came : ArrivedFrame). (begin ≤ came.cycle) × (came.cycle < segment.upto)) (frames_of segment)

-- segments may come one after the other, each beginning where the one before it ends
abbrev pub AreNextSegments : ℕ → List Segment → Type 0
AreNextSegments begin [] = Unit {0}
AreNextSegments begin (segment ∷ segments) = IsNextSegment begin segment × AreNextSegments segment.upto segments

-- the cycle up to which they come, and the frames of all
abbrev pub end_of_segments : ℕ → List Segment → ℕ
end_of_segments begin [] = begin
end_of_segments begin (segment ∷ segments) = end_of_segments segment.upto segments

abbrev pub all_frames : List Segment → List ArrivedFrame
all_frames segments = flat_map frames_of segments

-- a frame that a link sent in a cycle, as it arrives
abbrev pub came_in : Domain → ℕ → ℕ → Sent → ArrivedFrame
came_in d m cycle sent =
    record { cycle = cycle; at = whole_at d m sent - cycle * d.cycle_time; frame = sent.frame; row = sent.stream; octets = sent.octets }

-- a segment has what a link sends in the cycles from `begin` up to the segment's end, and counts these cycles from one that is not later
-- than the first frame's
pub record IsSegmentOf (d : Domain) (m : ℕ) (sends : List (List Sent)) (begin : ℕ) (segment : Segment) : Type 0 where
  pub following : begin ≤ segment.upto
  pub within : segment.upto ≤ length sends
  pub counts : (cycle : ℕ) → begin ≤ cycle → cycle < segment.upto → (batch_at sends cycle ≡ [] → ⊥) → segment.from ≤ cycle
  pub carries : segment.frames.items ≡ moving_between d m sends segment.from begin segment.upto
