-- A talker's access link: what a station hands over to it, and how long a frame waits there at most. Instants and lengths of time are whole
-- nanoseconds.
use Rattle.std.specs.Prelude.{ℕ, ◌+◌, ◌*◌, ◌<◌, ◌≤◌, ◌⊎◌, List, Option, Some, None, Contains, map, sum_by}
use Rattle.cqf_units.specs.Timing.{idle_after, slot_of}
use Rattle.cqf_model.specs.declared.frames.Offer.{Offer}
use Rattle.cqf_laws_timing.specs.Traffic.{Conforms, IsTraffic, Traffic, most_frames}

-- a frame of a stream as it is handed over to the link (its instant is that of the hand-over), and when it starts there
pub record Crossing : Type 0 where
  pub frame : Offer
  pub start : ℕ

-- a stream of the station: what its talker promises at the hand-over, and its frames, in the order of their hand-overs
pub record AccessStream : Type 0 where
  pub promise : Traffic
  pub crossings : List Crossing

-- a frame of the station that belongs to no stream
pub record Other : Type 0 where
  pub start : ℕ
  pub octets : ℕ

-- a link: the time of an octet, in ticks of 40 picoseconds, and the largest size of a frame of no stream, if there may be such frames
pub record AccessLink : Type 0 where
  pub octet_time : ℕ
  pub other : Option ℕ

-- the frames that a stream hands over
abbrev pub handed : AccessStream → List Offer
handed s = map (λ (x : Crossing). x.frame) s.crossings

-- the time that a frame takes of the link, with preamble and gap
abbrev pub taken_of : AccessLink → ℕ → ℕ
taken_of link octets = slot_of octets link.octet_time

-- the longest time that a frame of no stream takes
abbrev pub taken_beside : AccessLink → Option ℕ → ℕ
taken_beside link None = 0
taken_beside link (Some octets) = taken_of link octets

abbrev pub taken_by_other : AccessLink → ℕ
taken_by_other link = taken_beside link link.other

-- a frame's preamble, octets or gap are on the link at an instant
abbrev pub IsUnderWay : AccessLink → ℕ → ℕ → ℕ → Type 0
IsUnderWay link start octets at = (start ≤ at) × (at < idle_after start octets link.octet_time)

-- a frame of a stream is under way; and a frame of no stream is
pub record StreamIsUnderWay (link : AccessLink) (streams : List AccessStream) (at : ℕ) : Type 0 where
  pub stream : AccessStream
  pub crossing : Crossing
  pub is_stream : Contains streams stream
  pub is_crossing : Contains stream.crossings crossing
  pub under_way : IsUnderWay link crossing.start crossing.frame.octets at

pub record OtherIsUnderWay (link : AccessLink) (others : List Other) (at : ℕ) : Type 0 where
  pub one : Other
  pub is_one : Contains others one
  pub under_way : IsUnderWay link one.start one.octets at

-- how the link sends: in any order, even for the frames of one stream. Two frames of streams may be under way at once here, and so may two
-- frames of no stream, since the laws don't depend on it
pub record IsSent (link : AccessLink) (streams : List AccessStream) (others : List Other) : Type 0 where
  -- an octet takes time
  pub takes_time : 0 < link.octet_time
  -- each stream's talker keeps its promise at the hand-over
  pub promised : (s : AccessStream) → Contains streams s → IsTraffic s.promise
  pub kept : (s : AccessStream) → Contains streams s → Conforms s.promise (handed s)
  -- no frame starts before it is handed over
  pub following : (s : AccessStream) (x : Crossing) → Contains streams s → Contains s.crossings x → x.frame.at.0 ≤ x.start
  -- the link is never idle while a frame of a stream waits
  pub works : (s : AccessStream) (x : Crossing) (at : ℕ) → Contains streams s → Contains s.crossings x → x.frame.at.0 ≤ at → at < x.start →
      StreamIsUnderWay link streams at ⊎ OtherIsUnderWay link others at
  -- each frame of no stream is at most as large as allowed
  pub small : (o : Other) → Contains others o → taken_of link o.octets ≤ taken_by_other link
  -- no such frame is under way together with a frame of a stream
  pub apart : (s : AccessStream) (x : Crossing) (o : Other) → Contains streams s → Contains s.crossings x → Contains others o →
      (idle_after o.start o.octets link.octet_time ≤ x.start) ⊎ (idle_after x.start x.frame.octets link.octet_time ≤ o.start)
  -- no such frame starts while a frame of a stream waits; it may start at the instant of the hand-over
  pub yields : (s : AccessStream) (x : Crossing) (o : Other) → Contains streams s → Contains s.crossings x → Contains others o →
      x.frame.at.0 < o.start → x.start ≤ o.start

-- the most time that a stream takes of the link for what it hands over within a time
abbrev pub taken_within : AccessLink → ℕ → Traffic → ℕ
taken_within link time t = most_frames time t * taken_of link t.size

-- the most that all streams of the link take of it in this way, with one frame of no stream
abbrev pub demand : AccessLink → List Traffic → ℕ → ℕ
demand link promises time = taken_by_other link + sum_by (λ (t : Traffic). taken_within link time t) promises

-- a time in which the link sends all that is handed over in it, with one frame of no stream. It is positive: otherwise 0 would do if there
-- were no jitter and no other frames, as nothing is handed over in no time
pub record IsBound (link : AccessLink) (promises : List Traffic) (time : ℕ) : Type 0 where
  pub positive : 0 < time
  pub enough : demand link promises time ≤ time

abbrev pub promises_of : List AccessStream → List Traffic
promises_of streams = map (λ (s : AccessStream). s.promise) streams

-- each frame starts early enough that a largest frame of its stream, in its place, would end, with its gap, within this time from the
-- hand-over
abbrev pub AccessLinkBoundsQueueing : Type 0
AccessLinkBoundsQueueing = (link : AccessLink) (streams : List AccessStream) (others : List Other) (time : ℕ) (s : AccessStream) (x : Crossing) →
    IsSent link streams others → IsBound link (promises_of streams) time → Contains streams s → Contains s.crossings x →
    x.start + taken_of link s.promise.size ≤ x.frame.at.0 + time
