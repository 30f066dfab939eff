-- What the port of a link is given, so that it starts the link's background frames: these frames, and the link's streams' frames, each
-- arriving at the instant at which it starts.
use Rattle.std.specs.Prelude.{ℕ, ◌≡◌, ◌<◌, ◌==◌, ◌++◌, Bool, List, [], ◌∷◌, filter, length, map, not, slice_index_or}
use Rattle.cqf_lists.specs.ByNumber.{AreListsBy}
use Rattle.cqf_model.specs.declared.frames.Backed.{Backed}
use Rattle.cqf_model.specs.declared.frames.Sent.{Sent}
use Rattle.cqf_model.specs.declared.frames.Started.{Started}
use Rattle.cqf_model.specs.declared.ports.Arrival.{Arrival}
use Rattle.cqf_model.specs.Domain.{Domain, cycle_of}
use Rattle.cqf_model.specs.Network.{QueuedFrame, arrivals_of, backed_frame}
use Rattle.cqf_laws_cycle.specs.Beside.{is_of_stream}
use Rattle.cqf_laws_cycle.specs.Compiled.{open_class}

-- the arrival of a stream's frame at the instant at which it starts, with the class that its cycle sends
abbrev pub arrival_of_start : Started → Arrival
arrival_of_start s = record { at = s.start; class = open_class s.cycle.0; octets = s.octets; frame = s.frame }

-- the same for a frame that a link carries
abbrev pub arrival_of_sent : Domain → Sent → Arrival
arrival_of_sent d x = record { at = x.start; class = open_class (cycle_of d x.start.0); octets = x.octets; frame = x.frame }

-- the arrival of a background frame at its port
abbrev pub arrival_of_frame : Backed → Arrival
arrival_of_frame x = (backed_frame x).arrival

-- the start is on the link
abbrev pub is_start_on : ℕ → Started → Bool
is_start_on link s = s.link == link

-- the background frame is on the link
abbrev pub is_frame_on : ℕ → Backed → Bool
is_frame_on link x = x.background.link == link

-- the streams' frames that the port of a link is given
abbrev pub streams_fed_on : ℕ → List Started → List Arrival
streams_fed_on link starts = map arrival_of_start (filter (is_start_on link) starts)

-- the background frames that it is given
abbrev pub frames_fed_on : ℕ → List Backed → List Arrival
frames_fed_on link frames = map arrival_of_frame (filter (is_frame_on link) frames)

-- all that it is given: the background frames, then the streams' frames; nothing if there is no background frame, since none starts then
abbrev pub fed : List Arrival → List Arrival → List Arrival
fed [] streams = []
fed (x ∷ frames) streams = x ∷ frames ++ streams

-- the frame is of no stream
abbrev pub is_background : QueuedFrame → Bool
is_background x = not (is_of_stream x)

-- the background frames among those that arrive at a port
abbrev pub backs_among : List QueuedFrame → List Arrival
backs_among queued = arrivals_of (filter is_background queued)

-- for each of the first `links` links, the list that its port is given of these background frames and starts
abbrev pub AreFed : List Backed → List Started → ℕ → List (List Arrival) → Type 0
AreFed frames starts links lists = AreListsBy (λ link. fed (frames_fed_on link frames) (streams_fed_on link starts)) links lists

-- the lists with one more start: it is appended to its link's list, unless that list is empty
pub record AddsStart (before after : List (List Arrival)) (start : Started) : Type 0 where
  pub as_many : length after ≡ length before
  pub each : (link : ℕ) (none : List Arrival) → link < length before →
      slice_index_or after link none ≡ fed (slice_index_or before link none) (streams_fed_on link (start ∷ []))
