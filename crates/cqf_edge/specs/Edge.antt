-- A stream at its edge bridge, to which its talker's access link leads: when its frames are whole there, what it promises there, and what is
-- left of its deadline.
use Rattle.std.specs.Prelude.{ℕ, ◌+◌, ◌-◌, ◌≤◌, Option, Some, None, option_map}
use Rattle.std.specs.Option.{ForSome}
use Rattle.cqf_model.specs.Limits.{longest_cycle}
use Rattle.cqf_laws_timing.specs.Traffic.{Traffic}
use Rattle.cqf_traffic.specs.declared.keys.TrafficKey.TheVariants.{Jitter, Offset}
use Rattle.cqf_traffic.specs.Keys.{most_of}
use Rattle.cqf_traffic.specs.TrafficText.{TrafficText, delayed_by, promise_of}
use Rattle.cqf_network.specs.declared.domain.TalkerLink.{TalkerLink}
use Rattle.cqf_access.specs.declared.edge.Delays.{Delays}
use Rattle.cqf_access.specs.Access.{AccessLink}
use Rattle.cqf_access.specs.Arriving.{at_edge, edge_offset, longest_wait, travel_time}
use Rattle.cqf_access.specs.Bounding.{link_of}
use Rattle.cqf_access.specs.Closer.{closer_at_edge}
use Rattle.cqf_edge.specs.declared.edge.AccessTimes.{AccessTimes}
use Rattle.cqf_edge.specs.declared.edge.Passage.{Passage}
use Rattle.cqf_edge.specs.Uses.{most_bound, time_in}

-- the least and the greatest delay of an access link
abbrev pub delays_of : TalkerLink → Delays
delays_of link = record { least = record { 0 = link.least }; most = record { 0 = link.delay } }

-- the link, without the frames of no stream
abbrev pub link_by : Passage → AccessLink
link_by p = link_of p.link.rate None

-- the time from the hand-over of a frame that doesn't wait until it is whole: of a shortest frame with the least delay, and of a longest frame
-- with the greatest
abbrev pub shortest_travel : Passage → ℕ
shortest_travel p = travel_time (link_by p) p.link.least p.handed.shortest

abbrev pub longest_travel : Passage → ℕ
longest_travel p = travel_time (link_by p) p.link.delay p.handed.octets

-- the longest wait of its frames, given the stream's traffic
abbrev pub longest_wait_on : Passage → TrafficText → ℕ
longest_wait_on p t = longest_wait (link_by p) (time_in p.bound) (promise_of t)

-- the least and the greatest time from the hand-over of a frame until it is whole at the edge bridge. No time is known if the stream promises
-- nothing: the bound isn't one for its frames
abbrev pub times_on : Passage → TrafficText → AccessTimes
times_on p t = record { least = shortest_travel p; most = longest_travel p + longest_wait_on p t }

abbrev pub times_by : Passage → Option AccessTimes
times_by p = option_map (times_on p) p.handed.traffic

-- the stream's promise at the edge bridge, by laws of cqf_access: with the jitter that two of its frames can differ by; and with the jitter by
-- which a frame can be late on its grid
abbrev pub closer_word : Passage → TrafficText → Traffic
closer_word p t = closer_at_edge (link_by p) (delays_of p.link) (time_in p.bound) p.handed.shortest (promise_of t)

abbrev pub grid_word : Passage → TrafficText → Traffic
grid_word p t = at_edge (link_by p) (delays_of p.link) (time_in p.bound) p.handed.shortest (promise_of t)

-- its traffic there with a given jitter: its grid begins later by the shortest transit time
abbrev pub word_from : Passage → TrafficText → ℕ → TrafficText
word_from p t jitter = delayed_by t jitter (edge_offset (link_by p) (delays_of p.link) p.handed.shortest t.offset)

abbrev pub word_on : Passage → Option TrafficText
word_on p = option_map (λ t. word_from p t (closer_word p t).jitter) p.handed.traffic

abbrev pub steps_on : Passage → Option TrafficText
steps_on p = option_map (λ t. word_from p t (grid_word p t).jitter) p.handed.traffic

-- what is left of a deadline there: 0 if the link can take as long
abbrev pub left_after : AccessTimes → ℕ → ℕ
left_after times deadline = deadline - times.most

-- a deadline begins at the hand-over if the times from there are known, or else at the edge bridge
abbrev pub left_by : Option AccessTimes → Option ℕ → Option ℕ
left_by None deadline = deadline
left_by (Some times) deadline = option_map (left_after times) deadline

-- traffic with a jitter and an offset that a text may have
pub record IsWritten (t : TrafficText) : Type 0 where
  pub jitter : t.jitter ≤ most_of Jitter
  pub offset : t.offset ≤ most_of Offset

-- a stream's passage by an access link of a network: delays and sizes are in their ranges, and so is the bound
pub record IsPassage (p : Passage) : Type 0 where
  pub delay : p.link.delay ≤ longest_cycle
  pub delays : p.link.least ≤ p.link.delay
  pub sizes : p.handed.shortest ≤ p.handed.octets
  pub longest : p.handed.octets ≤ 1522
  pub bounded : time_in p.bound ≤ most_bound
  pub written : ForSome p.handed.traffic IsWritten
