-- What streams promise at their edge bridges, given what their talkers promise at the hand-over.
use Rattle.std.specs.Prelude.{ℕ, ◌≡◌, ◌+◌, ◌≤◌, List, Option, Some, None, Ok, is_some, length, map, slice_get}
use Rattle.std.specs.Option.{ForSome}
use Rattle.cqf_traffic.specs.FlowsText.{FlowText}
use Rattle.cqf_traffic.specs.TrafficText.{TrafficText, promise_of}
use Rattle.cqf_network.specs.declared.domain.TalkerLink.{TalkerLink}
use Rattle.cqf_network.specs.NetworkFlows.{NetworkFlowText}
use Rattle.cqf_network.specs.NetworkDomain.{NetworkDomain}
use Rattle.cqf_access.specs.Access.{AccessLink, IsBound}
use Rattle.cqf_access.specs.Arriving.{edge_offset, longest_wait, travel_time}
use Rattle.cqf_access.specs.Closer.{closer_at_edge}
use Rattle.cqf_edge.specs.declared.edge.AccessTimes.{AccessTimes}
use Rattle.cqf_edge.specs.declared.uses.Handed.{Handed}
use Rattle.cqf_edge.specs.Edge.{delays_of, left_by}
use Rattle.cqf_edge.specs.EdgeFlows.{EdgeFlowsText, edge_flows}
use Rattle.cqf_edge.specs.Uses.{handed_to, link_with, other_beside, promises_in}

-- the access link that a stream is handed to, with the largest size of a frame without a promise there
abbrev pub link_used : EdgeFlowsText → Handed → TalkerLink → AccessLink
link_used edge handed link = link_with link (other_beside link.other (handed_to handed.index edge.handed))

-- a stream that promises something, if no access link is full: there is a bound of its link for all that is promised there. The stream's promise
-- at the edge bridge, its grid there and the times of its frames from the hand-over to there are those for this bound
pub record KeepsWord (edge : EdgeFlowsText) (handed : Handed) (link : TalkerLink) (traffic : Option TrafficText) (times : Option AccessTimes) (t : TrafficText) :
    Type 0 where
  pub bound : ℕ
  pub is_bound : IsBound (link_used edge handed link) (promises_in (handed_to handed.index edge.handed)) bound
  pub there : TrafficText
  pub is_there : traffic ≡ Some there
  pub word : promise_of there ≡ closer_at_edge (link_used edge handed link) (delays_of link) bound handed.shortest (promise_of t)
  pub offset : there.offset ≡ edge_offset (link_used edge handed link) (delays_of link) handed.shortest t.offset
  pub taken : AccessTimes
  pub are_taken : times ≡ Some taken
  pub least : taken.least ≡ travel_time (link_used edge handed link) link.least handed.shortest
  pub most : taken.most ≡ travel_time (link_used edge handed link) link.delay t.size + longest_wait (link_used edge handed link) bound (promise_of t)

-- a stream that is handed to an access link of the network: only its deadline and its traffic are different at its edge bridge. The times of its
-- frames are known if its talker promises something, and only then
pub record ComesByLink (network : NetworkDomain) (edge : EdgeFlowsText) (stream : ℕ) (one : NetworkFlowText) (handed : Handed) : Type 0 where
  pub link : TalkerLink
  pub is_link : slice_get network.talkers handed.index ≡ Some link
  pub promise : handed.traffic ≡ one.flow.1
  pub sizes : handed.shortest ≤ handed.octets
  pub flow : FlowText
  pub at_edge : slice_get edge.flows stream ≡ Some flow
  pub request : flow.0.0 ≡ one.flow.0.0
  pub times : Option AccessTimes
  pub are_times : slice_get edge.times stream ≡ Some times
  pub known : is_some times ≡ is_some one.flow.1
  pub left : flow.0.1 ≡ left_by times one.flow.0.1
  pub word : edge.full ≡ None → ForSome one.flow.1 (KeepsWord edge handed link flow.1 times)

abbrev pub StreamsComeByLinks : Type 0
StreamsComeByLinks =
    (network : NetworkDomain) (found : List NetworkFlowText) (edge : EdgeFlowsText) (stream : ℕ) (one : NetworkFlowText) (handed : Handed) →
    edge_flows network found ≡ Ok edge → slice_get found stream ≡ Some one →
    slice_get edge.handed stream ≡ Some (Some handed) → ComesByLink network edge stream one handed

-- a stream that isn't handed to an access link is at its edge bridge as its text has it
pub record BeginsAtEdge (edge : EdgeFlowsText) (stream : ℕ) (one : NetworkFlowText) : Type 0 where
  pub at_edge : slice_get edge.flows stream ≡ Some one.flow
  pub no_times : slice_get edge.times stream ≡ Some None

abbrev pub OthersBeginAtEdges : Type 0
OthersBeginAtEdges =
    (network : NetworkDomain) (found : List NetworkFlowText) (edge : EdgeFlowsText) (stream : ℕ) (one : NetworkFlowText) →
    edge_flows network found ≡ Ok edge → slice_get found stream ≡ Some one → slice_get edge.handed stream ≡ Some None → BeginsAtEdge edge stream one

-- each stream has its flow, its deadline, its times, and what it hands over, by the same indexes; the deadlines are those in the text
pub record AreByIndices (found : List NetworkFlowText) (edge : EdgeFlowsText) : Type 0 where
  pub flows : length edge.flows ≡ length found
  pub deadlines : edge.deadlines ≡ map (λ (one : NetworkFlowText). one.flow.0.1) found
  pub times : length edge.times ≡ length found
  pub handed : length edge.handed ≡ length found

abbrev pub EdgesAreByIndices : Type 0
EdgesAreByIndices = (network : NetworkDomain) (found : List NetworkFlowText) (edge : EdgeFlowsText) → edge_flows network found ≡ Ok edge → AreByIndices found edge
