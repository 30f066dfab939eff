-- The links of a network file, one for each direction, by the nodes that they join.
use Rattle.std.specs.Prelude.{ℕ, ◌++◌, List, [], ◌∷◌, ◌==◌, ◌&&◌, Bool, true, false, if◌then◌else◌, count_by, filter, find, length, is_some, map, nat_le, not, ok_or}
use Rattle.std.specs.Prelude.{option_map, slice_get, Option, Some, None, Result, Ok, Err, suc}
use Rattle.std.specs.Option.{option_map_or}
use Rattle.std.specs.List.{list_all, list_any}
use Rattle.cqf_lists.specs.Results.{and_then}
use Rattle.cqf_model.specs.declared.topology.Node.{Node}
use Rattle.cqf_model.specs.declared.topology.Node.TheVariants.{Bridge, Station}
use Rattle.cqf_model.specs.Domain.{node_or, same_node}
use Rattle.cqf_topology.specs.declared.faults.DomainFault.TheVariants as domain
use Rattle.cqf_topology.specs.declared.joined.End.{End}
use Rattle.cqf_topology.specs.DomainText.{index_of, with_front}
use Rattle.cqf_topology.specs.JoinedLink.{node_of}
use Rattle.cqf_topology.specs.LinkTimes.{guard_within, has_long_delay as is_delay_long, has_long_gap as is_gap_long, has_long_sync as is_sync_long}
use Rattle.cqf_topology.specs.declared.times.LinkTimes.{LinkTimes}
use Rattle.cqf_network.specs.declared.draft.NetworkLink.{NetworkLink}
use Rattle.cqf_network.specs.declared.draft.OneDirection.{OneDirection}
use Rattle.cqf_network.specs.declared.faults.NetworkFault.{NetworkFault}
use Rattle.cqf_network.specs.declared.faults.NetworkFault.TheVariants as fault

-- a link in one direction, from a bridge or a station; the greatest size of a frame of no stream that its station sends, if the text gives
-- it; and the index of its element in the text
pub record Edge : Type 0 where
  pub from : Node
  pub to : Node
  pub times : LinkTimes
  pub other : Option ℕ
  pub element : ℕ

-- the node with a name: a bridge, or else a station
abbrev pub end_named : List (List ℕ) → List (List ℕ) → List ℕ → Option Node
end_named bridges stations name = node_or (index_of name bridges) (index_of name stations)

-- whether a link can lead from one node to another: between two different bridges, or between a bridge and a station
abbrev pub may_lead : Node → Node → Bool
may_lead (Bridge a) (Bridge b) = not (a == b)
may_lead (Bridge a) (Station s) = true
may_lead (Station s) (Bridge b) = true
may_lead (Station s) (Station t) = false

-- a link in its written direction, with its ends found; otherwise the name that is no such end, as a fault
abbrev pub joined_edge : List (List ℕ) → List (List ℕ) → ℕ → Option ℕ → OneDirection → Result Edge NetworkFault
joined_edge bridges stations element other path =
    and_then (ok_or (end_named bridges stations path.from) (fault.Domain (domain.UnknownName path.from))) (λ from.
    and_then (ok_or (end_named bridges stations path.to) (fault.Domain (domain.UnknownName path.to))) (λ to.
    if may_lead from to
    then Ok (record { from = from; to = to; times = path.times; other = other; element = element })
    else Err (fault.Domain (domain.UnknownName path.to))))

-- whether a node is a station, and whether an edge is a talker's access link; the others begin at a bridge
abbrev pub is_station : Node → Bool
is_station (Bridge b) = false
is_station (Station s) = true

abbrev pub is_talkers : Edge → Bool
is_talkers edge = is_station edge.from

-- the same link in the opposite direction, and the same link without frames of no stream
abbrev pub back_of : Edge → Edge
back_of edge = record { from = edge.to; to = edge.from; times = edge.times; other = edge.other; element = edge.element }

abbrev pub without_other : Edge → Edge
without_other edge = record { from = edge.from; to = edge.to; times = edge.times; other = None; element = edge.element }

-- a link's directions, the written one first. What its station may send beside streams belongs to the direction that leaves the station
abbrev pub both_directions : Edge → List Edge
both_directions edge =
    if is_talkers (back_of edge) then without_other edge ∷ back_of edge ∷ [] else edge ∷ without_other (back_of edge) ∷ []

abbrev pub edges_of : Bool → Edge → List Edge
edges_of true edge = both_directions edge
edges_of false edge = edge ∷ []

-- the directions of each link of the text, with its elements numbered from the given number on; or the first fault
abbrev pub joined : List (List ℕ) → List (List ℕ) → ℕ → List NetworkLink → Result (List Edge) NetworkFault
joined bridges stations element [] = Ok []
joined bridges stations element (link ∷ links) =
    and_then (joined_edge bridges stations element link.other link.there) (λ edge.
    with_front (edges_of link.duplex edge) (joined bridges stations (suc element) links))

-- both ends of a link; and whether two pairs of nodes are the same
abbrev pub ends_of : Edge → Node × Node
ends_of edge = (edge.from, edge.to)

abbrev pub same_pair : Node × Node → Node × Node → Bool
same_pair a b = same_node a.0 b.0 && same_node a.1 b.1

-- the index of the first pair that occurred earlier
abbrev pub first_repeat : List (Node × Node) → List (Node × Node) → Option ℕ
first_repeat earlier [] = None
first_repeat earlier (pair ∷ pairs) = if list_any (same_pair pair) earlier then Some (length earlier) else first_repeat (earlier ++ pair ∷ []) pairs

-- a pair of ends, as nodes
abbrev pub pair_of : End × End → Node × Node
pair_of ends = (node_of ends.0, node_of ends.1)

abbrev pub talkers_of : List Edge → List Edge
talkers_of edges = filter is_talkers edges

-- the element of the edge at an index
abbrev pub element_at : List Edge → ℕ → ℕ
element_at edges index = option_map_or (λ (edge : Edge). edge.element) (slice_get edges index) 0

-- the element of the first edge whose ends are those of an earlier one
abbrev pub first_twice : List Edge → Option ℕ
first_twice edges = option_map (element_at edges) (first_repeat [] (map ends_of edges))

-- whether a guard band is at least as long as each of the cycle times
abbrev pub reaches_each : List ℕ → ℕ → Bool
reaches_each cycles guard = list_all (λ cycle. nat_le cycle guard) cycles

-- four tests of an edge that is a link of the plan: its guard band is at least as long as each candidate; its greatest delay plus how far
-- clocks may differ isn't below its guard band; the gap after a frame takes longer than its guard band; clocks may differ by more than a
-- shortest frame and its least delay take together
abbrev pub has_long_guard : List ℕ → ℕ → Edge → Bool
has_long_guard candidates guard edge = not (is_talkers edge) && reaches_each candidates (guard_within guard edge.times)

abbrev pub has_long_delay : ℕ → ℕ → Edge → Bool
has_long_delay sync guard edge = not (is_talkers edge) && is_delay_long sync guard edge.times

abbrev pub has_long_gap : ℕ → Edge → Bool
has_long_gap guard edge = not (is_talkers edge) && is_gap_long guard edge.times

abbrev pub has_long_sync : ℕ → Edge → Bool
has_long_sync sync edge = not (is_talkers edge) && is_sync_long sync edge.times

-- the element of the first edge that passes a test
abbrev pub first_such : (Edge → Bool) → List Edge → Option ℕ
first_such test edges = option_map (λ (edge : Edge). edge.element) (find test edges)

abbrev pub first_long_guard : List ℕ → ℕ → List Edge → Option ℕ
first_long_guard candidates guard edges = first_such (has_long_guard candidates guard) edges

abbrev pub first_long_delay : ℕ → ℕ → List Edge → Option ℕ
first_long_delay sync guard edges = first_such (has_long_delay sync guard) edges

abbrev pub first_long_gap : ℕ → List Edge → Option ℕ
first_long_gap guard edges = first_such (has_long_gap guard) edges

abbrev pub first_long_sync : ℕ → List Edge → Option ℕ
first_long_sync sync edges = first_such (has_long_sync sync) edges

-- whether an edge has frames of no stream and leaves no station, and the element of the first such edge
abbrev pub is_misplaced : Edge → Bool
is_misplaced edge = is_some edge.other && not (is_talkers edge)

abbrev pub first_misplaced : List Edge → Option ℕ
first_misplaced edges = first_such is_misplaced edges

-- the number of edges that are links of the plan
abbrev pub bridge_edge_count : List Edge → ℕ
bridge_edge_count edges = count_by (λ edge. not (is_talkers edge)) edges
