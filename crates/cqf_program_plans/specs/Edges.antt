-- The streams of a part at their edge bridges.
use Rattle.std.specs.Prelude.{ℕ, List, Bool, Option, Some, None, Result, Ok, codes, if◌then◌else◌, length, nat_lt}
use Rattle.cqf_lists.specs.Results.{and_then, refuse}
use Rattle.cqf_traffic.specs.FlowsText.{flows_of_text}
use Rattle.cqf_network.specs.NetworkFlows.{network_flows_of_text}
use Rattle.cqf_network.specs.NetworkDomain.{NetworkDomain}
use Rattle.cqf_edge.specs.declared.faults.EdgeFault.{EdgeFault}
use Rattle.cqf_edge.specs.declared.faults.EdgeFault.TheVariants as fault
use Rattle.cqf_edge.specs.EdgeFlows.{EdgeFlowsText, at_edges, edge_flows}
use Rattle.cqf_edge.specs.Faults.{edge_fault_text}
use Rattle.cqf_output.specs.Stops.{EndsWith, fault_line, or_line}
use Rattle.cqf_output.specs.declared.stops.Stop.{Stop}
use Rattle.cqf_program_plans.specs.Reserving.{flows_line}

-- the line of a stream whose talker or listeners don't fit, and of an access link that is full
abbrev pub edge_line : EdgeFault → List ℕ
edge_line found = fault_line (codes "network") (edge_fault_text found)

abbrev pub full_line : List ℕ → List ℕ
full_line station = edge_line (fault.AccessFull station)

-- whether a station of a network has an access link
abbrev pub has_access : NetworkDomain → Bool
has_access network = nat_lt 0 (length network.talkers)

-- the streams of a part of a network in which a station has an access link, at their edge bridges; or the line of the first fault: of the
-- part, or of the first stream whose talker or listeners don't fit
abbrev pub edges_by_access : NetworkDomain → List ℕ → Result EdgeFlowsText (List ℕ)
edges_by_access network text = and_then (or_line flows_line (network_flows_of_text text)) (λ flows. or_line edge_line (edge_flows network flows))

-- the streams of a part of a network in which no station has an access link: each begins at its edge bridge
abbrev pub edges_without : List ℕ → Result EdgeFlowsText (List ℕ)
edges_without text = and_then (or_line flows_line (flows_of_text text)) (λ flows. Ok (at_edges flows))

-- the streams of a part of a network, at their edge bridges
abbrev pub edges_of_part : NetworkDomain → List ℕ → Result EdgeFlowsText (List ℕ)
edges_of_part network text = if has_access network then edges_by_access network text else edges_without text

-- the streams of a part of a network, if no access link is full; else the line for the first that is
abbrev pub open_edges_of_part : NetworkDomain → List ℕ → Result EdgeFlowsText (List ℕ)
open_edges_of_part network text = and_then (edges_of_part network text) (λ edge. refuse edge.full full_line (Ok edge))

-- an end with the line of the station whose access link is the first that is full
abbrev pub EndsAsFull : Option (List ℕ) → Stop → Type 0
EndsAsFull None stop = ⊥
EndsAsFull (Some station) stop = EndsWith 1 (full_line station) stop
