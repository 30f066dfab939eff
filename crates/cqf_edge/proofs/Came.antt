-- Streams at their edge bridges, by their indexes.
use Rattle.std.proofs.Common.{◌≡◌, suc, ◌∷◌, [], ◌∙◌, List, Option, Result, Ok, Err, ap, arith, length, map}
use Rattle.std.proofs.Common.{refl, subst}
use Rattle.std.specs.Prelude.{option_and_then}
use Rattle.std.proofs.lemmas.List.{length-map}
use Rattle.cqf_topology.specs.Fields.{and_first}
use Rattle.cqf_topology.proofs.Refusals.{and_then-Ok}
use Rattle.cqf_network.specs.NetworkFlows.{NetworkFlowText}
use Rattle.cqf_network.specs.NetworkDomain.{NetworkDomain}
use Rattle.cqf_network.proofs.StreamParts.{and_first-Ok}
use Rattle.cqf_edge.specs.declared.edge.Passage.{Passage}
use Rattle.cqf_edge.specs.declared.faults.EdgeFault.{EdgeFault}
use Rattle.cqf_edge.specs.declared.uses.Handed.{Handed}
use Rattle.cqf_edge.specs.EdgeFlows.{EdgeFlowsText, edges_with, flows_at_edge, handed_of, handed_of_all, passage_of}
use Rattle.cqf_edge.specs.EdgeLaws.{AreByIndices, EdgesAreByIndices}
use Rattle.cqf_edge.specs.Edge.{times_by}
use Rattle.cqf_edge.specs.Uses.{bounds_of}

list_same : (network : NetworkDomain) (hs : List (Option Handed)) → handed_of_all network [] ≡ Ok hs → hs ≡ []
list_same network hs h = cc

-- each has its place
handed_length : (network : NetworkDomain) (found : List NetworkFlowText) (hs : List (Option Handed)) → handed_of_all network found ≡ Ok hs → length hs ≡ length found
handed_length network [] hs h = ap length (list_same network hs h)
handed_length network (one ∷ found) hs h =
    let w = and_first-Ok (handed_of network one) (handed_of_all network found) hs h in
    ap length w.all ∙ ap suc (handed_length network found w.more w.others_are)

flows_length : (ps : List (Option Passage)) (found : List NetworkFlowText) → length ps ≡ length found → length (flows_at_edge ps found) ≡ length found
flows_length [] [] e = refl
flows_length [] (one ∷ found) e = absurd (omega (arith, e))
flows_length (p ∷ ps) [] e = refl
flows_length (p ∷ ps) (one ∷ found) e = ap suc (flows_length ps found (omega (arith, e)))

by_indices : (network : NetworkDomain) (found : List NetworkFlowText) (hs : List (Option Handed)) → length hs ≡ length found → AreByIndices found (edges_with network found hs)
by_indices network found hs e =
    let ps = map (passage_of network (bounds_of network hs)) hs in
    let many : length ps ≡ length found = length-map hs (passage_of network (bounds_of network hs)) ∙ e in
    record {
      flows = flows_length ps found many;
      deadlines = refl;
      times = length-map ps (option_and_then times_by) ∙ many;
      handed = e;
    }

pub edge_same : (network : NetworkDomain) (found : List NetworkFlowText) (hs : List (Option Handed)) (edge : EdgeFlowsText) →
    ◌≡◌ {A = Result EdgeFlowsText EdgeFault} (Ok (edges_with network found hs)) (Ok edge) → edges_with network found hs ≡ edge
edge_same network found hs edge e = cc

pub edges_are_by_indices : EdgesAreByIndices
edges_are_by_indices network found edge h =
    let (hs, read, made) = and_then-Ok (handed_of_all network found) (λ handed. Ok (edges_with network found handed)) edge h in
    subst (λ (x : EdgeFlowsText). AreByIndices found x) (edge_same network found hs edge made) (by_indices network found hs (handed_length network found hs read))
