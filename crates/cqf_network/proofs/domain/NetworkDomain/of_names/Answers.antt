use Rattle.std.proofs.Common.{◌∙◌, List, ap, map, subst, sym}
use Rattle.cqf_network.specs.Edges.{Edge, talkers_of}
use Rattle.cqf_network.specs.NetworkDomain.{IsNetwork, link_of, bridge_edges, network_with, talker_of}
use Rattle.cqf_network.proofs.CheckedLemmas.{passes_network}
use Rattle.cqf_network.proofs.InsideLemmas.{all_joined}
use Rattle.cqf_topology.specs.DomainText.{NoLinkTwice}
use Rattle.cqf_network.proofs.OpenLemmas.{passed_is_network, plan_once, same_domain}
use Rattle.cqf_network.proofs.domain.NetworkDomain.of_names.Goals as goal

pub invariant_of-result : goal.invariant_of-result
invariant_of-result c =
    let text = c.args.draft.now in
    let edges = c.in_ok-edges.edges.items in
    let names = c.requires in
    let checked = c.in_ok-edges.ensures.checked in
    subst IsNetwork
    (sym (same_domain _ _ _ _ _ _ _ _ _ _ _ _ _ _ _ _ _ _ c.limits.ensures (c.in_ok-candidates.ensures.items ∙ c.candidates.ensures) c.guard.ensures c.sync.ensures c.overhead.ensures names.bridges_are names.stations_are
    (c.in_ok-links.ensures ∙ c.in_ok-listed.ensures ∙ ap (λ (es : List Edge). map link_of (bridge_edges es)) c.as_slice.ensures.value)
    (c.in_ok-talkers.ensures ∙ ap (λ (es : List Edge). map talker_of (talkers_of es)) c.as_slice-2.ensures.value)))
    (passed_is_network text edges names.readable (passes_network text edges (network_with text edges) checked.passed)
    (all_joined text.bridges text.stations 0 text.links edges names.readable.links_are_read checked.joined_are) names.bridges_apart names.stations_apart)

-- no link of the plan occurs twice
pub new-requires : goal.new-requires
new-requires c =
    let text = c.args.draft.now in
    let edges = c.in_ok-edges.edges.items in
    let names = c.requires in
    let checked = c.in_ok-edges.ensures.checked in
    subst NoLinkTwice (sym (c.in_ok-listed.ensures ∙ ap (λ (es : List Edge). map link_of (bridge_edges es)) c.as_slice.ensures.value))
    (plan_once text edges names.readable (passes_network text edges (network_with text edges) checked.passed)
    (all_joined text.bridges text.stations 0 text.links edges names.readable.links_are_read checked.joined_are))
