use Rattle.std.proofs.Common.{◌≡◌, ◌∙◌, All, List, Ok, length, subst, sym}
use Rattle.cqf_network.specs.Edges.{Edge, joined}
use Rattle.cqf_network.specs.NetworkDomain.{AreCheckedEdges, EdgeInside, network_with}
use Rattle.cqf_network.proofs.CheckedLemmas.{inside_few, passes_network}
use Rattle.cqf_network.proofs.InsideLemmas.{all_inside, all_joined}
use Rattle.cqf_network.proofs.domain.checked_edges.Goals as goal

pub check-requires : goal.check-requires
check-requires c =
    let text = c.args.draft.now in
    let edges = c.in_ok-edges.edges.items in
    let is : joined text.bridges text.stations 0 text.links ≡ Ok edges =
    (λ i. joined (sym c.requires.bridges_are i) (sym c.requires.stations_are i) 0 (sym c.links.ensures i)) ∙ c.in_ok-edges.ensures in
    subst (λ (es : List Edge). All (EdgeInside (length text.bridges) (length text.stations)) es) (sym c.as_slice.ensures.value)
    (all_inside (length text.bridges) (length text.stations) edges
    (all_joined text.bridges text.stations 0 text.links edges c.requires.readable.links_are_read is))

pub returns-clause-checked : goal.returns-clause-checked
returns-clause-checked c =
    let text = c.args.draft.now in
    let edges = c.in_ok-edges.edges.items in
    let is : joined text.bridges text.stations 0 text.links ≡ Ok edges =
    (λ i. joined (sym c.requires.bridges_are i) (sym c.requires.stations_are i) 0 (sym c.links.ensures i)) ∙ c.in_ok-edges.ensures in
    subst (λ (es : List Edge). joined text.bridges text.stations 0 text.links ≡ Ok es → AreCheckedEdges text es) c.as_slice.ensures.value
    (λ joined_are. record { joined_are = joined_are; passed = c.in_ok-check.ensures }) is

pub returns-clause-few : goal.returns-clause-few
returns-clause-few c =
    let text = c.args.draft.now in
    let edges = c.in_ok-edges.edges.items in
    let checked = returns-clause-checked c in
    let passed = passes_network text edges (network_with text edges) checked.passed in
    inside_few text.limits (length text.bridges) (length text.stations) edges passed.few_bridges passed.few_stations
    (all_inside (length text.bridges) (length text.stations) edges
    (all_joined text.bridges text.stations 0 text.links edges c.requires.readable.links_are_read checked.joined_are))
