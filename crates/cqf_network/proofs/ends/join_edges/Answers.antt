use Rattle.std.proofs.Common.{◌∙◌, ◌+◌, ap, drop, sym}
use Rattle.cqf_topology.specs.DomainText.{with_front}
use Rattle.cqf_topology.specs.declared.faults.DomainFault.TheVariants.{Memory}
use Rattle.cqf_topology.proofs.Refusals.{Gives-residual}
use Rattle.cqf_network.specs.declared.faults.NetworkFault.TheVariants.{Domain}
use Rattle.cqf_network.specs.Edges.{joined}
use Rattle.cqf_network.proofs.JoinLemmas.{joined_all, joined_fault, joined_more}
use Rattle.cqf_network.proofs.ends.join_edges.Goals as goal

pub loop-element-preserved : goal.loop-element-preserved
loop-element-preserved c =
    let bridges = c.args.bridges.now.keys in
    let stations = c.args.stations.now.keys in
    let i = c.loop-element.element in
    ap (λ edges. with_front edges (joined bridges stations (i + 1) (drop (i + 1) c.args.links.now))) c.in_ok-add_edges.ensures
    ∙ joined_more bridges stations c.args.links.now i c.index-links-element.result c.loop-element-test.true c.index-links-element.is
    c.loop-element.edges.items c.in_ok-edge.edge (sym c.in_ok-edge.ensures)
    ∙ c.loop-element.invariant

pub returns-in_err-edge : goal.returns-in_err-edge
returns-in_err-edge c =
    let e = c.in_err-edge.field-0.0 in
    Gives-residual (Domain Memory) e (λ edges. edges.items) c.from_residual.result _ c.from_residual.ensures.1
    (λ _. sym c.loop-element.invariant
    ∙ joined_fault c.args.bridges.now.keys c.args.stations.now.keys c.args.links.now c.loop-element.element c.index-links-element.result
    c.loop-element-test.true c.index-links-element.is c.loop-element.edges.items e (sym c.in_err-edge.ensures))

pub returns : goal.returns
returns c =
    sym c.loop-element.invariant
    ∙ joined_all c.args.bridges.now.keys c.args.stations.now.keys c.args.links.now c.loop-element.element c.loop-element-test.false
    c.loop-element.edges.items
