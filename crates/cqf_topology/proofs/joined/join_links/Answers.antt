use Rattle.std.proofs.Common.{◌∙◌, refl, sym}
use Rattle.cqf_topology.specs.declared.faults.DomainFault.TheVariants.{Memory}
use Rattle.cqf_topology.specs.DomainText.{joined}
use Rattle.cqf_topology.proofs.Fronts.{read-more, read-fault, read-all}
use Rattle.cqf_topology.proofs.Refusals.{Gives-residual}
use Rattle.cqf_topology.proofs.joined.join_links.Goals as goal

pub loop-link-preserved : goal.loop-link-preserved
loop-link-preserved c =
    let done = c.loop-link.joined.items in
    let link = c.in_ok-link.link in
    let bridges = c.args.bridges.now.keys in
    let stations = c.args.stations.now.keys in
    read-more _ (joined bridges stations) (λ link links. refl) c.args.links.now c.loop-link.link-index c.link-item.result c.loop-link-test.true
    c.link-item.is done link _ (sym c.in_ok-link.ensures)
    c.in_ok-push.ensures.items
    ∙ c.loop-link.invariant

pub returns-in_err-link : goal.returns-in_err-link
returns-in_err-link c =
    let e = c.in_err-link.field-0.0 in
    let bridges = c.args.bridges.now.keys in
    let stations = c.args.stations.now.keys in
    Gives-residual Memory e (λ links. links.items) c.from_residual.result _ c.from_residual.ensures.1
    (λ _. sym c.loop-link.invariant
    ∙ read-fault _ (joined bridges stations) (λ link links. refl) c.args.links.now c.loop-link.link-index c.link-item.result c.loop-link-test.true
    c.link-item.is c.loop-link.joined.items e (sym c.in_err-link.ensures))

pub returns : goal.returns
returns c =
    sym c.loop-link.invariant
    ∙ read-all (joined c.args.bridges.now.keys c.args.stations.now.keys) refl c.args.links.now c.loop-link.link-index c.loop-link-test.false
    c.loop-link.joined.items
