use Rattle.std.proofs.Common.{◌∙◌, refl, sym}
use Rattle.toml.specs.View.{items_view}
use Rattle.cqf_topology.specs.declared.faults.DomainFault.TheVariants.{Memory}
use Rattle.cqf_network.specs.declared.faults.NetworkFault.TheVariants.{Domain}
use Rattle.cqf_topology.proofs.Fronts.{read-all, read-fault, read-more}
use Rattle.cqf_topology.proofs.Refusals.{Gives-residual}
use Rattle.cqf_network.specs.NetworkText.{links_from}
use Rattle.cqf_network.proofs.draft.links_in.Goals as goal

pub loop-value-preserved : goal.loop-value-preserved
loop-value-preserved c =
    read-more _ (λ values. links_from (items_view values)) (λ value values. refl) c.args.values.now c.loop-value.value-index
    c.value-item.result c.loop-value-test.true c.value-item.is c.loop-value.links.items c.in_ok-link.link _ (sym c.in_ok-link.ensures)
    c.in_ok-push.ensures.items
    ∙ c.loop-value.invariant

pub returns-in_err-link : goal.returns-in_err-link
returns-in_err-link c =
    let e = c.in_err-link.field-0.0 in
    Gives-residual (Domain Memory) e (λ links. links.items) c.from_residual.result _ c.from_residual.ensures.1
    (λ _. sym c.loop-value.invariant
    ∙ read-fault _ (λ values. links_from (items_view values)) (λ value values. refl) c.args.values.now c.loop-value.value-index
    c.value-item.result c.loop-value-test.true c.value-item.is c.loop-value.links.items e (sym c.in_err-link.ensures))

pub returns : goal.returns
returns c =
    sym c.loop-value.invariant
    ∙ read-all (λ values. links_from (items_view values)) refl c.args.values.now c.loop-value.value-index c.loop-value-test.false
    c.loop-value.links.items
