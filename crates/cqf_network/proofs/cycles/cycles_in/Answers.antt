use Rattle.std.proofs.Common.{◌∙◌, refl, sym}
use Rattle.toml.specs.View.{items_view}
use Rattle.cqf_topology.specs.declared.toml_faults.TomlFault.TheVariants.{Memory}
use Rattle.cqf_topology.proofs.Fronts.{read-all, read-fault, read-more}
use Rattle.cqf_topology.proofs.Refusals.{Gives-residual}
use Rattle.cqf_network.specs.NetworkText.{cycles_from}
use Rattle.cqf_network.proofs.cycles.cycles_in.Goals as goal

pub loop-value-preserved : goal.loop-value-preserved
loop-value-preserved c =
    read-more _ (λ values. cycles_from (items_view values)) (λ value values. refl) c.args.values.now c.loop-value.value-index
    c.value-item.result c.loop-value-test.true c.value-item.is c.loop-value.cycles.items c.in_ok-cycle.cycle _ (sym c.in_ok-cycle.ensures)
    c.in_ok-push.ensures.items
    ∙ c.loop-value.invariant

pub returns-in_err-cycle : goal.returns-in_err-cycle
returns-in_err-cycle c =
    let e = c.in_err-cycle.field-0.0 in
    Gives-residual Memory e (λ cycles. cycles.items) c.from_residual.result _ c.from_residual.ensures.1
    (λ _. sym c.loop-value.invariant
    ∙ read-fault _ (λ values. cycles_from (items_view values)) (λ value values. refl) c.args.values.now c.loop-value.value-index
    c.value-item.result c.loop-value-test.true c.value-item.is c.loop-value.cycles.items e (sym c.in_err-cycle.ensures))

pub returns : goal.returns
returns c =
    sym c.loop-value.invariant
    ∙ read-all (λ values. cycles_from (items_view values)) refl c.args.values.now c.loop-value.value-index c.loop-value-test.false
    c.loop-value.cycles.items
