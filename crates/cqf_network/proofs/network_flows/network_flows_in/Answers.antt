use Rattle.std.proofs.Common.{◌∙◌, ◌∷◌, [], map, ap, refl, sym}
use Rattle.toml.specs.View.{items_view}
use Rattle.cqf_topology.specs.declared.toml_faults.TomlFault.TheVariants.{Memory}
use Rattle.cqf_traffic.specs.declared.faults.FlowsFault.TheVariants.{Streams}
use Rattle.cqf_topology.proofs.Fronts.{read-more, read-fault, read-all}
use Rattle.cqf_topology.proofs.Refusals.{Gives-residual}
use Rattle.cqf_network.specs.NetworkFlows.{network_flow_text, network_flows_from}
use Rattle.std.proofs.lemmas.List.{map-append}
use Rattle.cqf_network.proofs.network_flows.network_flows_in.Goals as goal

pub loop-value-preserved : goal.loop-value-preserved
loop-value-preserved c =
    let done = c.loop-value.flows.items in
    let flow = c.in_ok-flow.flow in
    read-more _ (λ values. network_flows_from (items_view values)) (λ value values. refl) c.args.values.now c.loop-value.value-index
    c.value-item.result c.loop-value-test.true c.value-item.is (map network_flow_text done) (network_flow_text flow) _ c.in_ok-flow.ensures
    (ap (map network_flow_text) c.in_ok-push.ensures.items ∙ map-append network_flow_text done (flow ∷ []))
    ∙ c.loop-value.invariant

pub returns-in_err-flow : goal.returns-in_err-flow
returns-in_err-flow c =
    let e = c.in_err-flow.field-0.0 in
    Gives-residual (Streams Memory) e (λ flows. map network_flow_text flows.items) c.from_residual.result _ c.from_residual.ensures.1
    (λ known. sym c.loop-value.invariant
    ∙ read-fault _ (λ values. network_flows_from (items_view values)) (λ value values. refl) c.args.values.now c.loop-value.value-index
    c.value-item.result c.loop-value-test.true c.value-item.is (map network_flow_text c.loop-value.flows.items) e (c.in_err-flow.ensures known))

pub returns : goal.returns
returns c =
    sym c.loop-value.invariant
    ∙ read-all (λ values. network_flows_from (items_view values)) refl c.args.values.now c.loop-value.value-index c.loop-value-test.false
    (map network_flow_text c.loop-value.flows.items)
