use Rattle.std.proofs.Common.{◌∙◌, map, refl, sym}
use Rattle.std.proofs.lemmas.List.Elements.{All-push, All-same}
use Rattle.cqf_topology.proofs.Fronts.{read-more, read-fault, read-all}
use Rattle.cqf_topology.proofs.Refusals.{Gives-residual}
use Rattle.cqf_network.specs.NetworkFlows.{network_flow_text}
use Rattle.cqf_edge.specs.declared.faults.EdgeFault.TheVariants.{Memory}
use Rattle.cqf_edge.specs.EdgeFlows.{IsHandedOne, IsWrittenFlow, handed_of_all}
use Rattle.cqf_edge.proofs.Mapped.{at_mapped, one_longer}
use Rattle.cqf_edge.proofs.flows.handed_of_all.Goals as goal

pub loop-found-preserved : goal.loop-found-preserved
loop-found-preserved c =
    let network = c.args.network.now in
    let done = c.loop-found.handed.items in
    let one = c.in_ok-one.one in (
      read-more _ (λ founds. handed_of_all network (map network_flow_text founds)) (λ found founds. refl) c.args.all.now c.loop-found.found-index
          c.found-item.result c.loop-found-test.true c.found-item.is done one _ (sym c.in_ok-one.ensures.value) c.in_ok-push.ensures.items
          ∙ c.loop-found.invariant.0,
      All-same (IsHandedOne network) _ _ c.in_ok-push.ensures.items (All-push (IsHandedOne network) done one c.loop-found.invariant.1 c.in_ok-one.ensures.inside),
      one_longer done _ one c.loop-found.found-index c.in_ok-push.ensures.items c.loop-found.invariant.2,
    )

pub handed_of-requires : goal.handed_of-requires
handed_of-requires c =
    at_mapped IsWrittenFlow network_flow_text c.args.all.now c.loop-found.found-index c.found-item.result c.loop-found-test.true c.found-item.is c.requires

pub returns-in_err-one-clause-value : goal.returns-in_err-one-clause-value
returns-in_err-one-clause-value c =
    let network = c.args.network.now in
    let e = c.in_err-one.field-0.0 in
    Gives-residual Memory e (λ handed. handed.items) c.from_residual-in_err-one.result _ c.from_residual-in_err-one.ensures.1
    (λ _. sym c.loop-found.invariant.0
    ∙ read-fault _ (λ founds. handed_of_all network (map network_flow_text founds)) (λ found founds. refl) c.args.all.now c.loop-found.found-index
    c.found-item.result c.loop-found-test.true c.found-item.is c.loop-found.handed.items e (sym c.in_err-one.ensures.value))

pub returns-clause-value : goal.returns-clause-value
returns-clause-value c =
    let network = c.args.network.now in
    sym c.loop-found.invariant.0
    ∙ read-all (λ founds. handed_of_all network (map network_flow_text founds)) refl c.args.all.now c.loop-found.found-index c.loop-found-test.false
    c.loop-found.handed.items
