use Rattle.std.proofs.Common.{◌≡◌, ◌∙◌, ◌+◌, ◌++◌, ◌<◌, [], List, ap, append-nil, arith, drop, length, map, refl, suc, sym}
use Rattle.std.proofs.lemmas.List.{nil_from_length}
use Rattle.std.specs.Vec.Iter.{into_iter_items}
use Rattle.cqf_traffic.specs.declared.flows.Flow.{Flow}
use Rattle.cqf_traffic.specs.FlowsText.{FlowText, flow_text}
use Rattle.cqf_network.specs.declared.network_flows.NetworkFlow.{NetworkFlow}
use Rattle.cqf_network.specs.NetworkFlows.{network_flow_text}
use Rattle.cqf_edge.specs.EdgeFlows.{IsPassageOne, flow_at_edge, flows_at_edge}
use Rattle.cqf_edge.proofs.FlowLemmas.{none_after}
use Rattle.cqf_edge.proofs.Mapped.{at_item, come_next, one_longer}
use Rattle.cqf_edge.proofs.flows.flows_at_edge.Goals as goal

pub loop-found-init : goal.loop-found-init
loop-found-init c =
    let passages = c.args.passages.now in
    let items = into_iter_items c.into_iter-found-iterator.result in
    let given = c.into_iter-found-iterator.ensures.into_iter_gives.0 in
    let none : length c.in_ok-flows.flows.items ≡ 0 = ap length c.in_ok-flows.ensures.items in
    let all : length items ≡ length c.args.all.items = ap length given in (
      ap (λ (fs : List Flow). map flow_text fs ++ flows_at_edge (drop (length fs) passages) (map network_flow_text items)) c.in_ok-flows.ensures.items
          ∙ ap (λ (xs : List NetworkFlow). flows_at_edge passages (map network_flow_text xs)) given,
      omega (arith, none, all, c.requires.each),
    )

pub flow_at_edge-requires : goal.flow_at_edge-requires
flow_at_edge-requires c =
    let passages = c.args.passages.now in
    let index = c.len-index.result in
    let at : index ≡ length c.loop-found.flows.items = c.len-index.ensures ∙ c.loop-found.flows.ok.0 in
    let front : length (into_iter_items c.loop-found.found-iterator) ≡ suc (length (into_iter_items c.next.new.self)) =
    ap length c.in-Some.ensures.steps.0 in
    let inside : index < length passages = omega (arith, at, front, c.loop-found.invariant.1) in
    at_item IsPassageOne passages index c.index-passages-index.result inside c.index-passages-index.is c.requires.ready

pub loop-found-preserved : goal.loop-found-preserved
loop-found-preserved c =
    let passages = c.args.passages.now in
    let rest = into_iter_items c.next.new.self in
    let done = c.loop-found.flows.items in
    let steps = c.in-Some.ensures.steps.0 in
    let index = c.len-index.result in
    let p = c.index-passages-index.result in
    let flow = c.flow_at_edge.result in
    let at : index ≡ length done = c.len-index.ensures ∙ c.loop-found.flows.ok.0 in
    let front : length (into_iter_items c.loop-found.found-iterator) ≡ suc (length rest) = ap length steps in
    let inside : index < length passages = omega (arith, at, front, c.loop-found.invariant.1) in
    let longer : length c.push.new.self.items ≡ index + 1 = one_longer done _ flow index c.in_ok-push.ensures.items (sym at) in (
      come_next flow_text (λ q found. flow_at_edge q (flow_text found.flow)) (λ qs founds. flows_at_edge qs (map network_flow_text founds))
          (λ q qs found founds. refl) passages index p p done _ flow c.in-Some.found _ rest inside c.index-passages-index.is at c.in_ok-push.ensures.items
          steps c.flow_at_edge.ensures
          ∙ c.loop-found.invariant.0,
      omega (arith, longer, front, at, c.loop-found.invariant.1),
    )

pub returns : goal.returns
returns c =
    let passages = c.args.passages.now in
    let flows = c.loop-found.flows.items in
    let left = into_iter_items c.loop-found.found-iterator in
    let none : left ≡ [] = nil_from_length left (sym c.loop-found.found-iterator.rest.ok.0 ∙ c.in-None.ensures.steps.0) in
    sym (ap (λ (xs : List NetworkFlow). map flow_text flows ++ flows_at_edge (drop (length flows) passages) (map network_flow_text xs)) none
    ∙ ap (λ (fs : List FlowText). map flow_text flows ++ fs) (none_after (drop (length flows) passages))
    ∙ append-nil (map flow_text flows))
    ∙ c.loop-found.invariant.0
