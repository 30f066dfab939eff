use Rattle.std.proofs.Common.{◌≡◌, ◌∙◌, ◌<◌, ◌++◌, ◌∷◌, [], ℕ, List, None, Option, ap, arith, get_or, length, sym}
use Rattle.std.specs.Prelude.{slice_index_or}
use Rattle.std.proofs.lemmas.List.{length-map}
use Rattle.cqf_edge.specs.declared.uses.Handed.{Handed}
use Rattle.cqf_edge.specs.EdgeValues.{edges_text}
use Rattle.cqf_lists.specs.Lists.{each_below}
use Rattle.cqf_traffic.specs.declared.flows.Flow.{Flow}
use Rattle.cqf_traffic.specs.FlowsText.{flow_text}
use Rattle.cqf_program_diff.specs.Element.{ElementText}
use Rattle.cqf_program_diff.specs.Streams.{element_at, stream_element}
use Rattle.cqf_program_diff.proofs.Steps.{more_streams, seen_at}
use Rattle.cqf_program_diff.proofs.streams.stream_elements.Goals as goal

pub loop-index-preserved : goal.loop-index-preserved
loop-index-preserved c =
    let edge = c.args.edge.now in
    let index = c.loop-index.index in
    let flow : Flow = c.index-flows-index.result in
    let before : List ElementText = c.loop-index.elements.items in
    let below : index < length edge.flows.items = omega (arith, c.loop-index-test.true, ap length c.as_slice-flows.ensures.value) in
    let here = c.index-flows-index.is ∙ ap (λ (flows : List Flow). get_or flows index flow) c.as_slice-flows.ensures.value in
    let deadline = c.deadline_at-deadline.ensures ∙ ap (λ (all : List (Option ℕ)). slice_index_or all index None) c.as_slice-deadlines.ensures.value in
    let handed = c.handed_at-one.ensures ∙ ap (λ (all : List (Option Handed)). slice_index_or all index None) c.as_slice-handed.ensures.value in
    more_streams c.args.domain.now c.args.talkers.now (edges_text edge) index (flow_text flow) before _ c.loop-index.invariant
    (seen_at flow_text edge.flows.items index flow flow below here)
    (c.in_ok-push.ensures.items ∙ ap (λ (element : ElementText). before ++ element ∷ [])
    (c.in_ok-element.ensures ∙ (λ i. stream_element c.args.domain.now c.args.talkers.now (deadline i) (handed i) (flow_text flow))))

pub returns : goal.returns
returns c =
    let edge = c.args.edge.now in
    let all : c.loop-index.index ≡ length edge.flows.items = omega (arith, c.loop-index-test.false, ap length c.as_slice-flows.ensures.value) in
    c.loop-index.invariant
    ∙ ap (each_below (element_at c.args.domain.now c.args.talkers.now (edges_text edge))) (all ∙ sym (length-map edge.flows.items flow_text))
