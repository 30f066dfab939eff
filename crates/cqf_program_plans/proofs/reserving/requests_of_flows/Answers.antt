use Rattle.std.proofs.Common.{◌≡◌, ◌++◌, ◌∙◌, List, [], ◌∷◌, map, ap, sym, append_assoc, append-nil}
use Rattle.std.proofs.lemmas.List.{map-append, nil_from_length}
use Rattle.std.specs.Vec.Iter.{into_iter_items}
use Rattle.cqf_topology.specs.PacedText.{paced_text, PacedText}
use Rattle.cqf_topology.specs.declared.paced.PacedRequest.{PacedRequest}
use Rattle.cqf_traffic.specs.declared.flows.Flow.{Flow}
use Rattle.cqf_traffic.specs.FlowsText.{FlowText, flow_text}
use Rattle.cqf_program_plans.proofs.reserving.requests_of_flows.Goals as goal

-- the part that is taken of streams
abbrev taken : List Flow → List PacedText
taken flows = map (λ (flow : FlowText). flow.0.0) (map flow_text flows)

pub loop-flow-init : goal.loop-flow-init
loop-flow-init c =
    let given = c.into_iter-flow-iterator.ensures.into_iter_gives.0 in
    ap taken (sym given)
    ∙ sym (ap (λ (xs : List PacedRequest). map paced_text xs ++ taken (into_iter_items c.into_iter-flow-iterator.result)) c.in_ok-requests.ensures.items)

pub loop-flow-preserved : goal.loop-flow-preserved
loop-flow-preserved c =
    let rest = into_iter_items c.next.new.self in
    let one = c.in-Some.flow in
    let steps = c.in-Some.ensures.steps.0 in
    let done = map paced_text c.loop-flow.requests.items in
    c.loop-flow.invariant
    ∙ ap (λ (fs : List Flow). done ++ taken fs) steps
    ∙ sym (append_assoc done (paced_text one.planned.request ∷ []) (taken rest))
    ∙ ap (λ (xs : List PacedText). xs ++ taken rest)
    (sym (ap (map paced_text) c.in_ok-push.ensures.items ∙ map-append paced_text c.loop-flow.requests.items (one.planned.request ∷ [])))

pub returns : goal.returns
returns c =
    let left = into_iter_items c.loop-flow.flow-iterator in
    let none : left ≡ [] = nil_from_length left (sym c.loop-flow.flow-iterator.rest.ok.0 ∙ c.in-None.ensures.steps.0) in
    sym (c.loop-flow.invariant ∙ ap (λ (fs : List Flow). map paced_text c.loop-flow.requests.items ++ taken fs) none ∙ append-nil (map paced_text c.loop-flow.requests.items))
