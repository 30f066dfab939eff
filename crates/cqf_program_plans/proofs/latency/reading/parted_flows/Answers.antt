use Rattle.std.proofs.Common.{ℕ, ◌≡◌, ◌++◌, ◌∙◌, List, [], ◌∷◌, Option, map, ap, sym, append_assoc, append-nil}
use Rattle.std.proofs.lemmas.List.{map-append, nil_from_length}
use Rattle.std.specs.Vec.Iter.{into_iter_items}
use Rattle.cqf_model.specs.History.{Asked}
use Rattle.cqf_admission.specs.Asking.{asked_paced}
use Rattle.cqf_topology.specs.declared.paced.PacedRequest.{PacedRequest}
use Rattle.cqf_topology.specs.PlannedText.{PlannedText}
use Rattle.cqf_traffic.specs.declared.flows.Flow.{Flow}
use Rattle.cqf_traffic.specs.FlowsText.{FlowText, flow_text}
use Rattle.cqf_program_plans.specs.Latency.Input.{asked_in, deadlines_in}
use Rattle.cqf_program_plans.proofs.latency.reading.parted_flows.Goals as goal

-- the requests and the deadlines of streams
abbrev planned_of : List Flow → List PlannedText
planned_of flows = map (λ (flow : FlowText). flow.0) (map flow_text flows)

pub loop-flow-init : goal.loop-flow-init
loop-flow-init c =
    let given = c.into_iter-flow-iterator.ensures.into_iter_gives.0 in (
      ap (λ (fs : List Flow). asked_in (planned_of fs)) (sym given)
          ∙ sym (ap (λ (rs : List PacedRequest). map asked_paced rs ++ asked_in (planned_of (into_iter_items c.into_iter-flow-iterator.result)))
          c.in_ok-requests.ensures.items),
      ap (λ (fs : List Flow). deadlines_in (planned_of fs)) (sym given)
          ∙ sym (ap (λ (ds : List (Option ℕ)). ds ++ deadlines_in (planned_of (into_iter_items c.into_iter-flow-iterator.result)))
          c.in_ok-deadlines.ensures.items),
    )

pub loop-flow-preserved : goal.loop-flow-preserved
loop-flow-preserved c =
    let rest = into_iter_items c.next.new.self in
    let one = c.in-Some.flow in
    let steps = c.in-Some.ensures.steps.0 in
    let asks = map asked_paced c.loop-flow.requests.items in
    let ends = c.loop-flow.deadlines.items in (
      c.loop-flow.invariant.0
          ∙ ap (λ (fs : List Flow). asks ++ asked_in (planned_of fs)) steps
          ∙ sym (append_assoc asks (asked_paced one.planned.request ∷ []) (asked_in (planned_of rest)))
          ∙ ap (λ (xs : List Asked). xs ++ asked_in (planned_of rest))
          (sym (ap (map asked_paced) c.in_ok-push-2.ensures.items ∙ map-append asked_paced c.loop-flow.requests.items (one.planned.request ∷ []))),
      c.loop-flow.invariant.1
          ∙ ap (λ (fs : List Flow). ends ++ deadlines_in (planned_of fs)) steps
          ∙ sym (append_assoc ends (one.planned.deadline ∷ []) (deadlines_in (planned_of rest)))
          ∙ ap (λ (xs : List (Option ℕ)). xs ++ deadlines_in (planned_of rest)) (sym c.in_ok-push.ensures.items),
    )

pub returns-clause-requests : goal.returns-clause-requests
returns-clause-requests c =
    let left = into_iter_items c.loop-flow.flow-iterator in
    let none : left ≡ [] = nil_from_length left (sym c.loop-flow.flow-iterator.rest.ok.0 ∙ c.in-None.ensures.steps.0) in
    sym (c.loop-flow.invariant.0
    ∙ ap (λ (fs : List Flow). map asked_paced c.loop-flow.requests.items ++ asked_in (planned_of fs)) none
    ∙ append-nil (map asked_paced c.loop-flow.requests.items))

pub returns-clause-deadlines : goal.returns-clause-deadlines
returns-clause-deadlines c =
    let left = into_iter_items c.loop-flow.flow-iterator in
    let none : left ≡ [] = nil_from_length left (sym c.loop-flow.flow-iterator.rest.ok.0 ∙ c.in-None.ensures.steps.0) in
    sym (c.loop-flow.invariant.1
    ∙ ap (λ (fs : List Flow). c.loop-flow.deadlines.items ++ deadlines_in (planned_of fs)) none
    ∙ append-nil c.loop-flow.deadlines.items)
