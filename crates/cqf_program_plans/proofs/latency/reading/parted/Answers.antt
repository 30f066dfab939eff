use Rattle.std.proofs.Common.{ℕ, ◌≡◌, ◌++◌, ◌∙◌, List, [], ◌∷◌, Option, map, ap, sym, append_assoc, append-nil}
use Rattle.std.proofs.lemmas.List.{map-append, nil_from_length}
use Rattle.std.specs.Vec.Iter.{into_iter_items}
use Rattle.cqf_model.specs.History.{Asked}
use Rattle.cqf_admission.specs.Asking.{asked_paced}
use Rattle.cqf_topology.specs.declared.planned.Planned.{Planned}
use Rattle.cqf_topology.specs.declared.paced.PacedRequest.{PacedRequest}
use Rattle.cqf_topology.specs.PlannedText.{planned_text}
use Rattle.cqf_program_plans.specs.Latency.Input.{asked_in, deadlines_in}
use Rattle.cqf_program_plans.proofs.latency.reading.parted.Goals as goal

pub loop-planned-init : goal.loop-planned-init
loop-planned-init c =
    let given = c.into_iter-planned-iterator.ensures.into_iter_gives.0 in (
      ap (λ (ps : List Planned). asked_in (map planned_text ps)) (sym given)
          ∙ sym (ap (λ (rs : List PacedRequest). map asked_paced rs ++ asked_in (map planned_text (into_iter_items c.into_iter-planned-iterator.result)))
          c.in_ok-requests.ensures.items),
      ap (λ (ps : List Planned). deadlines_in (map planned_text ps)) (sym given)
          ∙ sym (ap (λ (ds : List (Option ℕ)). ds ++ deadlines_in (map planned_text (into_iter_items c.into_iter-planned-iterator.result)))
          c.in_ok-deadlines.ensures.items),
    )

pub loop-planned-preserved : goal.loop-planned-preserved
loop-planned-preserved c =
    let rest = into_iter_items c.next.new.self in
    let one = c.in-Some.planned in
    let steps = c.in-Some.ensures.steps.0 in
    let asks = map asked_paced c.loop-planned.requests.items in
    let ends = c.loop-planned.deadlines.items in (
      c.loop-planned.invariant.0
          ∙ ap (λ (ps : List Planned). asks ++ asked_in (map planned_text ps)) steps
          ∙ sym (append_assoc asks (asked_paced one.request ∷ []) (asked_in (map planned_text rest)))
          ∙ ap (λ (xs : List Asked). xs ++ asked_in (map planned_text rest))
          (sym (ap (map asked_paced) c.in_ok-push-2.ensures.items ∙ map-append asked_paced c.loop-planned.requests.items (one.request ∷ []))),
      c.loop-planned.invariant.1
          ∙ ap (λ (ps : List Planned). ends ++ deadlines_in (map planned_text ps)) steps
          ∙ sym (append_assoc ends (one.deadline ∷ []) (deadlines_in (map planned_text rest)))
          ∙ ap (λ (xs : List (Option ℕ)). xs ++ deadlines_in (map planned_text rest)) (sym c.in_ok-push.ensures.items),
    )

pub returns-clause-requests : goal.returns-clause-requests
returns-clause-requests c =
    let left = into_iter_items c.loop-planned.planned-iterator in
    let none : left ≡ [] = nil_from_length left (sym c.loop-planned.planned-iterator.rest.ok.0 ∙ c.in-None.ensures.steps.0) in
    sym (c.loop-planned.invariant.0
    ∙ ap (λ (ps : List Planned). map asked_paced c.loop-planned.requests.items ++ asked_in (map planned_text ps)) none
    ∙ append-nil (map asked_paced c.loop-planned.requests.items))

pub returns-clause-deadlines : goal.returns-clause-deadlines
returns-clause-deadlines c =
    let left = into_iter_items c.loop-planned.planned-iterator in
    let none : left ≡ [] = nil_from_length left (sym c.loop-planned.planned-iterator.rest.ok.0 ∙ c.in-None.ensures.steps.0) in
    sym (c.loop-planned.invariant.1
    ∙ ap (λ (ps : List Planned). c.loop-planned.deadlines.items ++ deadlines_in (map planned_text ps)) none
    ∙ append-nil c.loop-planned.deadlines.items)
