-- Each request adds its copy.
use Rattle.std.proofs.Common.{◌≡◌, ◌∙◌, ◌++◌, ◌∷◌, [], map, ap, sym, take}
use Rattle.std.proofs.lemmas.List.{map-append, take_more}
use Rattle.cqf_topology.specs.declared.streams.Request.{Request}
use Rattle.cqf_admission.specs.Asking.{asked_by, asked_of, asked_paced}
use Rattle.cqf_admission.proofs.calls.all_in_each_cycle.Goals as goal

pub loop-request-preserved : goal.loop-request-preserved
loop-request-preserved c =
    let requests = c.args.requests.now in
    let k = c.loop-request.request-index in
    let request = c.request-item.result in
    let copy = c.in_ok-in_each_cycle.field-0 in
    let done = c.loop-request.copies.items in
    let same : asked_paced copy ≡ asked_of request = ap asked_by c.in_ok-in_each_cycle.ensures in
    ap (map asked_paced) c.in_ok-push.ensures.items
    ∙ map-append asked_paced done (copy ∷ [])
    ∙ (λ i. c.loop-request.invariant i ++ same i ∷ [])
    ∙ sym (map-append asked_of (take k requests) (request ∷ []))
    ∙ ap (map asked_of)
    (sym (take_more requests k request c.loop-request-test.true ∙ ap (λ (r : Request). take k requests ++ r ∷ []) (sym c.request-item.is)))
