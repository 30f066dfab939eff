-- Each request adds its copy.
use Rattle.std.proofs.Common.{◌≡◌, ◌∙◌, ◌++◌, ◌∷◌, [], map, ap, sym, take}
use Rattle.std.proofs.lemmas.List.{map-append, take_more}
use Rattle.cqf_topology.specs.declared.paced.PacedRequest.{PacedRequest}
use Rattle.cqf_admission.specs.Asking.{asked_paced, asked_shared}
use Rattle.cqf_admission.proofs.calls.all_shared.Goals as goal

pub loop-request-preserved : goal.loop-request-preserved
loop-request-preserved c =
    let requests = c.args.requests.now in
    let k = c.loop-request.request-index in
    let request = c.request-item.result in
    let copy = c.in_ok-shared_request.field-0 in
    let done = c.loop-request.copies.items in
    let same : asked_shared copy ≡ asked_paced request = c.in_ok-shared_request.ensures in
    ap (map asked_shared) c.in_ok-push.ensures.items
    ∙ map-append asked_shared done (copy ∷ [])
    ∙ (λ i. c.loop-request.invariant i ++ same i ∷ [])
    ∙ sym (map-append asked_paced (take k requests) (request ∷ []))
    ∙ ap (map asked_paced)
    (sym (take_more requests k request c.loop-request-test.true ∙ ap (λ (r : PacedRequest). take k requests ++ r ∷ []) (sym c.request-item.is)))
