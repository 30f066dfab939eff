-- Each request adds its copy.
use Rattle.std.proofs.Common.{◌≡◌, ◌∙◌, ◌++◌, ◌∷◌, [], arith, map, ap, sym, take}
use Rattle.std.proofs.lemmas.List.{map-append, take_all, take_more}
use Rattle.cqf_topology.specs.declared.paced.PacedRequest.{PacedRequest}
use Rattle.cqf_admission.specs.Asking.{asked_paced, asked_shared}
use Rattle.cqf_admission.proofs.calls.all_judged.Goals as goal

pub loop-position-preserved : goal.loop-position-preserved
loop-position-preserved c =
    let requests = c.args.requests.now in
    let k = c.loop-position.position in
    let request = c.index-requests-position.result in
    let copy = c.in_ok-copy.copy in
    let done = c.loop-position.copies.items in
    let same : asked_shared copy ≡ asked_paced request = c.in_ok-copy.ensures in
    ap (map asked_shared) c.in_ok-push.ensures.items
    ∙ map-append asked_shared done (copy ∷ [])
    ∙ (λ i. c.loop-position.invariant i ++ same i ∷ [])
    ∙ sym (map-append asked_paced (take k requests) (request ∷ []))
    ∙ ap (map asked_paced)
    (sym (take_more requests k request c.loop-position-test.true ∙ ap (λ (r : PacedRequest). take k requests ++ r ∷ []) (sym c.index-requests-position.is)))

pub returns : goal.returns
returns c =
    c.loop-position.invariant
    ∙ ap (map asked_paced) (take_all c.loop-position.position c.args.requests.now (omega (arith, c.loop-position-test.false)))
