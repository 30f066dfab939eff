use Rattle.std.proofs.Common.{◌≡◌, ◌∙◌, ◌+◌, ◌++◌, ◌∷◌, [], List, ap, get_or, map, subst, sym, take}
use Rattle.std.proofs.lemmas.List.{map-append, take_more}
use Rattle.cqf_topology.specs.declared.paced.PacedRequest.{PacedRequest}
use Rattle.cqf_model.specs.History.{Asked}
use Rattle.cqf_admission.specs.Asking.{asked_paced}
use Rattle.cqf_program_summary.specs.Summary.Listing.{IsListing}
use Rattle.cqf_program_summary.proofs.summary.listing.list_streams.Goals as goal

pub loop-request-init : goal.loop-request-init
loop-request-init c = c.in_ok-listing.ensures c.args.domain.now

pub loop-request-preserved : goal.loop-request-preserved
loop-request-preserved c =
    let k = c.loop-request.request-index in
    let requests = c.args.requests.now in
    let item = c.request-item.result in
    let after = c.in_ok-listing-2 in
    let grown : map asked_paced (take (k + 1) requests) ≡ map asked_paced (take k requests) ++ asked_paced item ∷ [] =
    ap (map asked_paced) (take_more requests k item c.loop-request-test.true)
    ∙ map-append asked_paced (take k requests) (get_or requests k item ∷ [])
    ∙ ap (λ (r : PacedRequest). map asked_paced (take k requests) ++ asked_paced r ∷ []) (sym c.request-item.is) in
    subst (λ (asked : List Asked). IsListing c.args.domain.now asked after.listing) (sym grown)
    (after.ensures (map asked_paced (take k requests)) c.loop-request.invariant)
