use Rattle.std.proofs.Common.{◌+◌, ◌∷◌, ◌∙◌, ℕ, List, Result, ap, drop, map, subst, sym}
use Rattle.std.proofs.lemmas.List.{drop_more}
use Rattle.std.proofs.lemmas.Result.{err_from_is_err_and}
use Rattle.cqf_model.specs.declared.topology.Row.{Row}
use Rattle.cqf_output.specs.Stops.{IsRefused}
use Rattle.cqf_topology.specs.declared.paced.PacedRequest.{PacedRequest}
use Rattle.cqf_admission.specs.Asking.{asked_paced}
use Rattle.cqf_program_plans.specs.Load.Output.{listed_from}
use Rattle.cqf_program_plans.proofs.load.command.list_all.Goals as goal

pub loop-request-preserved : goal.loop-request-preserved
loop-request-preserved c =
    let d = c.args.domain.now in
    let requests = c.args.requests.now in
    let i = c.loop-request.request-index in
    let here = drop_more requests i c.request-item.result c.loop-request-test.true
    ∙ ap (λ (request : PacedRequest). request ∷ drop (i + 1) requests) (sym c.request-item.is) in
    c.loop-request.invariant
    ∙ ap (λ (rest : List PacedRequest). listed_from d c.loop-request.listing (map asked_paced rest)) here
    ∙ c.in_ok-listing.ensures.ok (map asked_paced (drop (i + 1) requests))

pub returns-in_err-listing-clause-err : goal.returns-in_err-listing-clause-err
returns-in_err-listing-clause-err c =
    let d = c.args.domain.now in
    let requests = c.args.requests.now in
    let i = c.loop-request.request-index in
    let here = drop_more requests i c.request-item.result c.loop-request-test.true
    ∙ ap (λ (request : PacedRequest). request ∷ drop (i + 1) requests) (sym c.request-item.is) in
    let same = c.loop-request.invariant ∙ ap (λ (rest : List PacedRequest). listed_from d c.loop-request.listing (map asked_paced rest)) here in
    let reported = subst (λ (found : Result (List Row) (List ℕ)). IsRefused found c.in_err-listing.field-0.0) (sym same)
    (c.in_err-listing.ensures.err (map asked_paced (drop (i + 1) requests))) in
    let p = err_from_is_err_and c.from_residual.result c.from_residual.ensures.1 in
    rw (p.1, p.2) reported
