use Rattle.std.proofs.Common.{◌∙◌, ◌+◌, ◌<◌, ◌∷◌, [], List, ap, arith, length, map, refl, subst, sym}
use Rattle.std.proofs.lemmas.List.{length-map}
use Rattle.cqf_admission.specs.Asking.{asked_paced}
use Rattle.cqf_admission.specs.Forms.{IsRowOfGoodForm}
use Rattle.cqf_admission.specs.Ledger.{Kept}
use Rattle.cqf_model.specs.Domain.{Domain}
use Rattle.cqf_model.specs.History.{Asked}
use Rattle.cqf_admission.specs.Orders.{request_at}
use Rattle.cqf_output.specs.Stops.{IsRefused}
use Rattle.cqf_program_plans.specs.Compile.Output.{admitted_from}
use Rattle.cqf_program_plans.proofs.Planned.{admitted_more, asked_at, planned_more, refused_whole}
use Rattle.cqf_program_plans.proofs.compile.command.admit_all.Goals as goal

-- one more stream is admitted, and its row appended
pub loop-index-preserved : goal.loop-index-preserved
loop-index-preserved c =
    let d = c.args.domain.now in
    let requests : List Asked = map asked_paced c.args.requests.now in
    let so_far = c.loop-index.invariant in
    let index = c.loop-index.index in
    let old = c.loop-index.ledger in
    let learnt = c.learn.new.ledger in
    let inside : index < length requests = omega (arith, c.loop-index-test.true, length-map c.args.requests.now asked_paced) in
    let asked = asked_at c.args.requests.now index c.index-requests-index.result c.loop-index-test.true c.index-requests-index.is in
    let good : IsRowOfGoodForm d (request_at requests index) c.in-Ok.row =
    subst (λ (one : Asked). IsRowOfGoodForm d one c.in-Ok.row) asked c.in-Ok.ensures.ok in (
      c.admit_one.ensures.requests ∙ ap (λ (x : Kept). x.requests) c.learn.ensures.same ∙ so_far.0,
      planned_more d requests old learnt c.admit_one.new.ledger c.loop-index.rows.items c.push_row.new.rows.items c.in-Ok.row c.in-Ok-admit_one.receipt index
          c.learn.ensures.same so_far.0 so_far.1 c.admit_one.ensures.domain c.in-Ok-admit_one.ensures.held c.in-Ok-admit_one.ensures.one_more good
          c.in_ok-push_row.ensures.ok,
      admitted_more d requests old learnt c.admit_one.new.ledger.administration.entries index (admitted_from d [] 1 requests) c.learn.ensures.same so_far.0
          so_far.1.domain inside so_far.2 c.in-Ok-admit_one.ensures.ok,
    )

-- a form that isn't good refuses the plan
pub returns-in-Err-clause-err : goal.returns-in-Err-clause-err
returns-in-Err-clause-err c =
    let d = c.args.domain.now in
    let requests : List Asked = map asked_paced c.args.requests.now in
    let so_far = c.loop-index.invariant in
    let index = c.loop-index.index in
    let old = c.loop-index.ledger in
    let inside : index < length requests = omega (arith, c.loop-index-test.true, length-map c.args.requests.now asked_paced) in
    let asked = asked_at c.args.requests.now index c.index-requests-index.result c.loop-index-test.true c.index-requests-index.is
    ∙ ap (λ (rs : List Asked). request_at rs index) (sym so_far.0) in
    refused_whole (λ found. IsRefused found c.in-Err.stop) d requests old old index (admitted_from d [] 1 requests) refl so_far.0
    so_far.1.domain inside so_far.2
    (λ more. subst (λ (there : Domain). IsRefused (admitted_from there old.administration.entries (index + 1) (request_at old.requests index ∷ more))
    c.in-Err.stop) (sym so_far.1.domain)
    (subst (λ (one : Asked). IsRefused (admitted_from d old.administration.entries (index + 1) (one ∷ more)) c.in-Err.stop) asked
    (c.in-Err.ensures.err old.administration.entries more)))

-- and so does a stream that isn't admitted
pub returns-in-Err-admit_one-clause-err : goal.returns-in-Err-admit_one-clause-err
returns-in-Err-admit_one-clause-err c =
    let d = c.args.domain.now in
    let requests : List Asked = map asked_paced c.args.requests.now in
    let so_far = c.loop-index.invariant in
    let index = c.loop-index.index in
    let inside : index < length requests = omega (arith, c.loop-index-test.true, length-map c.args.requests.now asked_paced) in
    refused_whole (λ found. IsRefused found c.in-Err-admit_one.stop) d requests c.loop-index.ledger c.learn.new.ledger index (admitted_from d [] 1 requests)
    c.learn.ensures.same so_far.0 so_far.1.domain inside so_far.2 c.in-Err-admit_one.ensures.err
