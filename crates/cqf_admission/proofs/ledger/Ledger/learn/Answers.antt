use Rattle.std.proofs.Common.{◌≡◌, ◌<◌, arith, get_or, length, map, subst, sym}
use Rattle.std.proofs.lemmas.List.{get_or_default, length-map}
use Rattle.cqf_model.specs.History.{Asked}
use Rattle.cqf_admission.specs.Orders.{request_at}
use Rattle.cqf_admission.specs.Asking.{asked_paced}
use Rattle.cqf_admission.specs.Forms.{IsRowOfGoodForm}
use Rattle.cqf_admission.specs.Ledger.{Kept}
use Rattle.cqf_admission.specs.declared.forms.RequestForm.TheVariants.{Good}
use Rattle.cqf_admission.proofs.Logging.{asked_at, forms_set, some_request}
use Rattle.cqf_admission.proofs.ledger.Ledger.learn.Goals as goal

pub invariant_of-self : goal.invariant_of-self
invariant_of-self c =
    let i = c.self.inside in
    let rs = i.requests.now in
    let low : c.args.index < length rs =
    omega (arith, subst (λ (k : Kept). c.args.index < length k.requests) (sym c.self.view_is) c.requires.there, length-map rs asked_paced) in
    let some = some_request rs c.args.index low in
    let request = get_or rs c.args.index some in
    let is : request ≡ get_or rs c.args.index request = get_or_default rs c.args.index some request low in
    let given : IsRowOfGoodForm i.domain.now (request_at (map asked_paced rs) c.args.index) c.args.row.now =
    subst (λ (k : Kept). IsRowOfGoodForm k.administration.domain (request_at k.requests c.args.index) c.args.row.now) (sym c.self.view_is) c.requires.row in
    let of : IsRowOfGoodForm i.domain.now (asked_paced request) c.in_ok-try_copy.field-0 =
    subst (IsRowOfGoodForm i.domain.now (asked_paced request)) (sym c.in_ok-try_copy.ensures)
    (subst (λ (asked : Asked). IsRowOfGoodForm i.domain.now asked c.args.row.now) (asked_at rs c.args.index request low is) given) in
    (c.self.invariant.0, forms_set i.domain.now rs i.forms.items c.args.index request (Good c.in_ok-try_copy.field-0) c.self.invariant.1 low is of, c.self.invariant.2)
