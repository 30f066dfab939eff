use Rattle.std.proofs.Common.{◌≡◌, ◌∙◌, ◌++◌, ◌∷◌, [], List, ap, arith, map, sym}
use Rattle.std.proofs.lemmas.List.{map_push}
use Rattle.cqf_admission.specs.Asking.{asked_by, asked_paced}
use Rattle.cqf_model.specs.History.{Asked}
use Rattle.cqf_program_placing.specs.Placing.{outcome_value}
use Rattle.cqf_program_planning.specs.Orders.{requests_from}
use Rattle.cqf_program_planning.proofs.OrderSteps.{none_put, put_begins, put_end, put_more}
use Rattle.cqf_program_planning.proofs.orders.requests_of.Goals as goal

pub loop-index-init : goal.loop-index-init
loop-index-init c =
    put_begins c.args.order.now c.args.outcomes.now c.args.count (map asked_paced c.in_ok-requests.requests.items)
    (ap (map asked_paced) c.in_ok-requests.ensures.items)

-- one isn't placed
pub returns-in_default : goal.returns-in_default
returns-in_default c =
    let order = c.args.order.now in
    let outcomes = c.args.outcomes.now in
    sym (none_put order outcomes c.args.count c.loop-index.index c.loop-index-test.true (requests_from order (map outcome_value outcomes) 0 c.args.count)
    (map asked_paced c.loop-index.requests.items) (sym c.in_default.ensures) c.loop-index.invariant)

-- one more is put
pub loop-index-preserved : goal.loop-index-preserved
loop-index-preserved c =
    let order = c.args.order.now in
    let outcomes = c.args.outcomes.now in
    let done = c.loop-index.requests.items in
    let copy = c.in_ok-copy.copy in
    let same : asked_paced copy ≡ asked_paced c.in-Some.request.now = ap asked_by c.in_ok-copy.ensures in
    put_more order outcomes c.args.count c.loop-index.index c.loop-index-test.true (asked_paced c.in-Some.request.now)
    (requests_from order (map outcome_value outcomes) 0 c.args.count) (map asked_paced done) (map asked_paced c.push.new.self.items) (sym c.in-Some.ensures)
    c.loop-index.invariant (ap (map asked_paced) c.in_ok-push.ensures.items ∙ map_push asked_paced done copy
    ∙ ap (λ (a : Asked). map asked_paced done ++ a ∷ []) same)

pub returns : goal.returns
returns c =
    let order = c.args.order.now in
    let outcomes = c.args.outcomes.now in
    put_end order outcomes c.args.count c.loop-index.index (requests_from order (map outcome_value outcomes) 0 c.args.count)
    (map asked_paced c.loop-index.requests.items) (omega (arith, c.loop-index-test.false)) c.loop-index.invariant
