-- The calls are those of the orders that were read.
use Rattle.std.proofs.Common.{◌≡◌, ◌∙◌, All, List, Ok, ap, map, subst, sym}
use Rattle.cqf_topology.specs.declared.paced.PacedRequest.{PacedRequest}
use Rattle.cqf_admission.specs.Asking.{asked_paced}
use Rattle.cqf_admission.specs.declared.orders.Ordered.{Ordered}
use Rattle.cqf_admission.specs.Orders.{StandsIn, ordered_in}
use Rattle.cqf_admission.specs.Script.{AreFew, Called, called_of, script_of}
use Rattle.cqf_admission.proofs.calls.read_paced_script.Goals as goal

pub calls_by-requires : goal.calls_by-requires
calls_by-requires c =
    subst (λ (orders : List Ordered). All (λ (order : Ordered). StandsIn (map asked_paced c.args.requests.now) c.args.text.now order.what) orders)
    (sym c.as_slice.ensures.value)
    (subst (λ (requests : List PacedRequest). All (λ (order : Ordered). StandsIn (map asked_paced requests) c.args.text.now order.what) c.in_ok-orders.orders.items)
    c.in_ok-names.ensures c.in_ok-orders.ensures.stand)

pub returns-clause-calls : goal.returns-clause-calls
returns-clause-calls c =
    let all : map called_of c.in_ok-calls.calls.items ≡ map (ordered_in (map asked_paced c.args.requests.now) c.args.text.now) c.in_ok-orders.orders.items =
    c.in_ok-calls.ensures ∙ ap (map (ordered_in (map asked_paced c.args.requests.now) c.args.text.now)) c.as_slice.ensures.value in
    subst (λ (requests : List PacedRequest). script_of (map asked_paced requests) c.args.cycles c.args.text.now
    ≡ Ok (map (ordered_in (map asked_paced requests) c.args.text.now) c.in_ok-orders.orders.items)) c.in_ok-names.ensures c.in_ok-orders.ensures.orders
    ∙ ap Ok (sym all)

pub returns-clause-few : goal.returns-clause-few
returns-clause-few c =
    let all : map called_of c.in_ok-calls.calls.items ≡ map (ordered_in (map asked_paced c.args.requests.now) c.args.text.now) c.in_ok-orders.orders.items =
    c.in_ok-calls.ensures ∙ ap (map (ordered_in (map asked_paced c.args.requests.now) c.args.text.now)) c.as_slice.ensures.value in
    subst (λ (calls : List Called). AreFew c.args.cycles calls) (sym all)
    (subst (λ (requests : List PacedRequest). AreFew c.args.cycles (map (ordered_in (map asked_paced requests) c.args.text.now) c.in_ok-orders.orders.items))
    c.in_ok-names.ensures c.in_ok-orders.ensures.few)
