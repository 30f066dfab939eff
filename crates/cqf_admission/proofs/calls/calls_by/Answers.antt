-- Each order adds its call.
use Rattle.std.proofs.Common.{◌≡◌, ◌∙◌, ap, map, arith, take}
use Rattle.std.proofs.lemmas.List.{take_all}
use Rattle.cqf_admission.specs.Orders.{ordered_in}
use Rattle.cqf_admission.specs.Script.{called_of}
use Rattle.cqf_admission.proofs.calls.calls_by.Goals as goal

pub loop-order-init : goal.loop-order-init
loop-order-init c = ap (map called_of) c.new-calls.ensures.items

-- at the end they are the calls of all orders, with the requests that are shared
pub returns : goal.returns
returns c =
    let whole : take c.loop-order.order-index c.args.orders.now ≡ c.args.orders.now =
    take_all c.loop-order.order-index c.args.orders.now (omega (arith, c.loop-order-test.false)) in
    c.loop-order.invariant
    ∙ (λ i. map (ordered_in (c.in_ok-shared.ensures i) c.args.text.now) (whole i))
