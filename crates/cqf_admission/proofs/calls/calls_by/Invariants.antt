-- The calls so far are those of the orders so far.
use Rattle.std.proofs.Common.{◌≡◌, map, take}
use Rattle.cqf_admission.specs.Asking.{asked_shared}
use Rattle.cqf_admission.specs.Orders.{ordered_in}
use Rattle.cqf_admission.specs.Script.{called_of}
use Rattle.cqf_admission.proofs.calls.calls_by.Given as goal

abbrev pub invariant-loop-order : goal.invariant-loop-order
invariant-loop-order l =
    map called_of l.calls.items ≡ map (ordered_in (map asked_shared l.shared.items) l.text) (take l.order-index l.orders)
