use Rattle.std.proofs.Common.{◌∙◌, arith, refl, subst, sym}
use Rattle.cqf_port.specs.PortState.{IsOutOfOrder}
use Rattle.cqf_bridge.specs.PortRecord.{PortRecord}
use Rattle.cqf_bridge.proofs.Taking.{all_taken, next_in_order, none_taken}
use Rattle.cqf_bridge.proofs.sending.take_background.Goals as goal

pub loop-frame-init : goal.loop-frame-init
loop-frame-init c = none_taken c.args.port.now c.args.background.now c.requires

pub returns : goal.returns
returns c = c.loop-frame.invariant ∙ all_taken c.args.port.now c.args.background.now c.requires c.loop-frame.frame-index
    (omega (arith, c.loop-frame-test.false))

pub record-requires-clause-in_order : goal.record-requires-clause-in_order
record-requires-clause-in_order c =
    subst (λ (r : PortRecord). ¬ IsOutOfOrder r.port c.arrival_of.result) (sym c.loop-frame.invariant)
    (next_in_order c.args.port.now c.args.background.now c.requires c.loop-frame.frame-index _ _ c.loop-frame-test.true refl _ c.arrival_of.ensures)
