use Rattle.cqf_program_runs.proofs.KeptSlots.{empty_more, empty_none}
use Rattle.cqf_program_runs.proofs.deliveries.rooms.empty_slots.Goals as goal

pub loop-slot-init : goal.loop-slot-init
loop-slot-init c = empty_none c.args.width c.in_ok-slots.slots.items c.in_ok-slots.ensures.items

pub loop-slot-preserved : goal.loop-slot-preserved
loop-slot-preserved c =
    empty_more c.args.width c.loop-slot._slot c.loop-slot.slots.items c.push_back.new.self.items c.in_ok-empty_slot.field-0 c.loop-slot.invariant
    c.in_ok-empty_slot.ensures c.in_ok-push_back.ensures.items
