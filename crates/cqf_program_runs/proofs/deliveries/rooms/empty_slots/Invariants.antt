-- The slots so far are there, and nothing is kept in them.
use Rattle.cqf_program_runs.specs.Deliveries.UnderWay.{AreEmptySlots, slots_of}
use Rattle.cqf_program_runs.proofs.deliveries.rooms.empty_slots.Given as goal

abbrev pub invariant-loop-slot : goal.invariant-loop-slot
invariant-loop-slot l = AreEmptySlots l.width l._slot (slots_of l.slots.items)
