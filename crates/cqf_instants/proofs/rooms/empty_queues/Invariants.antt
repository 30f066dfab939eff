-- There are this many empty queues.
use Rattle.cqf_instants.specs.Reporting.{AreEmptyQueues}
use Rattle.cqf_instants.proofs.rooms.empty_queues.Given as goal

abbrev pub invariant-loop-index : goal.invariant-loop-index
invariant-loop-index l = AreEmptyQueues l.links l.cycle_time l.guard l.offers l.index l.queues.items
