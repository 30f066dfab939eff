-- The frame was put into the queues of the hops so far.
use Rattle.cqf_instants.specs.Queues.{AddsToQueue, hops_to}
use Rattle.cqf_instants.proofs.queues.pass_on.Given as goal

abbrev pub invariant-loop-k : goal.invariant-loop-k
invariant-loop-k l = AddsToQueue l.initial.queues.items l.queues.items (hops_to l.branches l.first l.k l.frame)
