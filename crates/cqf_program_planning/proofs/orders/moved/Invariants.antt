-- What is moved so far, and what is still to be.
use Rattle.std.proofs.Common.{◌≡◌, ◌++◌, Some}
use Rattle.cqf_program_planning.proofs.OrderSteps.{rest_moved}
use Rattle.cqf_program_planning.proofs.orders.moved.Given as goal

abbrev pub invariant-loop-index : goal.invariant-loop-index
invariant-loop-index l = rest_moved l.streams l.order l.first 0 (Some l.first) ≡ l.next.items ++ rest_moved l.streams l.order l.first l.index-index l.carried
