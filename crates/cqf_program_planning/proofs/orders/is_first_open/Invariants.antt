-- The first whose path is to be found is among the rest.
use Rattle.std.proofs.Common.{◌≡◌}
use Rattle.cqf_program_planning.proofs.OrderSteps.{open_from}
use Rattle.cqf_program_planning.proofs.orders.is_first_open.Given as goal

abbrev pub invariant-loop-index : goal.invariant-loop-index
invariant-loop-index l = open_from l.streams l.order l.first 0 ≡ open_from l.streams l.order l.first l.index-index
