-- The indices so far.
use Rattle.std.proofs.Common.{◌≡◌}
use Rattle.cqf_program_planning.specs.Orders.{first_order}
use Rattle.cqf_program_planning.proofs.orders.first_order.Given as goal

abbrev pub invariant-loop-index : goal.invariant-loop-index
invariant-loop-index l = l.order.items ≡ first_order l.index
