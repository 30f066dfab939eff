-- The first that isn't placed is among the rest.
use Rattle.std.proofs.Common.{◌≡◌}
use Rattle.cqf_program_planning.proofs.OrderSteps.{without_from}
use Rattle.cqf_program_planning.proofs.orders.first_without.Given as goal

abbrev pub invariant-loop-position : goal.invariant-loop-position
invariant-loop-position l = without_from l.order l.outcomes 0 ≡ without_from l.order l.outcomes l.position
