-- The stream is among the rest.
use Rattle.std.proofs.Common.{◌≡◌}
use Rattle.cqf_program_planning.proofs.OrderSteps.{asked_from}
use Rattle.cqf_program_planning.proofs.orders.request_at.Given as goal

abbrev pub invariant-loop-position : goal.invariant-loop-position
invariant-loop-position l = asked_from l.index l.order l.outcomes 0 ≡ asked_from l.index l.order l.outcomes l.position
