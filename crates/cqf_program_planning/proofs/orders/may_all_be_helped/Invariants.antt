-- What is still to be asked is whether another order may help the rest.
use Rattle.std.proofs.Common.{◌≡◌}
use Rattle.cqf_program_planning.proofs.OrderSteps.{helped_from}
use Rattle.cqf_program_planning.proofs.orders.may_all_be_helped.Given as goal

abbrev pub invariant-loop-position : goal.invariant-loop-position
invariant-loop-position l = helped_from l.streams l.order l.outcomes 0 ≡ helped_from l.streams l.order l.outcomes l.position
