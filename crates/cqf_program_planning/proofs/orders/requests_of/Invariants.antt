-- The requests so far, before those of the rest.
use Rattle.std.proofs.Common.{◌≡◌, ◌-◌, map}
use Rattle.cqf_admission.specs.Asking.{asked_paced}
use Rattle.cqf_program_placing.specs.Placing.{outcome_value}
use Rattle.cqf_program_planning.specs.Orders.{requests_from}
use Rattle.cqf_program_planning.proofs.OrderSteps.{put_before}
use Rattle.cqf_program_planning.proofs.orders.requests_of.Given as goal

abbrev pub invariant-loop-index : goal.invariant-loop-index
invariant-loop-index l =
    requests_from l.order (map outcome_value l.outcomes) 0 l.count
    ≡ put_before (map asked_paced l.requests.items) (requests_from l.order (map outcome_value l.outcomes) l.index (l.count - l.index))
