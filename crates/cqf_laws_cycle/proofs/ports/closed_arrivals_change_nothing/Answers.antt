use Rattle.cqf_model.proofs.Arrivals.{front_legal}
use Rattle.cqf_laws_cycle.proofs.Closed.{more_legal}
use Rattle.cqf_laws_cycle.proofs.ports.closed_arrivals_change_nothing.Goals as goal

pub returns : goal.returns
returns c rules arrivals closed end starts positive shut = (
  front_legal rules arrivals closed end positive (λ x h t. shut x t h) starts,
  more_legal c.late_arrival_changes_nothing.ensures rules arrivals closed end starts positive (λ x h t. shut x t h),
)
