-- The costs of the links so far.
use Rattle.std.proofs.Common.{◌≡◌, ◌∷◌, []}
use Rattle.cqf_lists.specs.Lists.{each_below}
use Rattle.cqf_admission.specs.Costs.{most_cost}
use Rattle.cqf_program_plans.proofs.latency.costs.link_costs.Given as goal

abbrev pub invariant-loop-link : goal.invariant-loop-link
invariant-loop-link l = l.costs.items ≡ each_below (λ link. most_cost l.rows link ∷ []) l.link
