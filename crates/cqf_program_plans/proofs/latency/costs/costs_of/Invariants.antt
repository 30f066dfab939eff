-- The costs of the rows so far.
use Rattle.std.proofs.Common.{length, take}
use Rattle.cqf_program_plans.specs.Latency.Output.{AreCostsOf}
use Rattle.cqf_program_plans.proofs.latency.costs.costs_of.Given as goal

abbrev pub invariant-loop-row : goal.invariant-loop-row
invariant-loop-row l = AreCostsOf (length l.domain.links) (take l.row-index l.rows) l.costs
