use Rattle.std.proofs.Common.{arith}
use Rattle.cqf_units.proofs.Costs.{cost_within}
use Rattle.cqf_program_explanations.proofs.budgets.cost_of.Goals as goal

pub cost-requires-clause-fits : goal.cost-requires-clause-fits
cost-requires-clause-fits c =
    omega (arith, cost_within c.overhead.result c.min.result c.overhead.ensures.short, c.min.ensures)
