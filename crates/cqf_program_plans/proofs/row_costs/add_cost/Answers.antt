use Rattle.std.proofs.Common.{arith}
use Rattle.cqf_units.proofs.Costs.{cost_within}
use Rattle.cqf_program_plans.proofs.row_costs.add_cost.Goals as goal

pub cost-requires-clause-less : goal.cost-requires-clause-less
cost-requires-clause-less c = omega (arith, c.requires.countable.overhead)

pub cost-requires-clause-fits : goal.cost-requires-clause-fits
cost-requires-clause-fits c =
    let row = c.args.row.now in
    omega (arith, cost_within row.overhead row.octets c.requires.countable.overhead, c.requires.countable.octets)
