use Rattle.cqf_program_plans.proofs.CostsByActiveCycle.{held_countable, held_little}
use Rattle.cqf_program_plans.proofs.latency.costs.Costs.new.Goals as goal

pub invariant_of-result : goal.invariant_of-result
invariant_of-result c = record {
  little = held_little c.args.domain.now c.args.rows.now c.requires.held.0 0 c.know.ensures.accepted c.requires.held.1;
  countable = held_countable c.args.domain.now c.args.rows.now c.requires.held.0 0 c.know.ensures.accepted c.requires.held.1;
  good = c.requires.good;
  each = c.in_ok-costs.ensures;
}
