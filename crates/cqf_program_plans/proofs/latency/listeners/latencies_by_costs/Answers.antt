use Rattle.std.proofs.Common.{List, length, subst, sym}
use Rattle.cqf_model.specs.declared.topology.Row.{Row}
use Rattle.cqf_admission.specs.ActiveCycles.{AreOfGoodPaces}
use Rattle.cqf_program_plans.specs.Latency.Output.{AreCountable}
use Rattle.cqf_program_plans.proofs.latency.listeners.latencies_by_costs.Goals as goal

pub push_listeners-requires-clause-countable : goal.push_listeners-requires-clause-countable
push_listeners-requires-clause-countable c =
    let each : AreCountable (length c.args.costs.now.domain.links) c.rows-row-items.result.now =
    subst (λ (rows : List Row). AreCountable (length c.args.costs.now.domain.links) rows) (sym c.rows-row-items.ensures.rows) c.rows-row-items.ensures.countable in
    each c.row-item.result (c.loop-row.row-index, c.loop-row-test.true, sym c.row-item.is)

pub push_listeners-requires-clause-good : goal.push_listeners-requires-clause-good
push_listeners-requires-clause-good c =
    let each : AreOfGoodPaces c.rows-row-items.result.now = subst AreOfGoodPaces (sym c.rows-row-items.ensures.rows) c.rows-row-items.ensures.good in
    each c.row-item.result (c.loop-row.row-index, c.loop-row-test.true, sym c.row-item.is)
