use Rattle.std.proofs.Common.{Contains, ℕ, arith, subst, sym}
use Rattle.cqf_admission.specs.Rows.{IsCountable}
use Rattle.cqf_admission.specs.ActiveCycles.{AreNone}
use Rattle.cqf_program_plans.proofs.CostsByActiveCycle.{costs_more, costs_none, costs_room, held_countable, held_little}
use Rattle.cqf_program_plans.proofs.latency.costs.costs_of.Goals as goal

pub add_cost-requires-clause-countable : goal.add_cost-requires-clause-countable
add_cost-requires-clause-countable c =
    let rows = c.args.rows.now in
    let row = c.row-item.result in
    let among : Contains rows row = (c.loop-row.row-index, c.loop-row-test.true, sym c.row-item.is) in
    subst (λ (n : ℕ). IsCountable n row) (sym c.loop-row.invariant.as_many)
    (held_countable c.args.domain.now rows c.requires.held.0 0 c.know.ensures.accepted c.requires.held.1 row among)

pub add_cost-requires-clause-good : goal.add_cost-requires-clause-good
add_cost-requires-clause-good c = c.requires.good c.row-item.result (c.loop-row.row-index, c.loop-row-test.true, sym c.row-item.is)

pub add_cost-requires-clause-room : goal.add_cost-requires-clause-room
add_cost-requires-clause-room c =
    let d = c.args.domain.now in
    let rows = c.args.rows.now in
    costs_room _ rows c.loop-row.row-index c.row-item.result c.loop-row-test.true c.row-item.is c.loop-row.costs c.loop-row.invariant 110000000 (omega arith)
    (held_little d rows c.requires.held.0 0 c.know.ensures.accepted c.requires.held.1)

pub loop-row-init : goal.loop-row-init
loop-row-init c = costs_none _ c.args.rows.now c.in_ok-costs.costs (subst (λ (n : ℕ). AreNone c.in_ok-costs.costs n) c.links.ensures c.in_ok-costs.ensures)

pub loop-row-preserved : goal.loop-row-preserved
loop-row-preserved c =
    costs_more _ c.args.rows.now c.loop-row.row-index c.row-item.result c.loop-row-test.true c.row-item.is c.loop-row.costs c.loop-row.invariant
    c.add_cost.new.sums c.add_cost.ensures
