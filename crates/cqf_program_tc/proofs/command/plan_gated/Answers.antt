-- With edge gates the rows are of the same streams.
use Rattle.std.proofs.Common.{◌∙◌, AllPairs, List, subst, sym, ◌<◌}
use Rattle.cqf_admission.specs.ActiveCycles.{AreOfGoodPaces}
use Rattle.cqf_model.specs.declared.topology.Row.{Row}
use Rattle.cqf_program_plans.proofs.EdgeGates.{numbers_gated, paced_gated}
use Rattle.cqf_program_tc.proofs.command.plan_gated.Goals as goal

pub plan_ready-requires-clause-paced : goal.plan_ready-requires-clause-paced
plan_ready-requires-clause-paced c =
    subst AreOfGoodPaces (sym c.in_ok-gated.ensures) (paced_gated c.args.edge_gates c.args.rows.items c.requires.paced)

pub plan_ready-requires-clause-numbers : goal.plan_ready-requires-clause-numbers
plan_ready-requires-clause-numbers c =
    subst (λ (rows : List Row). AllPairs (λ (a b : Row). a.no < b.no) rows) (sym c.in_ok-gated.ensures)
    (numbers_gated c.args.edge_gates c.args.rows.items c.requires.numbers)

pub returns-clause-rows : goal.returns-clause-rows
returns-clause-rows c = c.in_ok-plan.ensures.rows ∙ c.in_ok-gated.ensures
