-- With edge gates the rows are those of the same streams with fewer hops.
use Rattle.std.proofs.Common.{List, subst, sym}
use Rattle.cqf_admission.specs.Tables.{AreAlongLinks}
use Rattle.cqf_admission.specs.ActiveCycles.{AreOfGoodPaces}
use Rattle.cqf_model.specs.Domain.{Domain}
use Rattle.cqf_program_plans.proofs.EdgeGates.{along_gated, paced_gated}
use Rattle.cqf_program_plans.proofs.compile.command.config_ready.Goals as goal

pub invariant_of-result : goal.invariant_of-result
invariant_of-result c =
    let d = c.args.domain.now in
    let rows = c.args.rows.items in
    record {
      along = subst (λ (there : Domain). AreAlongLinks there c.in_ok-gated.gated.items) (sym c.in_ok-plan.ensures)
          (subst (AreAlongLinks d) (sym c.in_ok-gated.ensures) (along_gated d c.args.edge_gates rows c.requires.along));
      paced = subst AreOfGoodPaces (sym c.in_ok-gated.ensures) (paced_gated c.args.edge_gates rows c.requires.paced);
    }
