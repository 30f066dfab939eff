use Rattle.std.proofs.Common.{List, subst, sym}
use Rattle.cqf_admission.specs.ActiveCycles.{AreOfGoodPaces}
use Rattle.cqf_model.specs.declared.topology.Row.{Row}
use Rattle.cqf_program_plans.proofs.EdgeGates.{paced_gated}
use Rattle.cqf_program_tc.specs.Rows.{AreByBridge, indices_in}
use Rattle.cqf_program_json.proofs.command.object_ready.Goals as goal

pub invariant_of-result : goal.invariant_of-result
invariant_of-result c = record {
  paced = subst AreOfGoodPaces (sym c.in_ok-gated.ensures) (paced_gated c.args.edge_gates c.args.rows.items c.requires);
  by_bridge = subst (λ (rows : List Row). AreByBridge c.args.domain rows (indices_in c.in_ok-indices.indices.items)) c.as_slice.ensures.value c.in_ok-indices.ensures;
}
