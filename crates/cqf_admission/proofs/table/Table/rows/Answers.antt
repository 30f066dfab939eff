use Rattle.std.proofs.Common.{subst}
use Rattle.cqf_admission.specs.ActiveCycles.{AreOfGoodPaces}
use Rattle.cqf_admission.specs.Tables.{CycleTable}
use Rattle.cqf_admission.proofs.table.Table.rows.Goals as goal

pub returns-clause-good : goal.returns-clause-good
returns-clause-good c = subst (λ (t : CycleTable). AreOfGoodPaces t.rows) c.self.view_is c.self.invariant.1
