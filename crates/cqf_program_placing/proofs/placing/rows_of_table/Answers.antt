use Rattle.std.proofs.Common.{arith, subst, sym}
use Rattle.std.specs.Arc.{arc_value}
use Rattle.cqf_admission.specs.ActiveCycles.{AreOfGoodPaces}
use Rattle.cqf_program_placing.proofs.IndexLemmas.{all_made}
use Rattle.cqf_program_placing.proofs.placing.rows_of_table.Goals as goal

pub returns-clause-good : goal.returns-clause-good
returns-clause-good c =
    subst AreOfGoodPaces
    (sym (all_made c.rows-row-items.result.now (λ row. arc_value row) c.loop-row.row-index c.loop-row.rows.items c.args.table.now.rows c.loop-row.invariant
    (omega (arith, c.loop-row-test.false)) c.rows-row-items.ensures.rows)) c.rows-row-items.ensures.good
