use Rattle.std.proofs.Common.{refl}
use Rattle.cqf_refused_values.proofs.none.is_plan.Goals as goal

-- a table's streams have good paces
pub gate_of-requires : goal.gate_of-requires
gate_of-requires c =
    let row = c.in-Some.row.now in
    c.rows-rows.ensures.good row ((c.in-Some.ensures.the_row row).0 refl).0
