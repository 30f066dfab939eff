use Rattle.cqf_laws_shift.proofs.CycleLaws.{cycle_laws}
use Rattle.cqf_laws_coverage.proofs.Reported.{cells_fit}
use Rattle.cqf_laws_coverage.proofs.cells_fit.Goals as goal

pub returns : goal.returns
returns c =
    cells_fit
    (cycle_laws c.port_is_one_cycle_late.ensures c.streams_are_sent_as_alone.ensures c.gate_gives_class.ensures c.gate_counts_cycles.ensures)
    c.run_beside_is_run_alone.ensures c.gates_mean_the_shift.ensures c.tables_are_orderly.ensures.orderly c.book_exists.ensures c.report_is_counted.ensures
