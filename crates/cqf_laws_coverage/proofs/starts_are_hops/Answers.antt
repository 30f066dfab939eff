use Rattle.cqf_laws_shift.proofs.CycleLaws.{cycle_laws}
use Rattle.cqf_laws_coverage.proofs.Hops.{starts_are_hops}
use Rattle.cqf_laws_coverage.proofs.starts_are_hops.Goals as goal

pub returns : goal.returns
returns c =
    starts_are_hops
    (cycle_laws c.port_is_one_cycle_late.ensures c.streams_are_sent_as_alone.ensures c.gate_gives_class.ensures c.gate_counts_cycles.ensures)
    c.run_beside_is_run_alone.ensures c.book_says_the_shift.ensures
