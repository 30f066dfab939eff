use Rattle.cqf_program_laws.proofs.Bounded.{latencies_are_bounded}
use Rattle.cqf_program_laws.proofs.summaries_are_within_bounds.Goals as goal

pub returns : goal.returns
returns c =
    let s = c.scripts_admit_only.ensures in
    latencies_are_bounded c.lists_bound_costs.ensures.rows c.lists_bound_latencies.ensures.timely c.tables_are_orderly.ensures.orderly
    c.arrivals_are_the_shift.ensures s.scripts s.histories s.legal
