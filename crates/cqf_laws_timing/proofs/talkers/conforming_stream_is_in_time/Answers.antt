use Rattle.cqf_laws_timing.proofs.Arriving.{conforming_own_is_in_time, conforming_stream_is_in_time, planned_stream_is_in_time}
use Rattle.cqf_laws_timing.proofs.talkers.conforming_stream_is_in_time.Goals as goal

pub returns-clause-named : goal.returns-clause-named
returns-clause-named c =
    conforming_stream_is_in_time c.book_of_history_says_the_shift.ensures c.lists_bound_latencies.ensures.timely c.lists_bound_latencies.ensures.verdicts
    c.branches_end_at_listeners.ensures.ends

pub returns-clause-own : goal.returns-clause-own
returns-clause-own c =
    conforming_own_is_in_time c.book_of_history_says_the_shift.ensures c.lists_bound_latencies.ensures.timely c.lists_bound_latencies.ensures.verdicts
    c.branches_end_at_listeners.ensures.ends

pub returns-clause-planned : goal.returns-clause-planned
returns-clause-planned c =
    planned_stream_is_in_time c.book_of_history_says_the_shift.ensures c.lists_bound_latencies.ensures.timely c.lists_bound_latencies.ensures.verdicts
    c.branches_end_at_listeners.ensures.ends c.lists_bound_costs.ensures.names
