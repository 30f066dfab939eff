use Rattle.cqf_laws_timing.proofs.LooseArriving.{loose_conforming_is_in_time, loose_planned_is_in_time}
use Rattle.cqf_laws_timing.proofs.talkers.conforming_stream_is_heard_in_time.Goals as goal

pub returns-clause-named : goal.returns-clause-named
returns-clause-named c =
    loose_conforming_is_in_time c.tables_are_orderly.ensures.orderly c.loose_history_means_the_shift.ensures c.loose_history_is_timely.ensures.timely
    c.branches_end_at_listeners.ensures.ends

pub returns-clause-planned : goal.returns-clause-planned
returns-clause-planned c =
    loose_planned_is_in_time c.tables_are_orderly.ensures.orderly c.loose_history_means_the_shift.ensures c.loose_history_is_timely.ensures.timely
    c.branches_end_at_listeners.ensures.ends c.lists_bound_costs.ensures.names
