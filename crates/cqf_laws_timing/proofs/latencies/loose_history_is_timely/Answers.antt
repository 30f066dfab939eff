use Rattle.cqf_laws_timing.proofs.LooseKept.{loose_history_is_in_time, loose_history_is_timely, loose_verdicts_hold}
use Rattle.cqf_laws_timing.proofs.latencies.loose_history_is_timely.Goals as goal

pub returns-clause-timely : goal.returns-clause-timely
returns-clause-timely c = loose_history_is_timely c.tables_are_orderly.ensures.orderly c.loose_frames_are_timely.ensures.whole

pub returns-clause-verdicts : goal.returns-clause-verdicts
returns-clause-verdicts c = loose_verdicts_hold c.tables_are_orderly.ensures.orderly c.loose_frames_are_timely.ensures.whole

pub returns-clause-in_time : goal.returns-clause-in_time
returns-clause-in_time c = loose_history_is_in_time c.tables_are_orderly.ensures.orderly c.loose_frames_are_timely.ensures.whole
