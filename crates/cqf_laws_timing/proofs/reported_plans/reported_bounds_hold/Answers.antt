use Rattle.cqf_laws_timing.proofs.Held.{loose_reported_holds, names_identify_streams, reported_holds}
use Rattle.cqf_laws_timing.proofs.Planned.{rows_are_planned}
use Rattle.cqf_laws_timing.proofs.reported_plans.reported_bounds_hold.Goals as goal

pub returns-clause-planned : goal.returns-clause-planned
returns-clause-planned c =
    let s = c.state_follows_history.ensures in
    rows_are_planned s.granted s.goes_on s.counted s.room

pub returns-clause-names : goal.returns-clause-names
returns-clause-names c =
    let s = c.state_follows_history.ensures in
    let l = c.lists_bound_costs.ensures in
    names_identify_streams (rows_are_planned s.granted s.goes_on s.counted s.room) l.rows l.one

pub returns-clause-reported : goal.returns-clause-reported
returns-clause-reported c =
    let s = c.state_follows_history.ensures in
    let l = c.lists_bound_costs.ensures in
    reported_holds (names_identify_streams (rows_are_planned s.granted s.goes_on s.counted s.room) l.rows l.one) c.tables_are_orderly.ensures.orderly l.admitted
    c.lists_bound_latencies.ensures.timely

pub returns-clause-loose : goal.returns-clause-loose
returns-clause-loose c =
    let s = c.state_follows_history.ensures in
    let l = c.lists_bound_costs.ensures in
    loose_reported_holds (names_identify_streams (rows_are_planned s.granted s.goes_on s.counted s.room) l.rows l.one) c.tables_are_orderly.ensures.orderly
    l.admitted c.loose_history_is_timely.ensures.timely
