use Rattle.cqf_program_laws.proofs.EachRow.{each_listener_has_a_row, each_offer_counts}
use Rattle.cqf_program_laws.proofs.each_offer_counts_once.Goals as goal

pub returns-clause-once : goal.returns-clause-once
returns-clause-once c =
    let s = c.scripts_admit_only.ensures in
    each_offer_counts s.scripts s.histories s.legal c.lists_bound_costs.ensures.rows c.tables_are_orderly.ensures.orderly
    c.each_is_written_once.ensures.once c.each_is_written_once.ensures.listeners

pub returns-clause-rows : goal.returns-clause-rows
returns-clause-rows c =
    let s = c.scripts_admit_only.ensures in
    each_listener_has_a_row s.scripts s.histories s.legal c.lists_bound_costs.ensures.rows
