use Rattle.cqf_program_laws.proofs.RowLaws.{rows_add_up}
use Rattle.cqf_program_laws.proofs.summaries_add_up.Goals as goal

pub returns : goal.returns
returns c =
    let s = c.scripts_admit_only.ensures in
    rows_add_up s.scripts s.histories s.legal c.lists_bound_costs.ensures.rows c.tables_are_orderly.ensures.orderly c.each_is_written_once.ensures.once
    c.each_is_written_once.ensures.listeners
