use Rattle.cqf_program_laws.proofs.Judged.{verdicts_hold_of_accounts, verdicts_hold_of_deliveries, verdicts_hold_of_scripts}
use Rattle.cqf_program_laws.proofs.written_verdicts_hold.Goals as goal

pub returns-clause-deliveries : goal.returns-clause-deliveries
returns-clause-deliveries c =
    let t = c.reported_bounds_hold.ensures in
    verdicts_hold_of_deliveries t.planned t.names t.reported c.lists_bound_costs.ensures.names c.tables_are_orderly.ensures.orderly
    c.book_of_history_says_the_shift.ensures c.arrivals_are_the_shift.ensures

pub returns-clause-scripts : goal.returns-clause-scripts
returns-clause-scripts c =
    let t = c.reported_bounds_hold.ensures in
    let s = c.scripts_admit_only.ensures in
    verdicts_hold_of_scripts
    (verdicts_hold_of_deliveries t.planned t.names t.reported c.lists_bound_costs.ensures.names c.tables_are_orderly.ensures.orderly
    c.book_of_history_says_the_shift.ensures c.arrivals_are_the_shift.ensures)
    s.planned s.histories s.legal

pub returns-clause-accounts : goal.returns-clause-accounts
returns-clause-accounts c =
    let t = c.reported_bounds_hold.ensures in
    let s = c.scripts_admit_only.ensures in
    verdicts_hold_of_accounts
    (verdicts_hold_of_deliveries t.planned t.names t.reported c.lists_bound_costs.ensures.names c.tables_are_orderly.ensures.orderly
    c.book_of_history_says_the_shift.ensures c.arrivals_are_the_shift.ensures)
    s.planned s.accounts
