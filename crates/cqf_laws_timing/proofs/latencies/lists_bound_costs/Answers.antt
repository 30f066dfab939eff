use Rattle.cqf_laws_timing.proofs.Listed.{admits_only_goes_on, admitted_have_names, list_costs_its_table}
use Rattle.cqf_laws_timing.proofs.Listed.{none_admits_only, one_of_a_name, rows_are_of_list, tables_cost_no_more}
use Rattle.cqf_laws_timing.proofs.latencies.lists_bound_costs.Goals as goal

pub returns-clause-none : goal.returns-clause-none
returns-clause-none c = none_admits_only

pub returns-clause-more : goal.returns-clause-more
returns-clause-more c = admits_only_goes_on

pub returns-clause-rows : goal.returns-clause-rows
returns-clause-rows c = rows_are_of_list

pub returns-clause-tables : goal.returns-clause-tables
returns-clause-tables c = tables_cost_no_more c.tables_are_orderly.ensures.orderly

pub returns-clause-admitted : goal.returns-clause-admitted
returns-clause-admitted c =
    let s = c.state_follows_history.ensures in
    list_costs_its_table s.granted s.goes_on s.counted s.room

pub returns-clause-names : goal.returns-clause-names
returns-clause-names c =
    let s = c.state_follows_history.ensures in
    admitted_have_names s.granted s.goes_on s.counted s.room

pub returns-clause-one : goal.returns-clause-one
returns-clause-one c =
    let s = c.state_follows_history.ensures in
    one_of_a_name s.granted s.goes_on s.counted s.room
