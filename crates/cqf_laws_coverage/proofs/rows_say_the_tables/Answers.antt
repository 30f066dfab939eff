use Rattle.cqf_laws_coverage.proofs.Rows.{as_live, one_is_in_force, rows_are_found, rows_say_the_tables}
use Rattle.cqf_laws_coverage.proofs.rows_say_the_tables.Goals as goal

pub returns-clause-tables : goal.returns-clause-tables
returns-clause-tables c = rows_say_the_tables

pub returns-clause-found : goal.returns-clause-found
returns-clause-found c = rows_are_found

pub returns-clause-live : goal.returns-clause-live
returns-clause-live c = as_live

pub returns-clause-one : goal.returns-clause-one
returns-clause-one c = one_is_in_force c.tables_are_orderly.ensures.orderly
