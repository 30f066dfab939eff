use Rattle.cqf_laws_coverage.proofs.Counters.{counter_of_the_row, counters_of_others}
use Rattle.cqf_laws_coverage.proofs.counters_step.Goals as goal

pub returns-clause-row : goal.returns-clause-row
returns-clause-row c = counter_of_the_row

pub returns-clause-others : goal.returns-clause-others
returns-clause-others c = counters_of_others c.rows_say_the_tables.ensures.one
