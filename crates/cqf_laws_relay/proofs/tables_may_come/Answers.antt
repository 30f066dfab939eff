use Rattle.cqf_laws_relay.proofs.Coming.{tables_may_come}
use Rattle.cqf_laws_relay.proofs.tables_may_come.Goals as goal

pub returns : goal.returns
returns c =
    tables_may_come c.tables_are_orderly.ensures.orderly c.tables_are_orderly.ensures.ascend c.rows_say_the_tables.ensures.tables c.rows_follow.ensures.begin
