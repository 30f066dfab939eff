use Rattle.cqf_laws_coverage.proofs.Names.{rows_of_a_name_follow, rows_stand_as_they_begin}
use Rattle.cqf_laws_coverage.proofs.rows_follow.Goals as goal

pub returns-clause-begin : goal.returns-clause-begin
returns-clause-begin c = rows_stand_as_they_begin

pub returns-clause-follow : goal.returns-clause-follow
returns-clause-follow c = rows_of_a_name_follow c.rows_say_the_tables.ensures.one c.state_follows_history.ensures.held
