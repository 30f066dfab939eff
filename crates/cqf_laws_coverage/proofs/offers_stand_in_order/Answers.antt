use Rattle.cqf_laws_coverage.proofs.Fronts.{counters_begin, counters_go_on, offers_before_stand_before}
use Rattle.cqf_laws_coverage.proofs.offers_stand_in_order.Goals as goal

pub returns-clause-before : goal.returns-clause-before
returns-clause-before c = offers_before_stand_before

pub returns-clause-goes_on : goal.returns-clause-goes_on
returns-clause-goes_on c = counters_go_on

pub returns-clause-begins : goal.returns-clause-begins
returns-clause-begins c = counters_begin
