use Rattle.cqf_laws_coverage.proofs.Judged.{offers_are_judged}
use Rattle.cqf_laws_coverage.proofs.offers_are_judged.Goals as goal

pub returns : goal.returns
returns c = offers_are_judged c.rows_say_the_tables.ensures.found c.rows_say_the_tables.ensures.live c.offers_stand_in_order.ensures.before
