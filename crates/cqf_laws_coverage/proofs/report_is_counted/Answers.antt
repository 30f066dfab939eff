use Rattle.cqf_laws_coverage.proofs.Judged.{report_is_counted}
use Rattle.cqf_laws_coverage.proofs.report_is_counted.Goals as goal

pub returns : goal.returns
returns c = report_is_counted c.history_is_counted.ensures c.offers_are_judged.ensures
