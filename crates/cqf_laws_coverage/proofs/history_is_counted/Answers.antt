use Rattle.cqf_laws_coverage.proofs.Counts.{history_is_counted}
use Rattle.cqf_laws_coverage.proofs.history_is_counted.Goals as goal

pub returns : goal.returns
returns c = history_is_counted c.starts_are_hops.ensures c.tables_are_orderly.ensures.orderly
