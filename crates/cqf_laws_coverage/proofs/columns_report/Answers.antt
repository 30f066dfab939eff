use Rattle.cqf_laws_coverage.proofs.Columns.{columns_report}
use Rattle.cqf_laws_coverage.proofs.columns_report.Goals as goal

pub returns : goal.returns
returns c = columns_report
