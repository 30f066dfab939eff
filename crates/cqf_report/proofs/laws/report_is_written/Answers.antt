use Rattle.cqf_report.proofs.SumsWritten.{report_is_written}
use Rattle.cqf_report.proofs.laws.report_is_written.Goals as goal

pub returns : goal.returns
returns c = report_is_written c.report_is_counted.ensures c.columns_report.ensures
