use Rattle.cqf_output.proofs.WriterLemmas.{Puts-then}
use Rattle.cqf_report.specs.Written.{line_of_fields}
use Rattle.cqf_program_plans.specs.Latency.Text.{latency_header, lines_of_latencies}
use Rattle.cqf_program_plans.proofs.latency.writing.put_latencies.Goals as goal

pub returns : goal.returns
returns g c = Puts-then (line_of_fields latency_header) (lines_of_latencies c.args.latencies.now) c.put_header.ensures c.put_each.ensures
