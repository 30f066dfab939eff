use Rattle.std.proofs.Common.{take}
use Rattle.cqf_output.specs.Writer.{Puts}
use Rattle.cqf_program_plans.specs.Latency.Text.{lines_of_latencies}
use Rattle.cqf_program_plans.proofs.latency.writing.put_each.Given as goal

abbrev pub invariant-loop-latency : goal.invariant-loop-latency
invariant-loop-latency g l = Puts g.W.Write.contents l.initial.writer l.writer (lines_of_latencies (take l.latency-index l.latencies))
