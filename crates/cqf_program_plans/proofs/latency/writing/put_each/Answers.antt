use Rattle.std.proofs.Common.{◌+◌, take, arith}
use Rattle.std.proofs.lemmas.Grind.{common_steps}
use Rattle.cqf_output.proofs.WriterLemmas.{Puts-as, Puts-then}
use Rattle.cqf_program_plans.specs.Latency.Text.{lines_of_latencies}
use Rattle.cqf_program_plans.proofs.latency.writing.put_each.Goals as goal

pub loop-latency-preserved : goal.loop-latency-preserved
loop-latency-preserved g c =
    let puts = Puts-then _ _ c.loop-latency.invariant c.put_latency.ensures in
    Puts-as _ (lines_of_latencies (take (c.loop-latency.latency-index + 1) c.args.latencies.now)) (grind (arith, common_steps)) puts
