use Rattle.std.proofs.Common.{◌∙◌, ap, arith}
use Rattle.cqf_output.specs.Edge.{IsWritten, writing}
use Rattle.cqf_output.proofs.WriterLemmas.{IsWritten-written, Puts-as}
use Rattle.cqf_program_plans.specs.Latency.Text.{text_of_latency}
use Rattle.cqf_program_plans.proofs.latency.outputs.LatencyOutput.write.Goals as goal

pub returns : goal.returns
returns g c =
    let put = Puts-as (text_of_latency c.as_slice.result.now) (text_of_latency c.args.self)
    (ap text_of_latency c.as_slice.ensures.value ∙ ap text_of_latency c.self.view_is) c.put_latencies.ensures in
    let done : IsWritten (writing g.W.Write.contents c.args.reported.now c.close-written.result.now) (text_of_latency c.args.self) =
    IsWritten-written g.W.Write.contents c.args.reported.now c.new-writer.result c.put_latencies.new.writer c.close-written.result.now _
    c.new-writer.ensures.opens put c.close-written.ensures.closes in
    let names = c.close-written.ensures.same ∙ c.put_latencies.ensures.same ∙ c.new-writer.ensures.same in
    grind (arith, done, names)
