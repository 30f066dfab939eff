use Rattle.std.proofs.Common.{◌∙◌, ap, arith}
use Rattle.cqf_output.specs.Edge.{IsWritten, writing}
use Rattle.cqf_output.proofs.WriterLemmas.{IsWritten-written, Puts-as}
use Rattle.cqf_program_summary.specs.Summary.Text.{text_of_summary}
use Rattle.cqf_program_summary.proofs.summary.outputs.SummaryOutput.write.Goals as goal

pub returns : goal.returns
returns g c =
    let o = c.args.self in
    let put = Puts-as _ (text_of_summary o)
    (ap text_of_summary c.self.view_is) c.put_summary.ensures in
    let done : IsWritten (writing g.W.Write.contents c.args.reported.now c.close-written.result.now) (text_of_summary o) =
    IsWritten-written g.W.Write.contents c.args.reported.now c.new-writer.result c.put_summary.new.writer c.close-written.result.now _
    c.new-writer.ensures.opens put c.close-written.ensures.closes in
    let names = c.close-written.ensures.same ∙ c.put_summary.ensures.same ∙ c.new-writer.ensures.same in
    grind (arith, done, names)
