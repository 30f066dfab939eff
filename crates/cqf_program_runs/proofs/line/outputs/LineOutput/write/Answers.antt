use Rattle.std.proofs.Common.{◌∙◌, arith, subst, sym}
use Rattle.cqf_output.specs.Edge.{IsWritten, writing}
use Rattle.cqf_output.proofs.WriterLemmas.{IsWritten-written}
use Rattle.cqf_report.specs.Books.{text_of_book}
use Rattle.cqf_program_runs.proofs.line.outputs.LineOutput.write.Goals as goal

pub returns : goal.returns
returns g c text is =
    let put = c.put.ensures is.0 is.1 in
    let done : IsWritten (writing g.W.Write.contents c.args.reported.now c.close-written.result.now) (text_of_book c.args.self.domain is.0) =
    IsWritten-written g.W.Write.contents c.args.reported.now c.new-writer.result c.put.new.writer c.close-written.result.now _
    c.new-writer.ensures.opens put c.close-written.ensures.closes in
    let names = c.close-written.ensures.same ∙ put.same ∙ c.new-writer.ensures.same in
    let reported = subst (IsWritten (writing g.W.Write.contents c.args.reported.now c.close-written.result.now)) (sym is.2) done in
    grind (arith, reported, names)
