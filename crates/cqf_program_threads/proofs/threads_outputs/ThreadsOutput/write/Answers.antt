use Rattle.std.proofs.Common.{◌∙◌, List, ap, arith, map}
use Rattle.cqf_admission.specs.Admission.{recorded_of}
use Rattle.cqf_admission.specs.declared.entries.Entry.{Entry}
use Rattle.cqf_program_threads.specs.PagedBooks.{contents_written}
use Rattle.cqf_output.specs.Edge.{IsWritten, writing}
use Rattle.cqf_output.proofs.WriterLemmas.{IsWritten-written, Puts-as}
use Rattle.cqf_program_runs.specs.Run.Output.{run_text}
use Rattle.cqf_program_threads.specs.AccountWritten.{text_of_account}
use Rattle.cqf_program_threads.proofs.threads_outputs.ThreadsOutput.write.Goals as goal

-- what was put between opening and closing was written
pub returns : goal.returns
returns g c =
    let text = text_of_account c.args.self in
    let book = c.args.self.book in
    let done : IsWritten (writing g.W.Write.contents c.args.reported.now c.close-written.result.now) text =
    IsWritten-written g.W.Write.contents c.args.reported.now c.new-writer.result c.put_account.new.writer c.close-written.result.now text
    c.new-writer.ensures.opens
    (Puts-as _ text (ap (λ (entries : List Entry). run_text book.domain (map recorded_of entries) (contents_written book)) c.as_slice-history.ensures.value)
    c.put_account.ensures)
    c.close-written.ensures.closes in
    let names = c.close-written.ensures.same ∙ c.put_account.ensures.same ∙ c.new-writer.ensures.same in
    grind (arith, done, names)
