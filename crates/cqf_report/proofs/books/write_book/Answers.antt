use Rattle.std.proofs.Common.{◌∙◌, ap, rules}
use Rattle.cqf_model.specs.Book.{contents_of}
use Rattle.cqf_output.proofs.WriterLemmas.{text-written}
use Rattle.cqf_report.specs.Books.{text_of_book}
use Rattle.cqf_report.proofs.books.write_book.Goals as goal

pub returns : goal.returns
returns c =
    let names = c.close-written.ensures.same ∙ c.put_book.ensures.same ∙ c.new-writer.ensures.same in
    text-written c.close-written.result.now (text_of_book c.args.domain.now (contents_of c.args.book.now)) c.written_text.result
    (ap (λ list. list.items) c.new-reported.ensures.writer ∙ c.new.ensures.items)
    c.new-writer.ensures.opens c.put_book.ensures c.close-written.ensures.closes c.written_text.ensures.ok (search rules) (search rules)
