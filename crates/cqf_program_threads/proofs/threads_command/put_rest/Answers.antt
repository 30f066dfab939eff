use Rattle.std.proofs.Common.{codes}
use Rattle.cqf_output.proofs.WriterLemmas.{Puts-then}
use Rattle.cqf_report.specs.Books.{text_of_book}
use Rattle.cqf_output.specs.Stops.{line_of}
use Rattle.cqf_program_threads.specs.PagedBooks.{contents_written}
use Rattle.cqf_program_threads.proofs.threads_command.put_rest.Goals as goal

-- the line is put, and the book after it
pub returns : goal.returns
returns g c =
    Puts-then (line_of (codes "%%")) (text_of_book c.args.book.now.domain (contents_written c.args.book.now)) c.put.ensures c.put_paged_book.ensures
