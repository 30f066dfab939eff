use Rattle.std.proofs.Common.{◌++◌, codes, map, ℕ, List}
use Rattle.cqf_admission.specs.Admission.{recorded_of}
use Rattle.cqf_output.proofs.WriterLemmas.{Puts-then}
use Rattle.cqf_report.specs.Books.{text_of_book}
use Rattle.cqf_report.specs.HistoryText.{history_text}
use Rattle.cqf_output.specs.Stops.{line_of}
use Rattle.cqf_program_threads.specs.PagedBooks.{contents_written}
use Rattle.cqf_program_threads.proofs.threads_command.put_account.Goals as goal

-- the history is put, and the rest after it
pub returns : goal.returns
returns g c =
    let book = c.args.book.now in
    let rest : List ℕ = line_of (codes "%%") ++ text_of_book book.domain (contents_written book) in
    Puts-then (history_text (map recorded_of c.args.history.now)) rest c.put_history.ensures c.put_rest.ensures
