-- The book of a history exists without any run.
use Rattle.std.proofs.Common.{length}
use Rattle.cqf_model.specs.Book.{Contents, IsOneThreadBook}
use Rattle.cqf_model.specs.HistoryBook.{run_of_history}
use Rattle.cqf_model.specs.Network.{compiled_lists}
use Rattle.cqf_laws_history.specs.HistoryLaws.{TablesAreOrderly}
use Rattle.cqf_laws_network.specs.NetworkLaws.{BookExists, BookIsUnique}
use Rattle.cqf_laws_shift.specs.Books.{BookSaysTheShift}
use Rattle.cqf_laws_coverage.specs.Reported.{BookOfHistoryIsThere}

-- it exists, is the only one, and the laws of a run hold for it
pub book_of_history_is_there : BookExists → BookIsUnique → BookSaysTheShift → TablesAreOrderly → BookOfHistoryIsThere
book_of_history_is_there exists unique says are_orderly d entries offers background cycles accepted legal offered following sealed =
    let run = run_of_history d entries offers background cycles in
    let found = exists run (compiled_lists d) (length run.tables) in
    let book : Contents = found.0 in
    let one : IsOneThreadBook run book = found.1 in
    let orderly = are_orderly d entries cycles legal sealed in (
      book,
      record {
        is_book = record { sealed = sealed; is_book = one };
        only = λ other is. unique run (compiled_lists d) (length run.tables) other book is.is_book one;
        keeps = says run book accepted orderly offered following one;
      },
    )
