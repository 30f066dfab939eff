use Rattle.cqf_model.specs.Book.{contents_of}
use Rattle.cqf_refused_runs.proofs.written.book_of.Goals as goal

-- a book of a run is in order
pub returns-in-Ok : goal.returns-in-Ok
returns-in-Ok c = c.books_are_in_order.ensures _ _ _ (contents_of c.in-Ok.book) c.in-Ok.ensures.book.is_book
