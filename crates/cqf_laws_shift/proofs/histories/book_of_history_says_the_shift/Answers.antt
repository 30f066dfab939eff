use Rattle.cqf_model.specs.HistoryBook.{run_of_history}
use Rattle.cqf_laws_shift.proofs.histories.book_of_history_says_the_shift.Goals as goal

pub returns : goal.returns
returns c =
    λ d entries offers background cycles book accepted legal offered following is.
    c.book_says_the_shift.ensures (run_of_history d entries offers background cycles) book accepted
    (c.tables_are_orderly.ensures.orderly d entries cycles legal is.sealed) offered following is.is_book
