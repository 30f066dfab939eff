use Rattle.cqf_laws_coverage.proofs.There.{book_of_history_is_there}
use Rattle.cqf_laws_coverage.proofs.book_of_history_is_there.Goals as goal

pub returns : goal.returns
returns c =
    book_of_history_is_there c.book_exists.ensures c.book_is_unique.ensures c.book_says_the_shift.ensures
    c.tables_are_orderly.ensures.orderly
