use Rattle.cqf_laws_gates.proofs.Books.{accounts_hold_for_lenient_gates, lenient_gates_keep_the_book}
use Rattle.cqf_laws_gates.proofs.lenient_gates_keep_the_book.Goals as goal

pub returns-clause-book : goal.returns-clause-book
returns-clause-book c =
    lenient_gates_keep_the_book c.inner_gates_are_redundant.ensures.networks c.inner_gates_are_redundant.ensures.verdicts c.tables_are_orderly.ensures.orderly

pub returns-clause-account : goal.returns-clause-account
returns-clause-account c =
    accounts_hold_for_lenient_gates c.inner_gates_are_redundant.ensures.networks c.inner_gates_are_redundant.ensures.verdicts
    c.tables_are_orderly.ensures.orderly c.book_is_unique.ensures
