use Rattle.cqf_laws_cycle.proofs.PageParts.{book_is_pages, one_book}
use Rattle.cqf_laws_cycle.proofs.pages.book_is_its_pages.Goals as goal

pub returns-clause-pages : goal.returns-clause-pages
returns-clause-pages c = book_is_pages

pub returns-clause-one : goal.returns-clause-one
returns-clause-one c = one_book
