use Rattle.std.proofs.Common.{◌++◌, codes, ℕ, List}
use Rattle.cqf_output.proofs.WriterLemmas.{Puts-then}
use Rattle.cqf_report.specs.Books.{book_header, lines_of_drops, lines_of_starts}
use Rattle.cqf_report.specs.Written.{line_of_fields}
use Rattle.cqf_program_threads.specs.PagedBooks.{contents_written}
use Rattle.cqf_program_threads.proofs.pages_writing.put_paged_book.Goals as goal

-- the parts of a book's text are put, one after the other
pub returns : goal.returns
returns g c =
    let d = c.args.book.now.domain in
    let book = contents_written c.args.book.now in
    let header : List ℕ = line_of_fields book_header in
    let starts : List ℕ = lines_of_starts (codes "start") d book.starts in
    let background : List ℕ = lines_of_starts (codes "background") d book.background in
    let drops : List ℕ = lines_of_drops d book.drops in
    Puts-then ((header ++ starts) ++ background) drops
    (Puts-then (header ++ starts) background (Puts-then header starts c.put_book_header.ensures c.put_starts_of_kind.ensures)
    c.put_starts_of_kind-2.ensures)
    c.put_all_drops.ensures
