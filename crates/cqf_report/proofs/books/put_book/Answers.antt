use Rattle.std.proofs.Common.{◌++◌, codes, ℕ, List}
use Rattle.cqf_model.specs.Book.{contents_of}
use Rattle.cqf_output.proofs.WriterLemmas.{Puts-then}
use Rattle.cqf_report.specs.Books.{book_header, lines_of_drops, lines_of_starts}
use Rattle.cqf_report.specs.Written.{line_of_fields}
use Rattle.cqf_report.proofs.books.put_book.Goals as goal

pub returns : goal.returns
returns g c =
    let d = c.args.domain.now in
    let book = contents_of c.args.book.now in
    let header : List ℕ = line_of_fields book_header in
    let starts : List ℕ = lines_of_starts (codes "start") d book.starts in
    let background : List ℕ = lines_of_starts (codes "background") d book.background in
    let drops : List ℕ = lines_of_drops d book.drops in
    Puts-then ((header ++ starts) ++ background) drops
    (Puts-then (header ++ starts) background
    (Puts-then header starts c.put_book_header.ensures (rw c.as_slice.ensures.value at c.put_starts.ensures))
    (rw c.as_slice-2.ensures.value at c.put_starts-2.ensures))
    (rw c.as_slice-3.ensures.value at c.put_drops.ensures)
