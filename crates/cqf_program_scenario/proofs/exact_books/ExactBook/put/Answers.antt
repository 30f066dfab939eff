use Rattle.std.proofs.Common.{◌∙◌, ◌++◌, codes, ℕ, List, ap, subst, sym}
use Rattle.cqf_model.specs.declared.frames.Dropped.{Dropped}
use Rattle.cqf_model.specs.declared.frames.Started.{Started}
use Rattle.cqf_model.specs.Book.{Contents}
use Rattle.cqf_output.specs.Writer.{Puts}
use Rattle.cqf_output.proofs.WriterLemmas.{Puts-as, Puts-then}
use Rattle.cqf_report.specs.Books.{book_header, lines_of_drops, lines_of_starts, text_of_book}
use Rattle.cqf_report.specs.Written.{line_of_fields}
use Rattle.cqf_program_scenario.specs.ExactBooks.{AreExactParts, ExactParts}
use Rattle.cqf_program_scenario.proofs.exact_books.ExactBook.put.Goals as goal

pub returns : goal.returns
returns g c =
    subst (λ (b : ExactParts). (book : Contents) → AreExactParts b book →
    Puts g.W.Write.contents c.args.writer.now c.put_drops.new.writer (text_of_book c.args.domain.now book)) c.self.view_is (λ book parts.
    let d = c.args.domain.now in
    let header : List ℕ = line_of_fields book_header in
    let starts : List ℕ = lines_of_starts (codes "start") d book.starts in
    let background : List ℕ = lines_of_starts (codes "background") d book.background in
    let drops : List ℕ = lines_of_drops d book.drops in
    Puts-then ((header ++ starts) ++ background) drops
    (Puts-then (header ++ starts) background
    (Puts-then header starts c.put_book_header.ensures (c.put_starts_of_pass.ensures book.starts parts.are_starts))
    (Puts-as _ background
    (ap (λ (xs : List Started). lines_of_starts (codes "background") d xs) (c.as_slice-background.ensures.value ∙ sym parts.are_background))
    c.put_starts.ensures))
    (Puts-as _ drops (ap (λ (xs : List Dropped). lines_of_drops d xs) (c.as_slice-drops.ensures.value ∙ sym parts.are_drops)) c.put_drops.ensures))
