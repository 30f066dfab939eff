use Rattle.std.proofs.Common.{◌≡◌, subst, sym}
use Rattle.cqf_model.specs.Book.{Contents}
use Rattle.cqf_program_scenario.specs.ExactBooks.{AreExactParts, ExactParts}
use Rattle.cqf_program_scenario.proofs.exact_books.ExactBook.gather.Goals as goal

pub returns : goal.returns
returns c =
    let whole : Contents = record {
      starts = c.in_ok-starts.starts.items;
      background = c.self.inside.background.items;
      drops = c.self.inside.drops.items;
    } in
    subst (λ (b : ExactParts). (book : Contents) → AreExactParts b book → whole ≡ book) c.self.view_is (λ book parts.
    λ i. record {
      starts = c.in_ok-starts.ensures book.starts parts.are_starts i;
      background = sym parts.are_background i;
      drops = sym parts.are_drops i;
    })
