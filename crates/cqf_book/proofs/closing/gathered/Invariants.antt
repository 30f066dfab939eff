use Rattle.std.proofs.Common.{◌≡◌}
use Rattle.cqf_model.specs.declared.frames.Page.{Page}
use Rattle.cqf_book.specs.Pages.{pages_of}
use Rattle.cqf_book.specs.Shares.{on_pages}
use Rattle.cqf_book.proofs.closing.gathered.Given as goal

-- the book has the contents of the pages of the bridges below
abbrev pub invariant-loop-bridge : goal.invariant-loop-bridge
invariant-loop-bridge l =
    (l.book.starts.items ≡ on_pages (λ (page : Page). page.starts.items) (pages_of l.posted) l.bridge)
    × (l.book.background.items ≡ on_pages (λ (page : Page). page.background.items) (pages_of l.posted) l.bridge)
    × (l.book.drops.items ≡ on_pages (λ (page : Page). page.drops.items) (pages_of l.posted) l.bridge)
