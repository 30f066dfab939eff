use Rattle.std.proofs.Common.{◌≡◌, ◌++◌, flat_map, take}
use Rattle.cqf_model.specs.declared.frames.Page.{Page}
use Rattle.cqf_book.proofs.closing.add_pages.Given as goal

-- the contents of the pages below the index follow what the book had
abbrev pub invariant-loop-page : goal.invariant-loop-page
invariant-loop-page l =
    (l.book.starts.items ≡ l.fn.book.starts.items ++ flat_map (λ (page : Page). page.starts.items) (take l.page-index l.pages))
    × (l.book.background.items ≡ l.fn.book.background.items ++ flat_map (λ (page : Page). page.background.items) (take l.page-index l.pages))
    × (l.book.drops.items ≡ l.fn.book.drops.items ++ flat_map (λ (page : Page). page.drops.items) (take l.page-index l.pages))
