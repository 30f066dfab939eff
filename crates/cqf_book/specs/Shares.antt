-- The shares of a cycle book, and the book of their pages.
use Rattle.std.specs.Prelude.{ℕ, ◌≡◌, ◌<◌, ◌≤◌, ◌++◌, ◌==◌, List, [], ◌∷◌, Bool, Option, Some, None, count_by, find, length, map}
use Rattle.std.specs.List.{All, flat_map}
use Rattle.cqf_lists.specs.Lists.{each_below}
use Rattle.cqf_model.specs.declared.frames.Dropped.{Dropped}
use Rattle.cqf_model.specs.declared.frames.Page.{Page}
use Rattle.cqf_model.specs.declared.frames.Started.{Started}
use Rattle.cqf_model.specs.Book.{Contents}
use Rattle.cqf_book.specs.BookOrder.{IsDropBelow, IsStartBelow, in_book_order, starts_in_book_order}
use Rattle.cqf_book.specs.Pages.{Posted, page_count, pages_of}

-- what a page says: its bridge, its cycle, and its contents
pub record Said : Type 0 where
  pub bridge : ℕ
  pub cycle : ℕ
  pub contents : Contents

abbrev pub said : Page → Said
said page = record {
  bridge = page.bridge;
  cycle = page.cycle.0;
  contents = record { starts = page.starts.items; background = page.background.items; drops = page.drops.items };
}

-- a share: its bridge, and the pages that it has posted, in order
pub record Own : Type 0 where
  pub bridge : ℕ
  pub pages : List Page

-- the shares of the first bridges, in order of number, which have posted nothing
abbrev pub new_shares : ℕ → List Own
new_shares bridges = each_below (λ bridge. record { bridge = bridge; pages = [] } ∷ []) bridges

-- the share with one page more
abbrev pub with_own : Own → Page → Own
with_own share page = record { bridge = share.bridge; pages = share.pages ++ page ∷ [] }

-- whether the share is the bridge's
abbrev pub is_of : ℕ → Own → Bool
is_of bridge share = share.bridge == bridge

-- one share for each of the first bridges, and no others
pub record AreOneEach (bridges : ℕ) (shares : List Own) : Type 0 where
  pub all : length shares ≡ bridges
  pub each : (bridge : ℕ) → bridge < bridges → count_by (is_of bridge) shares ≡ 1

-- the pages of a share, if there is one
abbrev pub pages_in : Option Own → List Page
pages_in (Some share) = share.pages
pages_in None = []

-- the pages that the bridge's share has posted
abbrev pub pages_by : List Own → ℕ → List Page
pages_by shares bridge = pages_in (find (is_of bridge) shares)

-- a bridge's pages: those from before its share was made, followed by its share's
abbrev pub all_pages_of : Posted → List Own → ℕ → List Page
all_pages_of opening shares bridge = pages_of opening bridge ++ pages_by shares bridge

-- the pages from before the shares were made, each bridge's followed by those of its share
abbrev pub with_shares : Posted → List Own → Posted
with_shares opening shares = record {
  bridges = opening.bridges;
  cycles = opening.cycles;
  pages = each_below (λ bridge. all_pages_of opening shares bridge ∷ []) opening.bridges;
}

-- a bridge has at most as many pages as there are cycles, and they say what those from before and its share's say
pub record Agrees (opening : Posted) (shares : List Own) (posted : Posted) (bridge : ℕ) : Type 0 where
  pub in_cycles : page_count posted bridge ≤ opening.cycles
  pub same : map said (pages_of posted bridge) ≡ map said (all_pages_of opening shares bridge)

-- the pages of each of the first bridges agree
abbrev pub Agree : Posted → List Own → Posted → ℕ → Type 0
Agree opening shares posted bridges = (bridge : ℕ) → bridge < bridges → Agrees opening shares posted bridge

-- the bridge is the first whose pages don't agree
pub record IsLeastToDisagree (opening : Posted) (shares : List Own) (posted : Posted) (bridge : ℕ) : Type 0 where
  pub inside : bridge < opening.bridges
  pub disagrees : ¬ Agrees opening shares posted bridge
  pub before : Agree opening shares posted bridge

-- the contents of the pages of the first bridges, bridge by bridge and page by page
abbrev pub on_pages : {A : Type 0} → (Page → List A) → (ℕ → List Page) → ℕ → List A
on_pages on_page pages bridges = each_below (λ bridge. flat_map on_page (pages bridge)) bridges

-- the starts in the order of a book: by cycle, then link, then instant, with equal ones in their order
abbrev pub AreStartsInOrder : List Started → List Started → Type 0
AreStartsInOrder gathered starts = (cycles links instants : ℕ) → All (IsStartBelow cycles links instants) gathered →
    starts ≡ starts_in_book_order cycles links instants gathered

-- the drops in the order of a book: by cycle, then bridge, then frame, with equal ones in their order
abbrev pub AreDropsInOrder : List Dropped → List Dropped → Type 0
AreDropsInOrder gathered drops = (cycles bridges frames : ℕ) → All (IsDropBelow cycles bridges frames) gathered →
    drops ≡ in_book_order cycles bridges frames gathered

-- the book of the pages of the first bridges: their contents, in the order of a book
pub record IsBookOfPages (pages : ℕ → List Page) (bridges : ℕ) (book : Contents) : Type 0 where
  pub starts : AreStartsInOrder (on_pages (λ (page : Page). page.starts.items) pages bridges) book.starts
  pub background : AreStartsInOrder (on_pages (λ (page : Page). page.background.items) pages bridges) book.background
  pub drops : AreDropsInOrder (on_pages (λ (page : Page). page.drops.items) pages bridges) book.drops

-- the book of the pages from before the shares were made and, bridge by bridge, of its share's pages after them
abbrev pub IsBookOfShares : Posted → List Own → Contents → Type 0
IsBookOfShares opening shares book = IsBookOfPages (all_pages_of opening shares) opening.bridges book
