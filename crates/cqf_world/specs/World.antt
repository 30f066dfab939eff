-- A core in which everything that happens in a network under administration is a single event, in any order.
use Rattle.std.specs.Prelude.{ℕ, ◌≡◌, List, Bool, Some, slice_index_or}
use Rattle.cqf_model.specs.declared.frames.Background.{Background}
use Rattle.cqf_model.specs.declared.frames.Offer.{Offer}
use Rattle.cqf_model.specs.declared.frames.Page.{Page}
use Rattle.cqf_model.specs.Book.{Contents, page_of}
use Rattle.cqf_model.specs.Domain.{Domain}
use Rattle.cqf_model.specs.History.{Recorded, seals}
use Rattle.cqf_model.specs.HistoryBook.{IsBookOfHistory, run_of_history}
use Rattle.cqf_model.specs.Run.{Run}
use Rattle.cqf_book.specs.Pages.{Posted, page_at, page_count}

-- the state of a world as its callers see it: the domain, the offers and background frames, and the number of cycles for which it runs; the
-- history so far and the pages posted so far; for each bridge the number of tables it was given and of cycles it has sent; for each link
-- the number of batches taken from it; and whether an allocation failed
pub record WorldState : Type 0 where
  pub domain : Domain
  pub offers : List Offer
  pub background : List Background
  pub cycles : ℕ
  pub entries : List Recorded
  pub pages : Posted
  pub given : List ℕ
  pub sent : List ℕ
  pub taken : List ℕ
  pub stopped : Bool

-- a bridge's cycle is the number of pages that it has posted
abbrev pub cycle_of_bridge : WorldState → ℕ → ℕ
cycle_of_bridge w bridge = page_count w.pages bridge

abbrev pub given_to : WorldState → ℕ → ℕ
given_to w bridge = slice_index_or w.given bridge 0

abbrev pub sent_by_driven : WorldState → ℕ → ℕ
sent_by_driven w bridge = slice_index_or w.sent bridge 0

abbrev pub taken_from : WorldState → ℕ → ℕ
taken_from w link = slice_index_or w.taken link 0

-- the run of the cycles that are sealed so far
abbrev pub sealed_run : WorldState → Run
sealed_run w = run_of_history w.domain w.entries w.offers w.background (seals w.entries)

-- a page's part of a book
abbrev pub contents_posted : Page → Contents
contents_posted page = record { starts = page.starts.items; background = page.background.items; drops = page.drops.items }

-- each page that was posted is the same page of the single-threaded book of the history, over the cycles that are closed
abbrev pub ArePagesOfTheBook : WorldState → Type 0
ArePagesOfTheBook w = (bridge cycle : ℕ) (page : Page) (book : Contents) → page_at w.pages bridge cycle ≡ Some page →
    IsBookOfHistory w.domain w.entries w.offers w.background (seals w.entries) book → contents_posted page ≡ page_of w.domain bridge cycle book
