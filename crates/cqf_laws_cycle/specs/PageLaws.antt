-- Laws about a book and its pages, in a planner's words.
use Rattle.std.specs.Prelude.{ℕ, ◌≡◌, ◌<◌, ◌==◌, List, [], Bool, if◌then◌else◌, filter, length}
use Rattle.cqf_lists.specs.Lists.{each_below}
use Rattle.cqf_model.specs.declared.frames.Background.{Background}
use Rattle.cqf_model.specs.declared.frames.Dropped.{Dropped}
use Rattle.cqf_model.specs.declared.frames.Offer.{Offer}
use Rattle.cqf_model.specs.declared.frames.Started.{Started}
use Rattle.cqf_model.specs.declared.ports.Start.{Start}
use Rattle.cqf_model.specs.declared.topology.Row.{Row}
use Rattle.cqf_model.specs.Book.{Contents, IsBook, background_in, background_of, drops_in, drops_of, page_drops, page_of, page_starts, starts_in, starts_of}
use Rattle.cqf_model.specs.Domain.{Domain, IsAccepted, bridge_of, leaves}
use Rattle.cqf_model.specs.GateList.{Entry}
use Rattle.cqf_model.specs.Policing.{Carried, Policed}

-- what is on the links that leave a bridge, by link
abbrev pub on_links_of : Domain → ℕ → (ℕ → List Started) → List Started
on_links_of d bridge on_link = each_below (λ link. if leaves d link bridge then on_link link else []) (length d.links)

-- a bridge's page of a cycle lists the streams' frames that the bridge's own links send in it, by link
abbrev pub PageSaysWhatItsLinksSend : Type 0
PageSaysWhatItsLinksSend = (d : Domain) (cycles : ℕ) (carried : Carried) (bridge cycle : ℕ) → cycle < cycles →
    page_starts d bridge cycle (starts_of d cycles carried) ≡ on_links_of d bridge (starts_in d carried cycle)

-- a bridge's page of a cycle lists the background frames that the bridge's own links send in it, by link
abbrev pub PageSaysTheBackground : Type 0
PageSaysTheBackground = (d : Domain) (cycles : ℕ) (backed : ℕ → List Start) (bridge cycle : ℕ) → cycle < cycles →
    page_starts d bridge cycle (background_of d cycles backed) ≡ on_links_of d bridge (background_in d backed cycle)

-- a bridge's page of a cycle lists what is dropped at the bridge in it
abbrev pub PageSaysWhatIsDropped : Type 0
PageSaysWhatIsDropped = (d : Domain) (cycles indices : ℕ) (policed : ℕ → List Policed) (bridge cycle : ℕ) →
    bridge < length d.bridges → cycle < cycles → page_drops bridge cycle (drops_of d cycles indices policed) ≡ drops_in d indices policed cycle bridge

-- whether a start is on a link
abbrev pub is_on_link : ℕ → Started → Bool
is_on_link link start = start.link == link

-- the starts of all pages: cycle by cycle and link by link, each from the page of the bridge that the link leaves
abbrev pub starts_of_pages : Domain → ℕ → (ℕ → ℕ → List Started) → List Started
starts_of_pages d cycles page =
    each_below (λ cycle. each_below (λ link. filter (is_on_link link) (page (bridge_of d link) cycle)) (length d.links)) cycles

-- the drops of all pages: cycle by cycle and bridge by bridge
abbrev pub drops_of_pages : Domain → ℕ → (ℕ → ℕ → List Dropped) → List Dropped
drops_of_pages d cycles page = each_below (λ cycle. each_below (λ bridge. page bridge cycle) (length d.bridges)) cycles

-- all pages, put together
abbrev pub book_of_pages : Domain → ℕ → (ℕ → ℕ → Contents) → Contents
book_of_pages d cycles page = record {
  starts = starts_of_pages d cycles (λ bridge cycle. (page bridge cycle).starts);
  background = starts_of_pages d cycles (λ bridge cycle. (page bridge cycle).background);
  drops = drops_of_pages d cycles (λ bridge cycle. (page bridge cycle).drops);
}

-- a book of this number of cycles of a domain, of any run and any gate lists
pub record IsSomeBook (d : Domain) (cycles : ℕ) (book : Contents) : Type 0 where
  pub tables : List (List Row)
  pub offers : List Offer
  pub background : List Background
  pub lists : ℕ → List Entry
  pub is_book : IsBook (record { domain = d; tables = tables; offers = offers; background = background }) lists cycles book

-- a book is its pages: nothing in it is on no page, and their order is the book's
abbrev pub BookIsItsPages : Type 0
BookIsItsPages = (d : Domain) (cycles : ℕ) (book : Contents) → IsSomeBook d cycles book →
    book ≡ book_of_pages d cycles (λ bridge cycle. page_of d bridge cycle book)

-- two books have the same pages
abbrev pub HaveTheSamePages : Domain → ℕ → Contents → Contents → Type 0
HaveTheSamePages d cycles book other =
    (bridge cycle : ℕ) → bridge < length d.bridges → cycle < cycles → page_of d bridge cycle book ≡ page_of d bridge cycle other

-- two books with the same pages are equal
abbrev pub SamePagesAreOneBook : Type 0
SamePagesAreOneBook = (d : Domain) (cycles : ℕ) (book other : Contents) → IsAccepted d →
    IsSomeBook d cycles book → IsSomeBook d cycles other → HaveTheSamePages d cycles book other → book ≡ other
