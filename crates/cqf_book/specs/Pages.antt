-- The pages that the bridges have posted, which page is the next one, and what the pages have on a link.
use Rattle.std.specs.Prelude.{ℕ, ◌≡◌, ◌<◌, ◌≤◌, ◌++◌, List, [], ◌∷◌, length, sum_by}
use Rattle.std.specs.Prelude.{Option, Some, slice_get, slice_index_or, slice_set}
use Rattle.cqf_model.specs.declared.frames.Page.{Page}
use Rattle.cqf_model.specs.OnLinks.{frames_on, octets_on}
use Rattle.cqf_model.specs.Limits.{most_cycles}

-- posted pages: the numbers of bridges and cycles that they may be of, and by bridge its pages, in order of cycle
pub record Posted : Type 0 where
  pub bridges : ℕ
  pub cycles : ℕ
  pub pages : List (List Page)

-- the pages of a bridge; none for a bridge that doesn't exist
abbrev pub pages_of : Posted → ℕ → List Page
pages_of posted bridge = slice_index_or posted.pages bridge []

-- the number of pages that a bridge has posted, which are those of as many first cycles
abbrev pub page_count : Posted → ℕ → ℕ
page_count posted bridge = length (pages_of posted bridge)

-- a bridge's page of a cycle
abbrev pub page_at : Posted → ℕ → ℕ → Option Page
page_at posted bridge cycle = slice_get (pages_of posted bridge) cycle

-- the invariant of posted pages: each is of the bridge and the cycle at whose index it is, so no page occurs twice and none is missing
pub record ArePosted (posted : Posted) : Type 0 where
  pub few_bridges : posted.bridges ≤ 1024
  pub few_cycles : posted.cycles ≤ most_cycles
  pub each_bridge : length posted.pages ≡ posted.bridges
  pub in_cycles : (bridge : ℕ) → page_count posted bridge ≤ posted.cycles
  pub in_place : (bridge cycle : ℕ) (page : Page) → page_at posted bridge cycle ≡ Some page → (page.bridge ≡ bridge) × (page.cycle.0 ≡ cycle)

-- the page's bridge doesn't exist
abbrev pub IsOfStrangeBridge : Posted → Page → Type 0
IsOfStrangeBridge posted page = posted.bridges ≤ page.bridge

-- the page's bridge exists, but its cycle doesn't
abbrev pub IsOfStrangeCycle : Posted → Page → Type 0
IsOfStrangeCycle posted page = (page.bridge < posted.bridges) × (posted.cycles ≤ page.cycle.0)

-- the page's bridge and cycle exist, and the bridge has posted its page of that cycle
abbrev pub IsDouble : Posted → Page → Type 0
IsDouble posted page = (page.bridge < posted.bridges) × (page.cycle.0 < posted.cycles) × (page.cycle.0 < page_count posted page.bridge)

-- the page's bridge and cycle exist, and the bridge hasn't posted its page of the cycle before
abbrev pub SkipsCycle : Posted → Page → Type 0
SkipsCycle posted page = (page.bridge < posted.bridges) × (page.cycle.0 < posted.cycles) × (page_count posted page.bridge < page.cycle.0)

-- the page's bridge and cycle exist, and the bridge has posted exactly its pages of the cycles before
abbrev pub IsNextPage : Posted → Page → Type 0
IsNextPage posted page = (page.bridge < posted.bridges) × (page.cycle.0 < posted.cycles) × (page.cycle.0 ≡ page_count posted page.bridge)

-- the page's bridge and cycle exist, and the bridge hasn't posted its page of the cycle yet: it may be the next page once those before it
-- have been posted
abbrev pub MayBeNext : Posted → Page → Type 0
MayBeNext posted page = (page.bridge < posted.bridges) × (page.cycle.0 < posted.cycles) × (page_count posted page.bridge ≤ page.cycle.0)

-- the pages with one more page of its bridge
abbrev pub with_page : Posted → Page → Posted
with_page posted page = record posted { pages = slice_set posted.pages page.bridge (pages_of posted page.bridge ++ page ∷ []) }

-- `cycles` is the number of first cycles that every bridge has posted: the least number of pages that a bridge has, or, without any bridge,
-- the number of all cycles
pub record AreWhole (posted : Posted) (cycles : ℕ) : Type 0 where
  pub within : cycles ≤ posted.cycles
  pub each : (bridge : ℕ) → bridge < posted.bridges → cycles ≤ page_count posted bridge
  pub most : (more : ℕ) → more ≤ posted.cycles → ((bridge : ℕ) → bridge < posted.bridges → more ≤ page_count posted bridge) → more ≤ cycles
  pub least : 0 < posted.bridges → (bridge : ℕ) × (bridge < posted.bridges) × (page_count posted bridge ≡ cycles)

-- a sum over all pages
abbrev pub over_pages : (Page → ℕ) → List (List Page) → ℕ
over_pages of_page pages = sum_by (λ (row : List Page). sum_by of_page row) pages

-- the number of streams' frames on the link on all pages; background frames don't count
abbrev pub frames_posted : ℕ → List (List Page) → ℕ
frames_posted link pages = over_pages (λ (page : Page). frames_on link page.starts.items) pages

-- the octets of the streams' frames on the link on all pages
abbrev pub octets_posted : ℕ → List (List Page) → ℕ
octets_posted link pages = over_pages (λ (page : Page). octets_on link page.starts.items) pages

-- pages that begin with these may have this number of whole cycles: at least as many as these have, and at most all cycles
abbrev pub MayBeWhole : Posted → ℕ → Type 0
MayBeWhole opening cycles = (before : ℕ) × AreWhole opening before × (before ≤ cycles) × (cycles ≤ opening.cycles)

-- some posted pages have these numbers of frames and octets on the link
abbrev pub AreTotalsOfSome : ℕ → ℕ → ℕ → Type 0
AreTotalsOfSome link frames octets =
    (posted : Posted) × ArePosted posted × (frames ≡ frames_posted link posted.pages) × (octets ≡ octets_posted link posted.pages)
