-- Why a cycle book doesn't take a page or doesn't close, and the faults as text: the fault's name, and the bridge's number if it has one.
use Rattle.std.specs.Prelude.{ℕ, ◌≡◌, ◌≢◌, ◌<◌, ◌++◌, ◌⊎◌, List, codes, decimal}
use Rattle.cqf_model.specs.declared.frames.Page.{Page}
use Rattle.cqf_book.specs.declared.faults.BookClose.{BookClose}
use Rattle.cqf_book.specs.declared.faults.BookClose.TheVariants as Close
use Rattle.cqf_book.specs.declared.faults.PageFault.{PageFault}
use Rattle.cqf_book.specs.declared.faults.PageFault.TheVariants.{StrangeBridge, StrangeCycle, DoublePage, CycleSkipped, Memory}
use Rattle.cqf_book.specs.Pages.{ArePosted, IsOfStrangeBridge, IsOfStrangeCycle, MayBeNext, Posted, SkipsCycle}
use Rattle.cqf_book.specs.Shares.{Agree, AreOneEach, IsLeastToDisagree, Own}

-- what a fault says when the share of bridge `own` doesn't take a page, in terms of the pages that the book was made from (`opening`).
-- Further pages may have been posted since, so `DoublePage` says only that the page is the share's and that its bridge and cycle exist;
-- `CycleSkipped` says that the page's cycle is after the next one of `opening`; and `Memory` says that the page is none of `opening`
abbrev pub IsPostFault : Posted → ℕ → Page → PageFault → Type 0
IsPostFault opening own page StrangeBridge = (page.bridge ≢ own) ⊎ IsOfStrangeBridge opening page
IsPostFault opening own page StrangeCycle = (page.bridge ≡ own) × IsOfStrangeCycle opening page
IsPostFault opening own page DoublePage = (page.bridge ≡ own) × (page.bridge < opening.bridges) × (page.cycle.0 < opening.cycles)
IsPostFault opening own page CycleSkipped = (page.bridge ≡ own) × SkipsCycle opening page
IsPostFault opening own page Memory = (page.bridge ≡ own) × MayBeNext opening page

-- why a book doesn't close if these pages were posted: the first reason that applies
abbrev pub IsFaultOver : Posted → List Own → Posted → BookClose → Type 0
IsFaultOver opening shares posted Close.ShareMissing = ¬ AreOneEach opening.bridges shares
IsFaultOver opening shares posted (Close.SharesDisagree bridge) = AreOneEach opening.bridges shares × IsLeastToDisagree opening shares posted bridge
IsFaultOver opening shares posted Close.Memory = AreOneEach opening.bridges shares × Agree opening shares posted opening.bridges

-- the fault is right for some pages without doubles or gaps. No clause can say which pages these are, since they are under a lock
abbrev pub IsBookCloseFault : Posted → List Own → BookClose → Type 0
IsBookCloseFault opening shares fault = (posted : Posted) × ArePosted posted × IsFaultOver opening shares posted fault

-- the text of a page's fault
abbrev pub page_fault_text : PageFault → List ℕ
page_fault_text StrangeBridge = codes "StrangeBridge"
page_fault_text StrangeCycle = codes "StrangeCycle"
page_fault_text DoublePage = codes "DoublePage"
page_fault_text CycleSkipped = codes "CycleSkipped"
page_fault_text Memory = codes "Memory"

-- the text of a fault of closing a cycle book
abbrev pub book_close_text : BookClose → List ℕ
book_close_text Close.ShareMissing = codes "ShareMissing"
book_close_text (Close.SharesDisagree bridge) = codes "SharesDisagree " ++ decimal bridge
book_close_text Close.Memory = codes "Memory"
