-- The parts of the book of a history.
use Rattle.std.specs.Prelude.{ℕ, ◌≡◌, ◌≤◌, List, []}
use Rattle.cqf_model.specs.declared.frames.Background.{Background}
use Rattle.cqf_model.specs.declared.frames.Dropped.{Dropped}
use Rattle.cqf_model.specs.declared.frames.Offer.{Offer}
use Rattle.cqf_model.specs.declared.frames.Started.{Started}
use Rattle.cqf_model.specs.Book.{Contents, background_of, starts_of}
use Rattle.cqf_model.specs.Domain.{Domain, IsAccepted}
use Rattle.cqf_model.specs.History.{IsLegalHistory, Recorded, seals}
use Rattle.cqf_model.specs.HistoryBook.{run_of_history}
use Rattle.cqf_model.specs.Network.{Network}
use Rattle.cqf_model.specs.Run.{AreBackground, AreOffers}
use Rattle.cqf_laws_shift.specs.Run.{IsLegalRun}
use Rattle.cqf_laws_coverage.specs.Reported.{IsThere}
use Rattle.cqf_instants_run.specs.Drops.{AreDropsOfHistory}

-- the starts of streams' frames in each legal run over the first cycles of a history
abbrev pub AreStartsOfHistory : Domain → List Recorded → List Offer → List Background → ℕ → List Started → Type 0
AreStartsOfHistory d entries offers background cycles starts =
    (net : Network) → IsLegalRun (run_of_history d entries offers background cycles) net → starts ≡ starts_of d cycles net.carried

-- the starts of background frames in these runs
abbrev pub AreBackgroundOfHistory : Domain → List Recorded → List Offer → List Background → ℕ → List Started → Type 0
AreBackgroundOfHistory d entries offers background cycles starts =
    (net : Network) → IsLegalRun (run_of_history d entries offers background cycles) net → starts ≡ background_of d cycles net.backed

-- the book is that of each legal history with these starts, these starts of background frames, and these drops
abbrev pub AreBookOfHistory : List Started → List Started → List Dropped → Contents → Type 0
AreBookOfHistory starts backed drops book =
    (d : Domain) (entries : List Recorded) (offers : List Offer) (background : List Background) (cycles : ℕ) → IsAccepted d → IsLegalHistory d entries →
    AreOffers d offers → AreBackground d background → cycles ≤ seals entries →
    AreStartsOfHistory d entries offers background cycles starts → AreBackgroundOfHistory d entries offers background cycles backed →
    AreDropsOfHistory d entries offers cycles drops → IsThere d entries offers background cycles book

-- the same for each history without background frames that has these starts and drops
abbrev pub AreQuietBookOfHistory : List Started → List Dropped → Contents → Type 0
AreQuietBookOfHistory starts drops book =
    (d : Domain) (entries : List Recorded) (offers : List Offer) (cycles : ℕ) → IsAccepted d → IsLegalHistory d entries →
    AreOffers d offers → cycles ≤ seals entries →
    AreStartsOfHistory d entries offers [] cycles starts → AreDropsOfHistory d entries offers cycles drops → IsThere d entries offers [] cycles book
