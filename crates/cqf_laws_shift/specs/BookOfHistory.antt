-- What a book of a history of admissions says.
use Rattle.std.specs.Prelude.{ℕ, List}
use Rattle.cqf_model.specs.declared.frames.Background.{Background}
use Rattle.cqf_model.specs.declared.frames.Offer.{Offer}
use Rattle.cqf_model.specs.Book.{Contents}
use Rattle.cqf_model.specs.Domain.{Domain, IsAccepted}
use Rattle.cqf_model.specs.Headline.{KeepsThePromise}
use Rattle.cqf_model.specs.History.{IsLegalHistory, Recorded}
use Rattle.cqf_model.specs.HistoryBook.{IsBookOfHistory, run_of_history}
use Rattle.cqf_model.specs.Run.{AreBackground, AreOffers}

-- each frame that its reservation covers leaves its path's k-th bridge on each branch k cycles after its own cycle, once. No other
-- frame leaves, and every other offer is dropped at its edge, once, with its reason. In the network whose book it is, nothing is
-- lost inside, and loads, instants and latencies are as promised. This holds for every accepted domain, every legal history and any
-- offers, beside any background frames
abbrev pub BookOfHistorySaysTheShift : Type 0
BookOfHistorySaysTheShift =
    (d : Domain) (entries : List Recorded) (offers : List Offer) (background : List Background) (cycles : ℕ) (book : Contents) →
    IsAccepted d → IsLegalHistory d entries → AreOffers d offers → AreBackground d background →
    IsBookOfHistory d entries offers background cycles book →
    KeepsThePromise (run_of_history d entries offers background cycles) book
