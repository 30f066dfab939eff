-- A count of frames and a column of octets for each link, from only the offers; and the book, which exists without any run.
use Rattle.std.specs.Prelude.{ℕ, ◌≡◌, ◌≤◌, ◌<◌, List, length, slice_index_or}
use Rattle.cqf_model.specs.declared.frames.Background.{Background}
use Rattle.cqf_model.specs.declared.frames.Offer.{Offer}
use Rattle.cqf_model.specs.declared.frames.Offered.{Offered}
use Rattle.cqf_model.specs.Book.{Contents}
use Rattle.cqf_model.specs.Domain.{Domain, IsAccepted, budget}
use Rattle.cqf_model.specs.Headline.{KeepsThePromise}
use Rattle.cqf_model.specs.History.{IsLegalHistory, Recorded, seals}
use Rattle.cqf_model.specs.HistoryBook.{IsBookOfHistory, run_of_history}
use Rattle.cqf_model.specs.Run.{AreBackground, AreOffers}
use Rattle.cqf_model.specs.Policing.{Verdict, numbered}
use Rattle.cqf_laws_coverage.specs.Counted.{counts_frames, counts_in, sum_of_hops}
use Rattle.cqf_laws_coverage.specs.Judged.{StandInOrder, judged_of}

-- each link's frames and column are those of the hops of these offers
pub record AreReportedSums (d : Domain) (cycles : ℕ) (verdict : Offered → Verdict) (offers : List Offered) (frames : ℕ → ℕ) (column : ℕ → List ℕ) :
    Type 0 where
  pub frames_are : (link : ℕ) → link < length d.links → frames link ≡ sum_of_hops d verdict (counts_frames link cycles) offers
  pub cells_are : (link cycle : ℕ) → link < length d.links → cycle < cycles →
      slice_index_or (column link) cycle 0 ≡ sum_of_hops d verdict (counts_in link cycle) offers
  pub none_past : (link cycle : ℕ) → link < length d.links → cycles ≤ cycle → slice_index_or (column link) cycle 0 ≡ 0

-- what leaves by a link in a cycle is within the link's budget, so it fits into a cell
abbrev pub CellsFit : Type 0
CellsFit =
    (d : Domain) (entries : List Recorded) (offers : List Offer) (cycles link cycle : ℕ) → IsAccepted d → IsLegalHistory d entries →
    AreOffers d offers → StandInOrder offers → cycles ≤ seals entries → link < length d.links → cycle < cycles →
    sum_of_hops d (judged_of d entries offers) (counts_in link cycle) (numbered offers) ≤ budget d link

-- the book of a history exists without any run: it is the only one, and it keeps what is promised
pub record IsThere (d : Domain) (entries : List Recorded) (offers : List Offer) (background : List Background) (cycles : ℕ) (book : Contents) : Type 0 where
  pub is_book : IsBookOfHistory d entries offers background cycles book
  pub only : (other : Contents) → IsBookOfHistory d entries offers background cycles other → other ≡ book
  pub keeps : KeepsThePromise (run_of_history d entries offers background cycles) book

abbrev pub BookOfHistoryIsThere : Type 0
BookOfHistoryIsThere =
    (d : Domain) (entries : List Recorded) (offers : List Offer) (background : List Background) (cycles : ℕ) → IsAccepted d → IsLegalHistory d entries →
    AreOffers d offers → AreBackground d background → cycles ≤ seals entries →
    (book : Contents) × IsThere d entries offers background cycles book
