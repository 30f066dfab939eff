-- The text of a book's sums by link, written from a count of frames and a column of octets for each link.
use Rattle.std.specs.Prelude.{ℕ, ◌≡◌, List}
use Rattle.cqf_model.specs.declared.frames.Background.{Background}
use Rattle.cqf_model.specs.declared.frames.Offer.{Offer}
use Rattle.cqf_model.specs.Book.{Contents}
use Rattle.cqf_model.specs.Domain.{Domain, IsAccepted}
use Rattle.cqf_model.specs.History.{IsLegalHistory, Recorded}
use Rattle.cqf_model.specs.HistoryBook.{IsBookOfHistory}
use Rattle.cqf_model.specs.Run.{AreBackground, AreOffers}
use Rattle.cqf_model.specs.Policing.{numbered}
use Rattle.cqf_laws_coverage.specs.Judged.{StandInOrder, judged_of}
use Rattle.cqf_laws_coverage.specs.Reported.{AreReportedSums}
use Rattle.cqf_report.specs.Columns.{columns_text}
use Rattle.cqf_report.specs.LinkSums.{links_text}

-- if the counts and columns are those of the hops of the covered offers, this is the text of the sums of the history's book
abbrev pub ReportIsWritten : Type 0
ReportIsWritten =
    (d : Domain) (entries : List Recorded) (offers : List Offer) (background : List Background) (cycles : ℕ) (book : Contents)
    (frames : ℕ → ℕ) (column : ℕ → List ℕ) → IsAccepted d → IsLegalHistory d entries → AreOffers d offers → AreBackground d background →
    StandInOrder offers → IsBookOfHistory d entries offers background cycles book →
    AreReportedSums d cycles (judged_of d entries offers) (numbered offers) frames column → links_text d book ≡ columns_text d frames column
