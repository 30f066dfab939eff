-- Whether frames surely keep a deadline.
use Rattle.std.specs.Prelude.{ℕ, ◌≡◌, ◌+◌, ◌<◌, ◌≤◌, List, length, nat_le, nat_lt, if◌then◌else◌, Contains}
use Rattle.cqf_model.specs.declared.frames.Background.{Background}
use Rattle.cqf_model.specs.declared.frames.Offer.{Offer}
use Rattle.cqf_model.specs.declared.frames.Started.{Started}
use Rattle.cqf_model.specs.Book.{Contents}
use Rattle.cqf_model.specs.Domain.{Domain, IsAccepted}
use Rattle.cqf_model.specs.History.{Asked, IsLegalHistory, Recorded, tables_of}
use Rattle.cqf_model.specs.HistoryBook.{IsBookOfHistory, run_of_history}
use Rattle.cqf_model.specs.Run.{AreBackground, AreOffers}
use Rattle.cqf_model.specs.Shift.{InShift}
use Rattle.cqf_laws_timing.specs.Latency.{least_of, most_of, whole_of}
use Rattle.cqf_laws_timing.specs.Streams.{AdmitsOnly, ArePaced, IsOfList, most_beside_all}

-- the verdict on a deadline: each frame keeps it, each misses it, or neither is sure
pub data Sure : Type 0 where
  InTime : Sure
  Late : Sure
  MayBeLate : Sure

-- the verdict, by the least and the most time that a frame takes
abbrev pub sure_of : ℕ → ℕ → ℕ → Sure
sure_of least most deadline = if nat_le most deadline then InTime else (if nat_lt deadline least then Late else MayBeLate)

-- the verdict for a stream and a link of this hop number, if these streams are admitted
abbrev pub sure_on : Domain → List Asked → Asked → ℕ → ℕ → ℕ → Sure
sure_on d streams asked link hop_number deadline =
    sure_of (least_of d link hop_number) (most_of d link hop_number (most_beside_all d streams asked link)) deadline

-- a frame that is offered at the instant `at` and has fully arrived at the instant `whole` is as the verdict says
pub record IsAsSaid (at whole deadline : ℕ) (sure : Sure) : Type 0 where
  pub in_time : sure ≡ InTime → whole ≤ at + deadline
  pub late : sure ≡ Late → at + deadline < whole

-- each start of a book of a history that admits only streams of the list is as the verdict says, for any deadline
abbrev pub VerdictsHold : Type 0
VerdictsHold =
    (d : Domain) (entries : List Recorded) (offers : List Offer) (background : List Background) (cycles : ℕ) (book : Contents) (streams : List Asked) →
    IsAccepted d → IsLegalHistory d entries → AreOffers d offers → AreBackground d background →
    IsBookOfHistory d entries offers background cycles book → AdmitsOnly streams entries → ArePaced streams → (s : Started) → Contains book.starts s →
    (shift : InShift (run_of_history d entries offers background cycles) (length (tables_of d entries cycles)) s.frame s.link s.cycle.0) →
    (of : IsOfList d streams shift.row) × ((deadline : ℕ) →
    IsAsSaid shift.x.offer.at.0 (whole_of d s) deadline (sure_on d streams of.asked s.link shift.hop_number deadline))
