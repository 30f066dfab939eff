-- What is written of a plan holds in every run over it.
use Rattle.std.specs.Prelude.{ℕ, ◌≡◌, List, [], Ok, length, Contains}
use Rattle.cqf_model.specs.declared.frames.Background.{Background}
use Rattle.cqf_model.specs.declared.frames.Offer.{Offer}
use Rattle.cqf_model.specs.declared.frames.Sent.{Sent}
use Rattle.cqf_model.specs.declared.frames.Started.{Started}
use Rattle.cqf_model.specs.Book.{Contents}
use Rattle.cqf_model.specs.Domain.{Domain, IsAccepted, cycle_of}
use Rattle.cqf_model.specs.History.{Asked, IsLegalHistory, Recorded, held_in, most_beside, tables_of}
use Rattle.cqf_model.specs.HistoryBook.{IsBookOfHistory, run_of_history}
use Rattle.cqf_model.specs.Loose.{slack_of}
use Rattle.cqf_model.specs.Network.{Network}
use Rattle.cqf_model.specs.Run.{AreBackground, AreOffers}
use Rattle.cqf_model.specs.Shift.{InShift}
use Rattle.cqf_model.specs.Policing.{Carried, whole_at}
use Rattle.cqf_program_plans.specs.Compile.Output.{admitted_from}
use Rattle.cqf_laws_timing.specs.Latency.{IsTimely, least_of, most_of, whole_of}
use Rattle.cqf_laws_timing.specs.LooseStreams.{IsHeardOf, IsLooseHistory}
use Rattle.cqf_laws_timing.specs.Streams.{AdmitsOnly}
use Rattle.cqf_laws_timing.specs.Verdicts.{IsAsSaid, sure_of}

-- a frame is offered at the instant `at` and is whole at the instant `whole`, at the end of a link of this hop number. Its latency is
-- within the bounds that are written if the streams cost this much of the link, and every deadline's verdict is true of it
pub record IsAsWritten (d : Domain) (link hop_number cost at whole : ℕ) : Type 0 where
  pub timely : IsTimely d link hop_number cost at whole
  pub verdict : (deadline : ℕ) → IsAsSaid at whole deadline (sure_of (least_of d link hop_number) (most_of d link hop_number cost) deadline)

-- if a plan's streams are all admitted, each start of a stream's frame is as written of the plan. This holds in the book of each history
-- that admits only streams of the plan, for all other calls, all offers and any background frames
abbrev pub WrittenLatenciesHold : Type 0
WrittenLatenciesHold =
    (d : Domain) (streams : List Asked) (plan entries : List Recorded) (offers : List Offer) (background : List Background) (cycles : ℕ)
    (book : Contents) → IsAccepted d → admitted_from d [] 1 streams ≡ Ok plan → IsLegalHistory d entries → AdmitsOnly streams entries →
    AreOffers d offers → AreBackground d background → IsBookOfHistory d entries offers background cycles book → (s : Started) → Contains book.starts s →
    (shift : InShift (run_of_history d entries offers background cycles) (length (tables_of d entries cycles)) s.frame s.link s.cycle.0) →
    IsAsWritten d s.link shift.hop_number (most_beside (held_in d plan 0) shift.row.tree.items shift.row.pace s.link) shift.x.offer.at.0 (whole_of d s)

-- the same holds of each frame in every loose network of such a history, with the slack that the domain states: from the frame's offer by
-- its edge bridge's clock to its being whole by the clock at the link's end
abbrev pub WrittenLatenciesHoldLoosely : Type 0
WrittenLatenciesHoldLoosely =
    (d : Domain) (streams : List Asked) (plan entries : List Recorded) (offers : List Offer) (background : List Background) (cycles : ℕ) (net : Network)
    (heard : Carried) → admitted_from d [] 1 streams ≡ Ok plan → AdmitsOnly streams entries →
    IsLooseHistory d entries offers background cycles (slack_of d) net heard → (link : ℕ) (sent h : Sent) → IsHeardOf net heard link sent h →
    (shift : InShift (run_of_history d entries offers background cycles) (length (tables_of d entries cycles)) sent.frame link (cycle_of d sent.start.0)) →
    IsAsWritten d link shift.hop_number (most_beside (held_in d plan 0) shift.row.tree.items shift.row.pace link) shift.x.offer.at.0 (whole_at d link h)
