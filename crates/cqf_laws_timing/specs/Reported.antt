-- What is reported for a plan's rows, and for which frames it holds.
use Rattle.std.specs.Prelude.{ℕ, ◌≡◌, List, [], Some, Contains, length, slice_get}
use Rattle.cqf_model.specs.declared.frames.Background.{Background}
use Rattle.cqf_model.specs.declared.frames.Offer.{Offer}
use Rattle.cqf_model.specs.declared.frames.Sent.{Sent}
use Rattle.cqf_model.specs.declared.frames.Started.{Started}
use Rattle.cqf_model.specs.declared.topology.Hop.{Hop}
use Rattle.cqf_model.specs.declared.topology.Row.{Row}
use Rattle.cqf_model.specs.Book.{Contents}
use Rattle.cqf_model.specs.Domain.{Domain, IsAccepted, cycle_of}
use Rattle.cqf_model.specs.History.{Asked, IsLegalHistory, Recorded, held_in, most_beside, pace_of, tables_of, tree_of}
use Rattle.cqf_model.specs.HistoryBook.{IsBookOfHistory, run_of_history}
use Rattle.cqf_model.specs.Loose.{slack_of}
use Rattle.cqf_model.specs.Network.{Network}
use Rattle.cqf_model.specs.Run.{AreBackground, AreOffers}
use Rattle.cqf_model.specs.Shift.{InShift}
use Rattle.cqf_model.specs.Table.{SameStream, table_of}
use Rattle.cqf_model.specs.Policing.{Carried, whole_at}
use Rattle.cqf_laws_timing.specs.Latency.{IsTimely, least_of, most_of, whole_of}
use Rattle.cqf_laws_timing.specs.LooseStreams.{IsHeardOf, IsLooseHistory}
use Rattle.cqf_laws_timing.specs.Streams.{AdmitsOnly, AreGranted, with_all}
use Rattle.cqf_laws_timing.specs.Verdicts.{IsAsSaid, sure_of}

-- the rows of a plan: those of cycle 0, if the plan's streams are requested in turn before it
abbrev pub planned_rows : Domain → List Asked → List Row
planned_rows d streams = held_in d (with_all d [] streams) 0

-- the row is that of the stream at the index of its number
pub record IsPlanned (d : Domain) (streams : List Asked) (row : Row) : Type 0 where
  pub asked : Asked
  pub stands : slice_get streams row.no ≡ Some asked
  pub name : row.name ≡ asked.name
  pub octets : row.octets ≡ asked.octets
  pub pace : row.pace ≡ pace_of asked
  pub tree : row.tree.items ≡ tree_of d asked.paths

-- if all streams of a plan are admitted, this holds for each row of the plan
abbrev pub RowsArePlanned : Type 0
RowsArePlanned = (d : Domain) (streams : List Asked) (row : Row) → AreGranted d [] streams → Contains (planned_rows d streams) row →
    IsPlanned d streams row

-- a row of the plan and a row of a history that admits only the plan's streams are of the same stream if they have the same name
abbrev pub NamesIdentifyStreams : Type 0
NamesIdentifyStreams = (d : Domain) (streams : List Asked) (entries : List Recorded) (cycles cycle : ℕ) (reported row : Row) → AreGranted d [] streams →
    AdmitsOnly streams entries → Contains (planned_rows d streams) reported → Contains (table_of (tables_of d entries cycles) cycle) row →
    reported.name ≡ row.name → SameStream reported row

-- the most that a plan costs of a link in a cycle in which frames of this row's stream use the link
abbrev pub reported_cost : Domain → List Asked → Row → ℕ → ℕ
reported_cost d streams reported link = most_beside (planned_rows d streams) reported.tree.items reported.pace link

-- a frame that is offered at the instant `at` and has fully arrived at the instant `whole` is as reported. It is within the bounds at the
-- end of a hop of a plan's row, and the verdict on any deadline is true of it
pub record IsAsReportedAt (d : Domain) (streams : List Asked) (reported : Row) (hop : Hop) (at whole : ℕ) : Type 0 where
  pub timely : IsTimely d hop.link hop.hop_number (reported_cost d streams reported hop.link) at whole
  pub verdict : (deadline : ℕ) → IsAsSaid at whole deadline
      (sure_of (least_of d hop.link hop.hop_number) (most_of d hop.link hop.hop_number (reported_cost d streams reported hop.link)) deadline)

-- what is reported at the end of a hop of a plan's row holds for each frame that is offered under the row's name and starts on the hop's
-- link. This is so in the book of each history that admits only the plan's streams, with any offers, beside any background frames
abbrev pub ReportedBoundsHold : Type 0
ReportedBoundsHold =
    (d : Domain) (streams : List Asked) (entries : List Recorded) (offers : List Offer) (background : List Background) (cycles : ℕ) (book : Contents)
    (reported : Row) (hop : Hop) → IsAccepted d → AreGranted d [] streams → IsLegalHistory d entries → AdmitsOnly streams entries →
    AreOffers d offers → AreBackground d background → IsBookOfHistory d entries offers background cycles book →
    Contains (planned_rows d streams) reported → Contains reported.tree.items hop → (s : Started) → Contains book.starts s → s.link ≡ hop.link →
    (shift : InShift (run_of_history d entries offers background cycles) (length (tables_of d entries cycles)) s.frame s.link s.cycle.0) →
    shift.x.offer.stream ≡ reported.name → IsAsReportedAt d streams reported hop shift.x.offer.at.0 (whole_of d s)

-- what is reported at the end of a hop of a plan's row holds for each such frame in every loose network of the history, with the slack that
-- the domain states: from its offer by the edge bridge's clock to its full arrival by the clock at the link's end
abbrev pub LooseReportedBoundsHold : Type 0
LooseReportedBoundsHold =
    (d : Domain) (streams : List Asked) (entries : List Recorded) (offers : List Offer) (background : List Background) (cycles : ℕ) (net : Network)
    (heard : Carried) (reported : Row) (hop : Hop) → AreGranted d [] streams → AdmitsOnly streams entries →
    IsLooseHistory d entries offers background cycles (slack_of d) net heard → Contains (planned_rows d streams) reported → Contains reported.tree.items hop →
    (sent h : Sent) → IsHeardOf net heard hop.link sent h →
    (shift : InShift (run_of_history d entries offers background cycles) (length (tables_of d entries cycles)) sent.frame hop.link (cycle_of d sent.start.0)) →
    shift.x.offer.stream ≡ reported.name → IsAsReportedAt d streams reported hop shift.x.offer.at.0 (whole_at d hop.link h)
