-- How long frames take in a loose network whose history admits only streams of a list: what `latency` reports for a plan.
use Rattle.std.specs.Prelude.{ℕ, ◌≡◌, ◌+◌, ◌*◌, ◌≤◌, List, length, Contains}
use Rattle.cqf_units.specs.Timing.{span_of}
use Rattle.cqf_model.specs.declared.frames.Background.{Background}
use Rattle.cqf_model.specs.declared.frames.Offer.{Offer}
use Rattle.cqf_model.specs.declared.frames.Sent.{Sent}
use Rattle.cqf_model.specs.Domain.{Domain, IsAccepted, cycle_of, delay_of, gap_of, octet_time_of}
use Rattle.cqf_model.specs.History.{Asked, IsLegalHistory, Recorded, seals, tables_of}
use Rattle.cqf_model.specs.HistoryBook.{run_of_history}
use Rattle.cqf_model.specs.Loose.{IsAcceptedWith, IsLooseNetwork, Slack, slack_of}
use Rattle.cqf_model.specs.Network.{Network}
use Rattle.cqf_model.specs.Run.{AreBackground, AreOffers}
use Rattle.cqf_model.specs.Shift.{InShift}
use Rattle.cqf_model.specs.Policing.{Carried, whole_at}
use Rattle.cqf_laws_timing.specs.Latency.{IsTimely}
use Rattle.cqf_laws_timing.specs.Streams.{AdmitsOnly, ArePaced, IsOfList, most_beside_all}
use Rattle.cqf_laws_timing.specs.Verdicts.{IsAsSaid, sure_on}
use Rattle.cqf_laws_loose.specs.LooseLaws.{IsLatencyAbout}

-- a loose network of a legal history, with any withdrawals and offers, beside any background frames
pub record IsLooseHistory (d : Domain) (entries : List Recorded) (offers : List Offer) (background : List Background) (cycles : ℕ) (slack : Slack)
    (net : Network) (heard : Carried) : Type 0 where
  pub accepted : IsAccepted d
  pub legal : IsLegalHistory d entries
  pub offered : AreOffers d offers
  pub beside : AreBackground d background
  pub sealed : cycles ≤ seals entries
  pub loose : IsLooseNetwork (run_of_history d entries offers background cycles) slack net heard

-- a frame that a link sends, and the same frame as the node at the link's end hears it
pub record IsHeardOf (net : Network) (heard : Carried) (link : ℕ) (sent h : Sent) : Type 0 where
  pub is_sent : Contains (net.carried link) sent
  pub is_heard : Contains (heard link) h
  pub is_frame : h.frame ≡ sent.frame

-- in each loose network with the slack that the domain states, each frame is timely by the most that the list costs in the cycles of the
-- frame's stream. Its time is measured from its offer by the edge bridge's clock to its full arrival by the clock at the link's end
abbrev pub LooseHistoryIsTimely : Type 0
LooseHistoryIsTimely =
    (d : Domain) (entries : List Recorded) (offers : List Offer) (background : List Background) (cycles : ℕ) (streams : List Asked) (net : Network)
    (heard : Carried) → IsLooseHistory d entries offers background cycles (slack_of d) net heard → AdmitsOnly streams entries → ArePaced streams →
    (link : ℕ) (sent h : Sent) → IsHeardOf net heard link sent h →
    (shift : InShift (run_of_history d entries offers background cycles) (length (tables_of d entries cycles)) sent.frame link (cycle_of d sent.start.0)) →
    (of : IsOfList d streams shift.row)
    × IsTimely d link shift.hop_number (most_beside_all d streams of.asked link) shift.x.offer.at.0 (whole_at d link h)

-- so each frame is as the verdict says, for any deadline
abbrev pub LooseVerdictsHold : Type 0
LooseVerdictsHold =
    (d : Domain) (entries : List Recorded) (offers : List Offer) (background : List Background) (cycles : ℕ) (streams : List Asked) (net : Network)
    (heard : Carried) → IsLooseHistory d entries offers background cycles (slack_of d) net heard → AdmitsOnly streams entries → ArePaced streams →
    (link : ℕ) (sent h : Sent) → IsHeardOf net heard link sent h →
    (shift : InShift (run_of_history d entries offers background cycles) (length (tables_of d entries cycles)) sent.frame link (cycle_of d sent.start.0)) →
    (of : IsOfList d streams shift.row) × ((deadline : ℕ) →
    IsAsSaid shift.x.offer.at.0 (whole_at d link h) deadline (sure_on d streams of.asked link shift.hop_number deadline))

-- with any slack, each frame arrives fully within the list's bounds and the slack, and so within each deadline that is at least the
-- most
pub record IsInTimeLoosely (d : Domain) (slack : Slack) (link hop_number cost at whole : ℕ) : Type 0 where
  pub about : IsLatencyAbout d slack link hop_number cost at whole
  pub in_time : (deadline : ℕ) →
      hop_number * d.cycle_time + span_of cost (octet_time_of d link) + delay_of d link + slack.sync ≤ deadline + gap_of d link → whole ≤ at + deadline

abbrev pub LooseHistoryIsInTime : Type 0
LooseHistoryIsInTime =
    (d : Domain) (entries : List Recorded) (offers : List Offer) (background : List Background) (cycles : ℕ) (streams : List Asked) (slack : Slack)
    (net : Network) (heard : Carried) → IsAcceptedWith d slack → IsLooseHistory d entries offers background cycles slack net heard →
    AdmitsOnly streams entries → ArePaced streams → (link : ℕ) (sent h : Sent) → IsHeardOf net heard link sent h →
    (shift : InShift (run_of_history d entries offers background cycles) (length (tables_of d entries cycles)) sent.frame link (cycle_of d sent.start.0)) →
    (of : IsOfList d streams shift.row)
    × IsInTimeLoosely d slack link shift.hop_number (most_beside_all d streams of.asked link) shift.x.offer.at.0 (whole_at d link h)
