-- Laws of loose networks.
use Rattle.std.specs.Prelude.{ℕ, ◌≡◌, ◌+◌, ◌*◌, ◌≤◌, ◌↔◌, List, length, Contains}
use Rattle.cqf_units.specs.Timing.{span_of, time_of}
use Rattle.cqf_model.specs.declared.frames.Background.{Background}
use Rattle.cqf_model.specs.declared.frames.Sent.{Sent}
use Rattle.cqf_model.specs.Domain.{Domain, IsAccepted, cycle_of, delay_of, gap_of, octet_time_of}
use Rattle.cqf_model.specs.Loose.{IsAcceptedWith, IsLooseNetwork, Slack, slack_of}
use Rattle.cqf_model.specs.Network.{Network}
use Rattle.cqf_model.specs.Promise.{LeavesIn, MeansTheShiftAs}
use Rattle.cqf_model.specs.declared.frames.Offer.{Offer}
use Rattle.cqf_model.specs.declared.frames.Started.{Started}
use Rattle.cqf_model.specs.Book.{Contents, IsOneThreadBook}
use Rattle.cqf_model.specs.History.{IsLegalHistory, Recorded, seals}
use Rattle.cqf_model.specs.HistoryBook.{run_of_history}
use Rattle.cqf_model.specs.Run.{AreBackground, AreOffers, Run}
use Rattle.cqf_model.specs.Shift.{InShift}
use Rattle.cqf_model.specs.Table.{AreOrderly, link_cost, table_of}
use Rattle.cqf_model.specs.Policing.{Carried, whole_at}
use Rattle.cqf_laws_shift.specs.Run.{IsLegalRun, with_background}
use Rattle.cqf_laws_loose.specs.LooseRuns.{IsLooseRun, IsTransit, heard_by}

-- the gates mean the shift in every loose network
abbrev pub LooseGatesMeanTheShift : Type 0
LooseGatesMeanTheShift = (run : Run) (slack : Slack) (net : Network) (heard : Carried) → IsLooseRun run slack net heard → MeansTheShiftAs run net.carried heard

-- background frames, other delays and other clocks don't change the cycle in which a stream's frame leaves
abbrev pub SlackChangesNoCycle : Type 0
SlackChangesNoCycle = (run : Run) (background : List Background) (slack other : Slack) (net far : Network) (heard distant : Carried) →
    IsLooseRun run slack net heard → IsLooseRun (with_background run background) other far distant → (frame link cycle : ℕ) →
    LeavesIn run.domain net.carried frame link cycle ↔ LeavesIn run.domain far.carried frame link cycle

-- an accepted domain is accepted with the slack that it states, so the laws hold for each of its loose networks
abbrev pub AcceptedHasItsSlack : Type 0
AcceptedHasItsSlack = (d : Domain) → IsAccepted d → IsAcceptedWith d (slack_of d)

-- if all nodes have the same clock and each link delays as stated, the network is a loose one too, with any slack with which the
-- domain is accepted and whose least delays are at most the links' delays
abbrev pub ExactIsLoose : Type 0
ExactIsLoose = (run : Run) (slack : Slack) (net : Network) → IsLegalRun run net → IsAcceptedWith run.domain slack →
    ((l : ℕ) → slack.least l ≤ delay_of run.domain l) → IsLooseRun run slack net net.carried

-- the exact network is a loose one with the slack that the domain states
abbrev pub ExactHasItsSlack : Type 0
ExactHasItsSlack = (run : Run) (net : Network) → IsLegalRun run net → IsLooseRun run (slack_of run.domain) net net.carried

-- when a frame that starts in a cycle has fully arrived at the link's end, by the clock there, if this cost is held on the link. Up to the
-- clocks' difference, it arrives no sooner than a shortest frame that starts with the cycle and takes the least delay. It arrives no later
-- than the last of frames that take all of the cost, with the greatest delay. The cost has room for a shortest frame
pub record IsWholeAbout (d : Domain) (slack : Slack) (link cycle cost whole : ℕ) : Type 0 where
  pub earliest : cycle * d.cycle_time + time_of 72 (octet_time_of d link) + slack.least link ≤ whole + slack.sync
  pub latest : whole + gap_of d link ≤ cycle * d.cycle_time + span_of cost (octet_time_of d link) + delay_of d link + slack.sync
  pub some_cost : 84 ≤ cost

-- so the latency, from the offer by the edge bridge's clock to the frame's full arrival by the clock at the link's end, has these bounds,
-- in nanoseconds. With the hop number `hop_number`, it is at least `hop_number` - 1 cycle times and 1, plus the time of a shortest frame and the
-- least delay, minus the clocks' difference. It is at most `hop_number` cycle times, plus the time of the held cost without the last gap, plus
-- the greatest delay, plus the clocks' difference
pub record IsLatencyAbout (d : Domain) (slack : Slack) (link hop_number cost at whole : ℕ) : Type 0 where
  pub least : at + hop_number * d.cycle_time + 1 + time_of 72 (octet_time_of d link) + slack.least link ≤ whole + d.cycle_time + slack.sync
  pub most : whole + gap_of d link ≤ at + hop_number * d.cycle_time + span_of cost (octet_time_of d link) + delay_of d link + slack.sync

-- each frame that a link of a loose network sends arrives within these bounds, with the cost by the table of the cycle in which it was
-- queued
abbrev pub LooseFramesAreTimely : Type 0
LooseFramesAreTimely = (run : Run) (slack : Slack) (net : Network) (heard : Carried) (link before : ℕ) (sent h : Sent) → IsLooseRun run slack net heard →
    Contains (net.carried link) sent → Contains (heard link) h → h.frame ≡ sent.frame → cycle_of run.domain sent.start.0 ≡ before + 1 →
    IsWholeAbout run.domain slack link (before + 1) (link_cost (table_of run.tables before) link (before + 1)) (whole_at run.domain link h)

-- each frame that a link of a loose network sends has such a latency, with the cost by the table of the cycle in which it was queued
abbrev pub LooseLatencyIsWithin : Type 0
LooseLatencyIsWithin = (run : Run) (slack : Slack) (net : Network) (heard : Carried) (link before : ℕ) (sent h : Sent) → IsLooseRun run slack net heard →
    Contains (net.carried link) sent → Contains (heard link) h → h.frame ≡ sent.frame → cycle_of run.domain sent.start.0 ≡ before + 1 →
    (shift : InShift run (length run.tables) sent.frame link (cycle_of run.domain sent.start.0)) →
    IsLatencyAbout run.domain slack link shift.hop_number (link_cost (table_of run.tables before) link (before + 1)) shift.x.offer.at.0 (whole_at run.domain link h)

-- for any way in which frames can arrive within the bounds, there is a loose network in which they arrive in this way
abbrev pub LooseNetworkExists : Type 0
LooseNetworkExists = (run : Run) (slack : Slack) (noted : ℕ → Sent → Sent) → IsAcceptedWith run.domain slack → AreOrderly run.domain run.tables →
    AreOffers run.domain run.offers → AreBackground run.domain run.background → IsTransit run.domain slack noted →
    (net : Network) × IsLooseRun run slack net (heard_by noted net.carried)

-- the gates mean the shift in every loose network of the run of a legal history
abbrev pub LooseHistoryMeansTheShift : Type 0
LooseHistoryMeansTheShift = (d : Domain) (entries : List Recorded) (offers : List Offer) (background : List Background) (cycles : ℕ) (slack : Slack)
    (net : Network) (heard : Carried) → IsAcceptedWith d slack → IsLegalHistory d entries → AreOffers d offers → AreBackground d background →
    cycles ≤ seals entries → IsLooseNetwork (run_of_history d entries offers background cycles) slack net heard →
    MeansTheShiftAs (run_of_history d entries offers background cycles) net.carried heard

-- what leaves in a loose network, and in which cycle, is exactly what the run's one-thread book says
pub record LeavesByTheBook (run : Run) (net : Network) (book : Contents) : Type 0 where
  pub each : (s : Started) → Contains book.starts s → LeavesIn run.domain net.carried s.frame s.link s.cycle.0
  pub only : (frame link cycle : ℕ) → LeavesIn run.domain net.carried frame link cycle →
      (s : Started) × Contains book.starts s × (s.frame ≡ frame) × (s.link ≡ link) × (s.cycle.0 ≡ cycle)

abbrev pub LooseNetworkLeavesByTheBook : Type 0
LooseNetworkLeavesByTheBook = (run : Run) (slack : Slack) (net : Network) (heard : Carried) (book : Contents) → IsLooseRun run slack net heard →
    IsOneThreadBook run book → LeavesByTheBook run net book

-- for one choice of transits, the links of any two such networks carry the same streams' frames
abbrev pub LooseNetworkIsUnique : Type 0
LooseNetworkIsUnique = (run : Run) (slack : Slack) (noted : ℕ → Sent → Sent) (net other : Network) → IsTransit run.domain slack noted →
    IsLooseRun run slack net (heard_by noted net.carried) → IsLooseRun run slack other (heard_by noted other.carried) →
    (l : ℕ) → net.carried l ≡ other.carried l
