-- A loose network whose history admits only streams of a list keeps the list's bounds.
use Rattle.std.proofs.Common.{◌≡◌, ℕ, ◌+◌, ◌-◌, ◌*◌, ◌<◌, ◌≤◌, List, length, sym, subst, arith}
use Rattle.cqf_model.specs.declared.frames.Background.{Background}
use Rattle.cqf_model.specs.declared.frames.Offer.{Offer}
use Rattle.cqf_model.specs.declared.frames.Sent.{Sent}
use Rattle.cqf_model.specs.Domain.{Domain, cycle_of, delay_of, gap_of, octet_time_of}
use Rattle.cqf_model.specs.History.{Asked, Recorded, tables_of}
use Rattle.cqf_model.specs.HistoryBook.{run_of_history}
use Rattle.cqf_model.specs.Loose.{IsAcceptedWith, Slack, slack_of}
use Rattle.cqf_model.specs.Network.{Network}
use Rattle.cqf_model.specs.Shift.{InShift}
use Rattle.cqf_model.specs.Table.{link_cost, table_of}
use Rattle.cqf_model.specs.Policing.{Carried, whole_at}
use Rattle.cqf_model.proofs.Links.{accepted_with}
use Rattle.cqf_units.specs.Timing.{span_of}
use Rattle.cqf_laws_history.specs.HistoryLaws.{TablesAreOrderly}
use Rattle.cqf_laws_loose.specs.LooseLaws.{IsLatencyAbout, IsWholeAbout, LooseFramesAreTimely}
use Rattle.cqf_laws_loose.proofs.Timely.{latency_about}
use Rattle.cqf_laws_timing.specs.LooseStreams.{IsHeardOf, IsInTimeLoosely, IsLooseHistory, LooseHistoryIsInTime, LooseHistoryIsTimely, LooseVerdictsHold}
use Rattle.cqf_laws_timing.specs.Streams.{AdmitsOnly, ArePaced, most_beside_all}
use Rattle.cqf_laws_timing.proofs.Kept.{IsBoundedBy, bounded_by, timely_said}
use Rattle.cqf_laws_timing.proofs.Timely.{more_cost, shift_hop, timely}

module _ (orderly : TablesAreOrderly) (timely_loosely : LooseFramesAreTimely) (d : Domain) (entries : List Recorded) (offers : List Offer)
    (background : List Background) (cycles : ℕ) (streams : List Asked) (slack : Slack) (net : Network) (heard : Carried) (accepted : IsAcceptedWith d slack)
    (is : IsLooseHistory d entries offers background cycles slack net heard) (only : AdmitsOnly streams entries) (each : ArePaced streams) (link : ℕ)
    (sent h : Sent) (of : IsHeardOf net heard link sent h)
    (shift : InShift (run_of_history d entries offers background cycles) (length (tables_of d entries cycles)) sent.frame link (cycle_of d sent.start.0)) where
  -- the list's bound for the frame's stream
  pub bound : IsBoundedBy d streams (tables_of d entries cycles) shift.row link (cycle_of d sent.start.0)
  bound = bounded_by orderly d entries offers background cycles streams is.accepted is.legal is.offered is.sealed only each sent.frame link (cycle_of d sent.start.0)
      shift

  -- the link is one of the domain's, and its hop number is at least 1
  pub hop : (link < length d.links) × (0 < shift.hop_number)
  hop = shift_hop (run_of_history d entries offers background cycles) sent.frame link (cycle_of d sent.start.0)
      (orderly d entries cycles is.legal is.sealed) shift

  -- the frame arrives fully within that bound
  pub whole_about : IsWholeAbout d slack link (cycle_of d sent.start.0) (most_beside_all d streams bound.of.asked link) (whole_at d link h)
  whole_about =
      let tables = tables_of d entries cycles in
      let cycle = cycle_of d sent.start.0 in
      let before = cycle - 1 in
      let at_cycle : cycle ≡ before + 1 = omega (arith, shift.is_cycle, hop.1) in
      let held = timely_loosely (run_of_history d entries offers background cycles) slack net heard link before sent h
      (record {
        accepted = accepted;
        orderly = orderly d entries cycles is.legal is.sealed;
        offered = is.offered;
        background = is.beside;
        loose = is.loose;
      })
      of.is_sent of.is_heard of.is_frame at_cycle in
      more_cost d slack link cycle (link_cost (table_of tables before) link cycle) (most_beside_all d streams bound.of.asked link) (whole_at d link h)
      (bound.within before)
      (subst (λ (z : ℕ). IsWholeAbout d slack link z (link_cost (table_of tables before) link z) (whole_at d link h)) (sym at_cycle) held)

  -- its latency is within the bounds
  pub about : IsLatencyAbout d slack link shift.hop_number (most_beside_all d streams bound.of.asked link) shift.x.offer.at.0 (whole_at d link h)
  about = latency_about d slack link shift.hop_number (most_beside_all d streams bound.of.asked link) shift.x.offer.at.0 (cycle_of d sent.start.0)
      (whole_at d link h) (omega (arith, is.accepted.cycle_least)) shift.is_cycle whole_about

-- a frame that takes no more than the most keeps each deadline that is at least the most
in_time_by : (d : Domain) (slack : Slack) (link hop_number cost at whole : ℕ) → IsLatencyAbout d slack link hop_number cost at whole →
    IsInTimeLoosely d slack link hop_number cost at whole
in_time_by d slack link hop_number cost at whole about = record {
  about = about;
  in_time = λ deadline late. kept (gap_of d link) (hop_number * d.cycle_time) (span_of cost (octet_time_of d link)) (delay_of d link) slack.sync deadline
      about.most late;
}
  where
    kept : (gap deep span delay sync deadline : ℕ) → whole + gap ≤ at + deep + span + delay + sync → deep + span + delay + sync ≤ deadline + gap →
        whole ≤ at + deadline
    kept gap deep span delay sync deadline upto late = omega (arith, upto, late)

-- the laws
pub loose_history_is_in_time : TablesAreOrderly → LooseFramesAreTimely → LooseHistoryIsInTime
loose_history_is_in_time orderly law d entries offers background cycles streams slack net heard accepted is only each link sent h of shift =
    let b = bound orderly law d entries offers background cycles streams slack net heard accepted is only each link sent h of shift in
    let a = about orderly law d entries offers background cycles streams slack net heard accepted is only each link sent h of shift in
    (b.of, in_time_by d slack link shift.hop_number (most_beside_all d streams b.of.asked link) shift.x.offer.at.0 (whole_at d link h) a)

pub loose_history_is_timely : TablesAreOrderly → LooseFramesAreTimely → LooseHistoryIsTimely
loose_history_is_timely orderly law d entries offers background cycles streams net heard is only each link sent h of shift =
    let slack = slack_of d in
    let accepted = accepted_with d is.accepted in
    let b = bound orderly law d entries offers background cycles streams slack net heard accepted is only each link sent h of shift in
    let w = whole_about orderly law d entries offers background cycles streams slack net heard accepted is only each link sent h of shift in
    let at = hop orderly law d entries offers background cycles streams slack net heard accepted is only each link sent h of shift in (
      b.of,
      timely d link (cycle_of d sent.start.0) (most_beside_all d streams b.of.asked link) (whole_at d link h) shift.x.offer.at.0 shift.hop_number is.accepted at.0
          at.1 shift.is_cycle w,
    )

pub loose_verdicts_hold : TablesAreOrderly → LooseFramesAreTimely → LooseVerdictsHold
loose_verdicts_hold orderly law d entries offers background cycles streams net heard is only each link sent h of shift =
    let both = loose_history_is_timely orderly law d entries offers background cycles streams net heard is only each link sent h of shift in
    (both.0, timely_said d link shift.hop_number (most_beside_all d streams both.0.asked link) shift.x.offer.at.0 (whole_at d link h) both.1)
