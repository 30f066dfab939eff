-- Each start of a book is timely.
use Rattle.std.proofs.Common.{◌≡◌, ℕ, ◌+◌, ◌-◌, ◌*◌, ◌/◌, ◌<◌, ◌≤◌, List, refl, ap, subst, arith, Contains, length, ◌==◌, eqb-true, le_trans}
use Rattle.std.proofs.lemmas.List.Elements.{All-contains}
use Rattle.cqf_units.specs.Timing.{span_of, time_of}
use Rattle.cqf_units.proofs.Times.{shortest_in_span, slot_parts, span_grows, span_in_time}
use Rattle.cqf_model.proofs.Links.{guard_within, least_long, least_within, sync_within}
use Rattle.cqf_units.proofs.Cycles.{cycle_from, cycle_upto}
use Rattle.cqf_lists.specs.Lists.{each_below}
use Rattle.cqf_lists.proofs.EachBelow.{contains_from_below}
use Rattle.cqf_lists.proofs.Members.{contains_from_filter, contains_from_map, find_member}
use Rattle.cqf_model.specs.declared.frames.Sent.{Sent}
use Rattle.cqf_model.specs.declared.frames.Started.{Started}
use Rattle.cqf_model.specs.Book.{Contents, IsOneThreadBook, batch, started, starts_in}
use Rattle.cqf_model.specs.Domain.{Domain, IsAccepted, cycle_of, delay_of, gap_of, guard_of, is_text, least_delay_of, octet_time_of}
use Rattle.cqf_model.specs.Loose.{Slack, slack_of}
use Rattle.cqf_model.specs.Network.{Network}
use Rattle.cqf_model.specs.Run.{Run}
use Rattle.cqf_model.specs.Shift.{InShift, offer_cycle}
use Rattle.cqf_model.specs.Table.{AreOrderly, link_cost, table_of}
use Rattle.cqf_model.specs.declared.topology.Hop.{Hop}
use Rattle.cqf_model.specs.declared.topology.Row.{Row}
use Rattle.cqf_model.specs.Policing.{whole_at}
use Rattle.cqf_model.proofs.Residence.{hop_number_some}
use Rattle.cqf_laws_shift.specs.MainLaw.{GatesMeanTheShift}
use Rattle.cqf_laws_shift.specs.Run.{IsLegalRun, RunBesideIsRunAlone}
use Rattle.cqf_laws_shift.proofs.CycleLaws.{CycleLaws}
use Rattle.cqf_laws_loose.specs.LooseLaws.{IsWholeAbout}
use Rattle.cqf_laws_loose.proofs.Timely.{latency_about}
use Rattle.cqf_laws_timing.specs.Latency.{BookIsTimely, BoundsAreShort, IsLatencyWithin, IsTimely, IsWholeWithin}
use Rattle.cqf_laws_timing.specs.Latency.{LatencyIsWithinHeld, StartsAreWholeWithinHeld, whole_of}
use Rattle.cqf_laws_timing.proofs.Within.{whole_within}

-- a start of a book is that of a frame that its link sends
pub record IsStartOf (run : Run) (net : Network) (s : Started) : Type 0 where
  pub sent : Sent
  pub inside : Contains (net.carried s.link) sent
  pub cycle : cycle_of run.domain sent.start.0 ≡ s.cycle.0
  pub whole : whole_at run.domain s.link sent ≡ whole_of run.domain s

-- this holds for each start
pub start_of : (run : Run) (book : Contents) (is : IsOneThreadBook run book) (s : Started) → Contains book.starts s → IsStartOf run is.net s
start_of run book is s c =
    let d = run.domain in
    let carried = is.net.carried in
    let by_cycle = contains_from_below (λ cycle. each_below (starts_in d carried cycle) (length d.links)) (length run.tables) s
    (subst (λ (xs : List Started). Contains xs s) is.are_starts c) in
    let by_link = contains_from_below (starts_in d carried by_cycle.0) (length d.links) s by_cycle.2 in
    let sent = contains_from_map (started by_cycle.0 by_link.0) (batch d carried by_link.0 by_cycle.0) s by_link.2 in
    let kept = contains_from_filter (λ (z : Sent). cycle_of d z.start.0 == by_cycle.0) (carried by_link.0) sent.0 sent.1 in
    subst (λ (z : Started). IsStartOf run is.net z) sent.2
    (record { sent = sent.0; inside = kept.0; cycle = eqb-true (cycle_of d sent.0.start.0) by_cycle.0 kept.1; whole = refl })

-- the bounds for equal clocks and the greatest delays lie within those of the slack that the domain states
pub about_of : (d : Domain) (link cycle cost whole : ℕ) → IsAccepted d → IsWholeWithin d link cycle cost whole → IsWholeAbout d (slack_of d) link cycle cost whole
about_of d link cycle cost whole accepted w = record {
  earliest = sooner (cycle * d.cycle_time + time_of 72 (octet_time_of d link)) (least_delay_of d link) (delay_of d link) d.sync w.earliest
      (least_within d link accepted);
  latest = later (whole + gap_of d link) (cycle * d.cycle_time + span_of cost (octet_time_of d link) + delay_of d link) d.sync w.latest;
  some_cost = w.some_cost;
}
  where
    sooner : (from least delay sync : ℕ) → from + delay ≤ whole → least ≤ delay → from + least ≤ whole + sync
    sooner from least delay sync first less = omega (arith, first, less)

    later : (over upto sync : ℕ) → over ≤ upto → over ≤ upto + sync
    later over upto sync last = omega (arith, last)

-- more cost gives no less time
pub more_cost : (d : Domain) (slack : Slack) (link cycle cost more whole : ℕ) → cost ≤ more → IsWholeAbout d slack link cycle cost whole →
    IsWholeAbout d slack link cycle more whole
more_cost d slack link cycle cost more whole within w = record {
  earliest = w.earliest;
  latest = wider (whole + gap_of d link) (cycle * d.cycle_time) (span_of cost (octet_time_of d link)) (span_of more (octet_time_of d link)) (delay_of d link)
      slack.sync w.latest (span_grows cost more (octet_time_of d link) within);
  some_cost = omega (arith, w.some_cost, within);
}
  where
    wider : (over from span wide delay sync : ℕ) → over ≤ from + span + delay + sync → span ≤ wide → over ≤ from + wide + delay + sync
    wider over from span wide delay sync last grows = omega (arith, last, grows)

-- the bounds after the offer's instant, by the time of a shortest frame, the gap and the span of the cost
latency_by : (n short gap span delay at hop_number cycle whole : ℕ) → 0 < n → cycle ≡ at / n + hop_number → cycle * n + short + delay ≤ whole →
    whole + gap ≤ cycle * n + span + delay →
    (at + hop_number * n + 1 + short + delay ≤ whole + n) × (whole + gap ≤ at + hop_number * n + span + delay)
latency_by n short gap span delay at hop_number cycle whole some is first last =
    let scaled = ap (λ (z : ℕ). z * n) is in
    (omega (arith, scaled, first, cycle_upto n at some), omega (arith, scaled, last, cycle_from n at))

-- (k - 1) n + n = k n
one_less : (n k : ℕ) → 0 < k → (k - 1) * n + n ≡ k * n
one_less n k some =
    let is : k ≡ (k - 1) + 1 = omega (arith, some) in
    omega (arith, ap (λ (z : ℕ). z * n) is)

-- a lower bound up to the clocks' difference is a lower bound as reported, without it
least_reported : (at before deep n short least sync whole : ℕ) → before + n ≡ deep → at + deep + 1 + short + least ≤ whole + n + sync → sync ≤ short + least →
    at + ((before + 1 + short + least) - sync) ≤ whole
least_reported at before deep n short least sync whole is first long = omega (arith, is, first, long)

-- what is over with its gap within a span is over within the rest of it
most_reported : (whole at from short gap span delay sync : ℕ) → whole + gap ≤ at + from + span + delay + sync → short + gap ≤ span →
    whole ≤ at + (from + (span - gap) + delay + sync)
most_reported whole at from short gap span delay sync last fits = omega (arith, last, fits)

-- and within the window after the first possible instant
within_window : (whole from short least gap span delay sync : ℕ) → whole + gap ≤ from + span + delay + sync → short + gap ≤ span → least ≤ delay →
    whole ≤ ((from + short + least) - sync) + ((span - (gap + short)) + (delay - least) + 2 * sync)
within_window whole from short least gap span delay sync last fits less = omega (arith, last, fits, less)

-- the span of a cost of at least a shortest frame has room for it and the gap after it
pub shortest_fits : (r cost : ℕ) → 84 ≤ cost → time_of 72 r + 12 * r / 25 ≤ span_of cost r
shortest_fits r cost enough = le_trans (slot_parts 64 r) (shortest_in_span cost r enough)

-- the bounds after the offer's instant
latency_within : (d : Domain) (link cycle cost whole at hop_number : ℕ) → 0 < d.cycle_time → cycle ≡ cycle_of d at + hop_number →
    IsWholeWithin d link cycle cost whole → IsLatencyWithin d link hop_number cost at whole
latency_within d link cycle cost whole at hop_number some is w =
    let r = octet_time_of d link in
    let b = latency_by d.cycle_time (time_of 72 r) (gap_of d link) (span_of cost r) (delay_of d link) at hop_number cycle whole some is w.earliest w.latest in
    record { least = b.0; most = b.1 }

-- and as they are reported
pub timely : (d : Domain) (link cycle cost whole at hop_number : ℕ) → IsAccepted d → link < length d.links → 0 < hop_number → cycle ≡ cycle_of d at + hop_number →
    IsWholeAbout d (slack_of d) link cycle cost whole → IsTimely d link hop_number cost at whole
timely d link cycle cost whole at hop_number accepted is_link deep is w =
    let n = d.cycle_time in
    let r = octet_time_of d link in
    let short = time_of 72 r in
    let span = span_of cost r in
    let gap = gap_of d link in
    let delay = delay_of d link in
    let least = least_delay_of d link in
    let about = latency_about d (slack_of d) link hop_number cost at cycle whole (omega (arith, accepted.cycle_least)) is w in
    let scaled : cycle * n ≡ (cycle_of d at + hop_number) * n = ap (λ (z : ℕ). z * n) is in
    let fits = shortest_fits r cost w.some_cost in
    let first = subst (λ (z : ℕ). z + short + least ≤ whole + d.sync) scaled w.earliest in
    let last = subst (λ (z : ℕ). whole + gap ≤ z + span + delay + d.sync) scaled w.latest in
    record {
      some_hop_number = deep;
      some_cost = w.some_cost;
      least = least_reported at ((hop_number - 1) * n) (hop_number * n) n short least d.sync whole (one_less n hop_number deep) about.least (least_long d link accepted is_link);
      most = most_reported whole at (hop_number * n) short gap span delay d.sync about.most fits;
      window_first = begins ((cycle_of d at + hop_number) * n + short + least) d.sync first;
      window_last = within_window whole ((cycle_of d at + hop_number) * n) short least gap span delay d.sync last fits (least_within d link accepted);
    }
  where
    begins : (from sync : ℕ) → from ≤ whole + sync → from - sync ≤ whole
    begins from sync first = omega (arith, first)

-- the bounds in numbers
short_by : (n g short gap span delay least sync hop_number : ℕ) → 0 < n → g < n → delay + sync < g → least ≤ delay → 0 < hop_number → short + gap ≤ span → span + g ≤ n →
    (((hop_number - 1) * n + 1 + short + least) - sync ≤ hop_number * n + (span - gap) + delay + sync)
    × (hop_number * n + (span - gap) + delay + sync < (hop_number + 1) * n)
short_by n g short gap span delay least sync hop_number some less within lower deep fits in_time =
    (omega (arith, one_less n hop_number deep, fits, some, lower), omega (arith, fits, in_time, within, less))

pub bounds_are_short : BoundsAreShort
bounds_are_short d link hop_number cost accepted is_link deep enough fits =
    let r = octet_time_of d link in
    short_by d.cycle_time (guard_of d link) (time_of 72 r) (gap_of d link) (span_of cost r) (delay_of d link) (least_delay_of d link) d.sync hop_number
    (omega (arith, accepted.cycle_least)) (guard_within d link accepted) (sync_within d link accepted is_link) (least_within d link accepted) deep
    (shortest_fits r cost enough) (span_in_time d.cycle_time (guard_of d link) r cost (omega (arith, guard_within d link accepted)) fits)

-- the laws
pub latency_is_within_held : CycleLaws → RunBesideIsRunAlone → GatesMeanTheShift → LatencyIsWithinHeld
latency_is_within_held laws beside means run net link sent legal c shift =
    latency_within run.domain link (cycle_of run.domain sent.start.0)
    (link_cost (table_of run.tables (cycle_of run.domain sent.start.0)) link (cycle_of run.domain sent.start.0)) (whole_at run.domain link sent)
    shift.x.offer.at.0 shift.hop_number (omega (arith, legal.accepted.cycle_least)) shift.is_cycle (whole_within laws beside means run net legal link sent c)

pub starts_are_whole_within_held : CycleLaws → RunBesideIsRunAlone → GatesMeanTheShift → StartsAreWholeWithinHeld
starts_are_whole_within_held laws beside means run book accepted orderly offered background is s c =
    let d = run.domain in
    let legal : IsLegalRun run is.net =
    record { accepted = accepted; orderly = orderly; offered = offered; background = background; legal = is.legal } in
    let from = start_of run book is s c in
    let w = whole_within laws beside means run is.net legal s.link from.sent from.inside in
    subst (λ (z : ℕ). IsWholeWithin d s.link s.cycle.0 (link_cost (table_of run.tables s.cycle.0) s.link s.cycle.0) z) from.whole
    (subst (λ (z : ℕ). IsWholeWithin d s.link z (link_cost (table_of run.tables z) s.link z) (whole_at d s.link from.sent)) from.cycle w)

-- a link of a frame's tree is one of the domain's, and its hop number is at least 1
pub shift_hop : (run : Run) (frame link cycle : ℕ) → AreOrderly run.domain run.tables → (shift : InShift run (length run.tables) frame link cycle) →
    (link < length run.domain.links) × (0 < shift.hop_number)
shift_hop run frame link cycle orderly shift =
    let row = shift.row in
    let at = offer_cycle run.domain shift.x in
    let member = find_member (λ (r : Row). is_text r.name shift.x.offer.stream) (table_of run.tables at) row shift.covered.named in
    let tree = orderly.trees at row member.0 in
    let hop = shift.is_hop in
    let inside = All-contains (λ (h : Hop). h.link < length run.domain.links) row.tree.items hop.hop tree.inside hop.of_tree in (
      omega (arith, inside, hop.is_link),
      omega (arith, hop_number_some run.domain row.tree.items hop.hop tree hop.of_tree, hop.is_hop_number),
    )

pub shift_deep : (run : Run) (frame link cycle : ℕ) → AreOrderly run.domain run.tables → (shift : InShift run (length run.tables) frame link cycle) →
    0 < shift.hop_number
shift_deep run frame link cycle orderly shift = (shift_hop run frame link cycle orderly shift).1

pub book_is_timely : CycleLaws → RunBesideIsRunAlone → GatesMeanTheShift → BookIsTimely
book_is_timely laws beside means run book accepted orderly offered background is s c shift =
    let cost = link_cost (table_of run.tables s.cycle.0) s.link s.cycle.0 in
    let whole = whole_of run.domain s in
    let hop = shift_hop run s.frame s.link s.cycle.0 orderly shift in
    timely run.domain s.link s.cycle.0 cost whole shift.x.offer.at.0 shift.hop_number accepted hop.0 hop.1 shift.is_cycle
    (about_of run.domain s.link s.cycle.0 cost whole accepted
    (starts_are_whole_within_held laws beside means run book accepted orderly offered background is s c))
