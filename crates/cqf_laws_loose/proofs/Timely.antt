-- When a frame has fully arrived at a link's end, by the clock there.
use Rattle.std.proofs.Common.{◌≡◌, ℕ, ◌+◌, ◌*◌, ◌/◌, ◌<◌, ◌≤◌, List, inl, inr, sym, ap, ◌∙◌, subst, arith, le-leb, eq-eqb, ◌==◌, if◌then◌else◌}
use Rattle.std.proofs.Common.{Contains, get_or, le_trans, length, take, mul-le-mul_right}
use Rattle.std.proofs.lemmas.Bool.{cases_lt, cond-true}
use Rattle.std.proofs.lemmas.List.{get_or-map, length-map}
use Rattle.std.proofs.lemmas.List.Elements.{Contains-get_or}
use Rattle.std.proofs.lemmas.List.Sums.{sum_by_more_le}
use Rattle.cqf_units.specs.Timing.{shortest_of, slot_of, span_of, time_of, wire_of}
use Rattle.cqf_units.proofs.Times.{slot_parts, time_in_span}
use Rattle.cqf_units.proofs.Cycles.{cycle_from, cycle_upto}
use Rattle.cqf_model.specs.declared.frames.Sent.{Sent}
use Rattle.cqf_model.specs.declared.ports.Arrival.{Arrival}
use Rattle.cqf_model.specs.Domain.{Domain, bridge_of, cycle_of, delay_of, gap_of, octet_time_of}
use Rattle.cqf_model.specs.Loose.{ComesWithin, Slack}
use Rattle.cqf_model.specs.Network.{Network, QueuedFrame, arrivals_of, no_frame}
use Rattle.cqf_model.specs.Port.{no_arrival}
use Rattle.cqf_model.specs.Run.{Run, end_of_run}
use Rattle.cqf_model.specs.Table.{link_cost, table_of}
use Rattle.cqf_model.specs.Policing.{Carried, whole_at}
use Rattle.cqf_model.specs.Due.{busy, is_streams, load, slot_in, wire_in}
use Rattle.cqf_model.proofs.Spans.{busy_within}
use Rattle.cqf_lists.proofs.Members.{contains_from_map, contains_none}
use Rattle.cqf_laws_shift.specs.Alone.{IsRunAs}
use Rattle.cqf_laws_shift.proofs.Came.{came, policed, queued}
use Rattle.cqf_laws_shift.proofs.CycleLaws.{CycleLaws}
use Rattle.cqf_laws_shift.proofs.Fed.{facts, least, queue_class, queued_least}
use Rattle.cqf_laws_shift.proofs.Queues.{gives_streams, load_within_cost}
use Rattle.cqf_laws_shift.proofs.Runs.{fed, index_timed, sent_for, start_due}
use Rattle.cqf_laws_shift.proofs.RunsBeside.{run_as}
use Rattle.cqf_laws_shift.proofs.Singles.{sent_once}
use Rattle.cqf_laws_loose.specs.LooseLaws.{IsLatencyAbout, IsWholeAbout, LooseFramesAreTimely, LooseLatencyIsWithin}
use Rattle.cqf_laws_loose.specs.LooseRuns.{IsLooseRun}
use Rattle.cqf_laws_loose.proofs.Exact.{sent_least}
use Rattle.cqf_laws_loose.proofs.Loose.{loose_is_heard}

-- a stream's frame that is queued at an index has its slot in its cycle, after those before it
own_part : (r n c : ℕ) (xs : List Arrival) (p : ℕ) → p < length xs → 6 ≤ (get_or xs p no_arrival).class → (get_or xs p no_arrival).at.0 / n ≡ c →
    busy r n c (take p xs) + slot_of (get_or xs p no_arrival).octets r ≤ busy r n c xs
own_part r n c xs p inside high in_cycle =
    let a = get_or xs p no_arrival in
    let own : slot_in r n c a ≡ slot_of a.octets r =
    cond-true (a.at.0 / n == c) (if is_streams a then slot_of a.octets r else 0) 0 (eq-eqb (a.at.0 / n) c in_cycle)
    ∙ cond-true (is_streams a) (slot_of a.octets r) 0 (le-leb 6 a.class high) in
    following (busy r n c (take p xs)) (slot_in r n c a) (slot_of a.octets r) (busy r n c xs) (sum_by_more_le (slot_in r n c) xs p no_arrival inside) own
  where
    following : (before part slot all : ℕ) → before + part ≤ all → part ≡ slot → before + slot ≤ all
    following before part slot all more own = omega (arith, more, own)

-- and its wire octets are among those of its cycle
own_wire : (n c : ℕ) (xs : List Arrival) (p : ℕ) → p < length xs → 6 ≤ (get_or xs p no_arrival).class → (get_or xs p no_arrival).at.0 / n ≡ c →
    wire_of (get_or xs p no_arrival).octets ≤ load n c xs
own_wire n c xs p inside high in_cycle =
    let a = get_or xs p no_arrival in
    let own : wire_in n c a ≡ wire_of a.octets =
    cond-true (a.at.0 / n == c) (if is_streams a then wire_of a.octets else 0) 0 (eq-eqb (a.at.0 / n) c in_cycle)
    ∙ cond-true (is_streams a) (wire_of a.octets) 0 (le-leb 6 a.class high) in
    following (load n c (take p xs)) (wire_in n c a) (wire_of a.octets) (load n c xs) (sum_by_more_le (wire_in n c) xs p no_arrival inside) own
  where
    following : (before part wire all : ℕ) → before + part ≤ all → part ≡ wire → wire ≤ all
    following before part wire all more own = omega (arith, more, own)

-- a start after what is before it, and its own slot, are within the span of the cost
over_by : (begins start before slot all span : ℕ) → start ≡ begins + before → before + slot ≤ all → all ≤ span → start + slot ≤ begins + span
over_by begins start before slot all span due part within = omega (arith, due, part, within)

module _ (laws : CycleLaws) (run : Run) (carried : Carried) {heard : Carried} (alone : IsRunAs run carried heard) (link : ℕ)
    (is_link : link < length run.domain.links) (sent : Sent) (c : Contains (carried link) sent) (before : ℕ)
    (is : cycle_of run.domain sent.start.0 ≡ before + 1) where
  -- by its own bridge's clock a frame starts in its cycle, and is over within the cost that was held when it was queued; this cost
  -- has room for a shortest frame
  pub starts_within : ((before + 1) * run.domain.cycle_time ≤ sent.start.0) ×
      (sent.start.0 + slot_of sent.octets (octet_time_of run.domain link) ≤
      (before + 1) * run.domain.cycle_time + span_of (link_cost (table_of run.tables before) link (before + 1)) (octet_time_of run.domain link))
      × (84 ≤ link_cost (table_of run.tables before) link (before + 1))
  starts_within =
      let d = run.domain in
      let n = d.cycle_time in
      let r = octet_time_of d link in
      let queue = queued run heard (end_of_run run) link in
      let xs = arrivals_of queue in
      let s = sent_for laws run carried alone link is_link sent c in
      let index = s.0.index in
      let q = get_or queue index no_frame in
      let arrival : get_or xs index no_arrival ≡ q.arrival = get_or-map (λ (q : QueuedFrame). q.arrival) queue index no_frame no_arrival s.0.in_queue in
      let timed = index_timed laws run carried alone link is_link index sent.start.0 s.1 in
      let in_cycle : (get_or xs index no_arrival).at.0 / n ≡ before = omega (arith, timed, is) in
      let due = start_due laws run carried alone link is_link index sent.start.0 s.1 in
      let due_at : sent.start.0 ≡ (before + 1) * n + busy r n before (take index xs) =
      due ∙ ap (λ z. (z + 1) * n + busy r n z (take index xs)) in_cycle in
      let given = queue_class laws run heard alone.planned link q (Contains-get_or queue index no_frame s.0.in_queue) in
      let high : 6 ≤ (get_or xs index no_arrival).class =
      subst (λ (a : Arrival). 6 ≤ a.class) (sym arrival) (subst (λ z. 6 ≤ z) (sym given) (gives_streams (cycle_of d q.arrival.at.0))) in
      let inside : index < length xs = omega (arith, s.0.in_queue, length-map queue (λ (q : QueuedFrame). q.arrival)) in
      let octets : (get_or xs index no_arrival).octets ≡ sent.octets =
      ap (λ (a : Arrival). a.octets) arrival ∙ ap (λ (z : Sent). z.octets) s.0.is in
      let part = own_part r n before xs index inside high in_cycle in
      let bridge = bridge_of d link in
      let fed_so = fed laws run carried alone in
      let short = least laws run heard alone.planned alone.meets fed_so bridge in
      let cost = link_cost (table_of run.tables before) link (before + 1) in
      let within = load_within_cost d run.tables bridge (came run heard (end_of_run run) bridge) (policed run heard (end_of_run run) bridge)
      (facts laws run heard alone.planned bridge) link alone.planned.accepted.overhead_short alone.planned.orderly.trees
      alone.planned.orderly.overheads short before in
      let slots = busy_within r n before xs (λ a c.
      let from = contains_from_map (λ (q : QueuedFrame). q.arrival) queue a c in
      subst (λ (x : Arrival). 64 ≤ x.octets) from.2 (queued_least laws run heard alone.planned alone.meets fed_so link from.0 from.1)) in
      let span = time_in_span cost r (busy r n before xs) (le_trans slots (mul-le-mul_right (shortest_of r) within)) in
      let over = over_by ((before + 1) * n) sent.start.0 (busy r n before (take index xs)) (slot_of (get_or xs index no_arrival).octets r) (busy r n before xs)
      (span_of cost r) due_at part span in (
        omega (arith, due_at),
        subst (λ (z : ℕ). sent.start.0 + slot_of z r ≤ (before + 1) * n + span_of cost r) octets over,
        some_cost (get_or xs index no_arrival).octets sent.octets (load n before xs) cost octets (sent_least laws run carried alone link sent is_link c)
            (own_wire n before xs index inside high in_cycle) within,
      )
    where
      some_cost : (octets whole takes cost : ℕ) → octets ≡ whole → 64 ≤ whole → wire_of octets ≤ takes → takes ≤ cost → 84 ≤ cost
      some_cost octets whole takes cost same long part upto = omega (arith, same, long, part, upto)

-- from the end of a frame to its full arrival
whole_about : (d : Domain) (slack : Slack) (link cycle cost : ℕ) (sent h : Sent) → 64 ≤ sent.octets → ComesWithin d slack link sent h →
    cycle * d.cycle_time ≤ sent.start.0 →
    sent.start.0 + slot_of sent.octets (octet_time_of d link) ≤ cycle * d.cycle_time + span_of cost (octet_time_of d link) → 84 ≤ cost →
    IsWholeAbout d slack link cycle cost (whole_at d link h)
whole_about d slack link cycle cost sent h long comes begins ends some = record {
  earliest = omega (arith, comes.shortest, begins);
  latest = latest_by (whole_at d link h) sent.start.0 (time_of (sent.octets + 8) (octet_time_of d link)) (delay_of d link) slack.sync (gap_of d link)
      (slot_of sent.octets (octet_time_of d link)) (cycle * d.cycle_time) (span_of cost (octet_time_of d link)) comes.most ends
      (slot_parts sent.octets (octet_time_of d link));
  some_cost = some;
}
  where
    latest_by : (whole start own delay sync gap slot begins span : ℕ) → whole ≤ start + own + delay + sync → start + slot ≤ begins + span → own + gap ≤ slot →
        whole + gap ≤ begins + span + delay + sync
    latest_by whole start own delay sync gap slot begins span most ends parts = omega (arith, most, ends, parts)

module _ (laws : CycleLaws) (run : Run) (slack : Slack) (net : Network) (heard : Carried) (is : IsLooseRun run slack net heard) where
  -- for the streams' frames it is a run of them alone
  abbrev alone : IsRunAs run net.carried heard
  alone = run_as laws run net heard (loose_is_heard run slack net heard is)

  -- a link that the domain doesn't have sends nothing
  the_link : (link : ℕ) (sent : Sent) → Contains (net.carried link) sent → link < length run.domain.links
  the_link link sent c = elim (cases_lt link (length run.domain.links)) [
    | inl inside ↦ inside
    | inr past ↦ absurd (contains_none sent (subst (λ z. Contains z sent) (is.loose.goes.no_others link past).0 c))
  ]

  -- what is heard with a frame's number is that frame, within the bounds
  pub comes_so : (link : ℕ) (sent h : Sent) → Contains (net.carried link) sent → Contains (heard link) h → h.frame ≡ sent.frame →
      ComesWithin run.domain slack link sent h
  comes_so link sent h c ch frames =
      let is_link = the_link link sent c in
      let r = contains_from_map (is.loose.noted link) (net.carried link) h (subst (λ (xs : List Sent). Contains xs h) (is.loose.are link) ch) in
      let within = is.loose.each link r.0 is_link r.1 in
      let one : r.0 ≡ sent = sent_once laws run net.carried alone link is_link r.0 sent r.1 c (sym within.frame ∙ ap (λ (z : Sent). z.frame) r.2 ∙ frames) in
      subst (λ (z : Sent). ComesWithin run.domain slack link z h) one (subst (λ (z : Sent). ComesWithin run.domain slack link r.0 z) r.2 within)

  -- so it arrives fully within the held cost
  pub timely : (link before : ℕ) (sent h : Sent) → Contains (net.carried link) sent → Contains (heard link) h → h.frame ≡ sent.frame →
      cycle_of run.domain sent.start.0 ≡ before + 1 →
      IsWholeAbout run.domain slack link (before + 1) (link_cost (table_of run.tables before) link (before + 1)) (whole_at run.domain link h)
  timely link before sent h c ch frames at =
      let is_link = the_link link sent c in
      let own = starts_within laws run net.carried alone link is_link sent c before at in
      whole_about run.domain slack link (before + 1) (link_cost (table_of run.tables before) link (before + 1)) sent h
      (sent_least laws run net.carried alone link sent is_link c) (comes_so link sent h c ch frames) own.0 own.1 own.2

-- the law
pub loose_frames_are_timely : CycleLaws → LooseFramesAreTimely
loose_frames_are_timely laws run slack net heard link before sent h is c ch frames at = timely laws run slack net heard is link before sent h c ch frames at

-- the hop number times the cycle time after the offer
pub latency_about : (d : Domain) (slack : Slack) (link hop_number cost at cycle whole : ℕ) → 0 < d.cycle_time → cycle ≡ cycle_of d at + hop_number →
    IsWholeAbout d slack link cycle cost whole → IsLatencyAbout d slack link hop_number cost at whole
latency_about d slack link hop_number cost at cycle whole some is about =
    let n = d.cycle_time in
    let scaled = ap (λ z. z * n) is in
    record {
      least = omega (arith, about.earliest, scaled, cycle_upto n at some);
      most = omega (arith, about.latest, scaled, cycle_from n at);
    }

-- the law
pub loose_latency_is_within : CycleLaws → LooseLatencyIsWithin
loose_latency_is_within laws run slack net heard link before sent h is c ch frames at shift =
    latency_about run.domain slack link shift.hop_number (link_cost (table_of run.tables before) link (before + 1)) shift.x.offer.at.0 (before + 1)
    (whole_at run.domain link h) (omega (arith, is.accepted.accepted.cycle_least)) (sym at ∙ shift.is_cycle)
    (timely laws run slack net heard is link before sent h c ch frames at)
