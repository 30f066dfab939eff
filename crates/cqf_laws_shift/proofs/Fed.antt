-- Each link sends only what was queued to it, and no sooner. So no frame is shorter than Ethernet's shortest, and what arrives at
-- each port in a cycle is within the link's budget.
use Rattle.std.proofs.Common.{◌+◌}
use Rattle.std.proofs.Common.{◌*◌, ◌/◌, List, subst}
use Rattle.std.proofs.Common.{◌≡◌, ℕ, zero, suc, ◌<◌, ◌≤◌, inl, inr, ap, arith, All, AllPairs, Contains, length, le_trans, mul-le-mul_right, sym, ◌∙◌}
use Rattle.std.proofs.lemmas.Bool.{cases_lt}
use Rattle.std.proofs.lemmas.Nat.{le-div}
use Rattle.cqf_units.specs.Timing.{ending_of}
use Rattle.cqf_model.specs.GateList.{IsOpenThrough, port_list}
use Rattle.cqf_laws_cycle.specs.Compiled.{GateGivesClass}
use Rattle.cqf_laws_cycle.proofs.GateLists.{port_list_opens}
use Rattle.cqf_laws_cycle.proofs.PortCycles.{queued_waits}
use Rattle.cqf_laws_shift.specs.Heard.{AreHeard, IsHeardAs}
use Rattle.std.specs.Option.{option_map_or}
use Rattle.std.proofs.lemmas.List.Elements.{All-contains}
use Rattle.cqf_model.specs.declared.frames.Sent.{Sent}
use Rattle.cqf_model.specs.declared.topology.Row.{Row}
use Rattle.cqf_model.specs.Domain.{Domain, IsAccepted, bridge_of, budget, cycle_of, guard_of, octet_time_of}
use Rattle.cqf_model.specs.Run.{IsOffer, Run, end_of_run}
use Rattle.cqf_model.specs.Policing.{Carried, Received, Policed, Queued, came_by, whole_at}
use Rattle.cqf_model.specs.Network.{QueuedFrame, arrivals_of, queued_frame, queued_to}
use Rattle.cqf_model.specs.Due.{busy, load}
use Rattle.cqf_model.specs.declared.ports.Arrival.{Arrival}
use Rattle.cqf_laws_cycle.specs.Compiled.{given_class}
use Rattle.cqf_model.proofs.Legal.{ends_later}
use Rattle.cqf_model.proofs.Links.{guard_within, octet_positive}
use Rattle.cqf_model.proofs.Spans.{busy_within}
use Rattle.cqf_units.proofs.Times.{budget_in_time}
use Rattle.cqf_laws_shift.specs.Alone.{IsPlanned}
use Rattle.cqf_units.proofs.Cycles.{cycle_upto}
use Rattle.cqf_lists.proofs.Members.{all_from_members, contains_from_map, contains_map}
use Rattle.cqf_laws_shift.proofs.Came.{came, came_how, numbered_member, policed, queued, sorted}
use Rattle.cqf_laws_shift.proofs.CycleLaws.{CycleLaws}
use Rattle.cqf_laws_shift.proofs.Edges.{gate_is_reservation}
use Rattle.cqf_laws_shift.proofs.Policing.{Polices, polices, has_come}
use Rattle.cqf_laws_shift.proofs.Queues.{class_given, load_within_cost, policed_sorted, queue_in_order, queued_from}
use Rattle.cqf_laws_shift.proofs.Trees.{GoesBy}

-- the number of a queued frame's stream
abbrev pub number_of : QueuedFrame → ℕ
number_of q = option_map_or (λ (number : ℕ). number) q.stream 0

-- what a link sends if a queued frame starts at an instant
abbrev pub sent_from : QueuedFrame → ℕ → Sent
sent_from q t = record { start = record { 0 = t }; frame = q.arrival.frame; stream = number_of q; octets = q.arrival.octets }

-- what a link sends was queued to it
pub record IsSentOf (run : Run) (heard : Carried) (m : ℕ) (sent : Sent) : Type 0 where
  pub p : Policed
  pub inside : Contains (policed run heard (end_of_run run) (bridge_of run.domain m)) p
  pub row : Row
  pub verdict : p.verdict ≡ Queued row
  pub goes : GoesBy row (came_by p.received.ingress) m
  pub frame : sent.frame ≡ p.received.frame
  pub stream : sent.stream ≡ row.no
  pub octets : sent.octets ≡ p.received.octets

-- this holds for each link, and the frame was queued in an earlier cycle
abbrev pub IsFed : Run → Carried → Carried → Type 0
IsFed run carried heard = (m : ℕ) → m < length run.domain.links → (sent : Sent) → Contains (carried m) sent → (x : IsSentOf run heard m sent) ×
    (cycle_of run.domain x.p.received.at < cycle_of run.domain sent.start.0)

-- this holds if the link sends a frame of its queue
pub sent_of_queue : (run : Run) (heard : Carried) (m : ℕ) (q : QueuedFrame) (t : ℕ) (sent : Sent) → Contains (queued run heard (end_of_run run) m) q →
    sent_from q t ≡ sent → (x : IsSentOf run heard m sent) × (queued_frame run.domain x.p.received x.row ≡ q)
sent_of_queue run heard m q t sent c is =
    let from = queued_from run.domain m (policed run heard (end_of_run run) (bridge_of run.domain m)) q c in (
      record {
        p = from.p;
        inside = from.inside;
        row = from.row;
        verdict = from.verdict;
        goes = from.goes;
        frame = ap (λ (z : Sent). z.frame) (sym is) ∙ ap (λ (z : QueuedFrame). z.arrival.frame) (sym from.is);
        stream = ap (λ (z : Sent). z.stream) (sym is) ∙ ap number_of (sym from.is);
        octets = ap (λ (z : Sent). z.octets) (sym is) ∙ ap (λ (z : QueuedFrame). z.arrival.octets) (sym from.is);
      },
      from.is,
    )

-- and it was queued in an earlier cycle if the frame's cycle is earlier than that of its start
pub sent_of_queue_later : (run : Run) (heard : Carried) (m : ℕ) (q : QueuedFrame) (t : ℕ) (sent : Sent) → sent_from q t ≡ sent →
    cycle_of run.domain q.arrival.at.0 < cycle_of run.domain t → (x : IsSentOf run heard m sent) → queued_frame run.domain x.p.received x.row ≡ q →
    cycle_of run.domain x.p.received.at < cycle_of run.domain sent.start.0
sent_of_queue_later run heard m q t sent is later x is_q =
    omega (arith, later, ap (λ (z : QueuedFrame). z.arrival.at.0 / run.domain.cycle_time) is_q, ap (λ (z : Sent). z.start.0 / run.domain.cycle_time) is)

-- a port with the compiled gate list starts what is queued in a cycle in a later one: until the end of its own cycle its class is
-- closed
pub starts_later : GateGivesClass → (d : Domain) (l s : ℕ) (policed : List Policed) (q : QueuedFrame) → IsAccepted d → l < length d.links →
    Contains (queued_to d l policed) q → q.arrival.at.0 ≤ s →
    IsOpenThrough (port_list d.cycle_time (guard_of d l)) q.arrival.class s (ending_of s q.arrival.octets (octet_time_of d l)) →
    cycle_of d q.arrival.at.0 < cycle_of d s
starts_later gives d l s policed q accepted is_link c come open_on =
    let n = d.cycle_time in
    let some : 0 < n = omega (arith, accepted.cycle_least) in
    elim (cases_lt s ((q.arrival.at.0 / n + 1) * n)) [
      | inl early ↦
          let now : s < ending_of s q.arrival.octets (octet_time_of d l) =
          ends_later s q.arrival.octets (octet_time_of d l) (octet_positive d l is_link) in
          absurd (queued_waits gives port_list_opens d l s policed q (guard_within d l accepted) c come early (open_on s (omega arith) now))
      | inr late ↦ omega (arith, le-div (q.arrival.at.0 / n + 1) s n some late)
    ]

-- what is heard from a link is what it sent, as it is heard
pub record IsHeardFrom (d : Domain) (carried : Carried) (m : ℕ) (h : Sent) : Type 0 where
  pub sent : Sent
  pub inside : Contains (carried m) sent
  pub alike : IsHeardAs d m sent h

pub heard_from : (d : Domain) (carried heard : Carried) → AreHeard d carried heard → (m : ℕ) (h : Sent) → m < length d.links → Contains (heard m) h →
    IsHeardFrom d carried m h
heard_from d carried heard meets m h is_link c =
    let r = contains_from_map (meets.noted m) (carried m) h (subst (λ (xs : List Sent). Contains xs h) (meets.are m) c) in
    record { sent = r.0; inside = r.1; alike = subst (IsHeardAs d m r.0) r.2 (meets.each m r.0 is_link r.1) }

-- and what it sends is heard
pub sent_heard : (d : Domain) (carried heard : Carried) (meets : AreHeard d carried heard) (m : ℕ) (sent : Sent) → Contains (carried m) sent →
    Contains (heard m) (meets.noted m sent)
sent_heard d carried heard meets m sent c =
    subst (λ (xs : List Sent). Contains xs (meets.noted m sent)) (sym (meets.are m)) (contains_map (meets.noted m) (carried m) sent c)

module _ (laws : CycleLaws) (run : Run) (carried : Carried) (planned : IsPlanned run) where
  -- the run's domain
  abbrev d : Domain
  d = run.domain

  -- the end of the run
  abbrev end : ℕ
  end = end_of_run run

  -- a cycle takes some time
  pub some_time : 0 < run.domain.cycle_time
  some_time = omega (arith, planned.accepted.cycle_least)

  -- an offer of a cycle of the run is made before its end
  pub before_end : (t : ℕ) → cycle_of run.domain t < length run.tables → t < end_of_run run
  before_end t in_run = omega (arith, cycle_upto d.cycle_time t some_time, mul-le-mul_right d.cycle_time in_run)

  -- the facts about the verdicts on what arrives at a bridge
  pub facts : (bridge : ℕ) → Polices run.domain run.tables bridge (came run carried (end_of_run run) bridge) (policed run carried (end_of_run run) bridge)
  facts bridge = polices (gate_is_reservation laws.counts) run carried bridge end some_time planned.orderly

  -- what links send, as their ends hear it
  module _ {sends : Carried} (meets : AreHeard run.domain sends carried) (fed : IsFed run sends carried) where
    -- no frame is shorter than Ethernet's shortest, by induction on the cycle
    least_before : (t bridge : ℕ) (x : Received) → Contains (came run carried end bridge) x → cycle_of d x.at < t → 64 ≤ x.octets
    least_before zero bridge x c l = absurd (omega (arith, l))
    least_before (suc t) bridge x c l = elim (came_how run carried end bridge x c) [
      | inl r ↦
          let h = heard_from run.domain sends carried meets r.m r.sent r.is_link r.inside in
          let s = fed r.m r.is_link h.sent h.inside in
          let before = bridge_of d r.m in
          let whole : cycle_of d (whole_at d r.m r.sent) ≡ cycle_of d x.at = ap (λ (z : Received). cycle_of d z.at) r.is in
          let octets : r.sent.octets ≡ x.octets = ap (λ (z : Received). z.octets) r.is in
          let here = has_come d run.tables before (came run carried end before) (policed run carried end before) (facts before) s.0.p s.0.inside in
          omega (arith, least_before t before s.0.p.received here (omega (arith, l, whole, h.alike.no_sooner, s.1)), octets, h.alike.octets, s.0.octets)
      | inr o ↦
          let offer = All-contains (IsOffer d) run.offers o.offered.offer planned.offered (numbered_member run.offers o.offered o.inside).0 in
          omega (arith, offer.least, ap (λ (z : Received). z.octets) o.is)
    ]

    -- so no frame with a verdict is
    pub least : (bridge : ℕ) → All (λ (p : Policed). 64 ≤ p.received.octets) (policed run carried (end_of_run run) bridge)
    least bridge = all_from_members (λ (p : Policed). 64 ≤ p.received.octets) (policed run carried end bridge) (λ p c.
        least_before (suc (cycle_of d p.received.at)) bridge p.received
        (has_come d run.tables bridge (came run carried end bridge) (policed run carried end bridge) (facts bridge) p c) (omega arith))

    -- what arrives at a port in a cycle is within its link's budget
    pub within_budget : (m cycle : ℕ) → m < length run.domain.links →
        load run.domain.cycle_time cycle (arrivals_of (queued run carried (end_of_run run) m)) ≤ budget run.domain m
    within_budget m cycle is_link =
        let bridge = bridge_of d m in
        le_trans (load_within_cost d run.tables bridge (came run carried end bridge) (policed run carried end bridge) (facts bridge) m
        planned.accepted.overhead_short planned.orderly.trees planned.orderly.overheads (least bridge) cycle)
        (planned.orderly.loads cycle m (cycle + 1) is_link)

    -- no frame that is queued to a port is shorter either
    pub queued_least : (m : ℕ) (q : QueuedFrame) → Contains (queued run carried (end_of_run run) m) q → 64 ≤ q.arrival.octets
    queued_least m q c =
        let bridge = bridge_of d m in
        let from = queued_from d m (policed run carried end bridge) q c in
        let size = All-contains (λ (p : Policed). 64 ≤ p.received.octets) (policed run carried end bridge) from.p (least bridge) from.inside in
        omega (arith, size, ap (λ (x : QueuedFrame). x.arrival.octets) from.is)

    -- so what arrives at it in a cycle can be sent before the guard band of the next
    pub within_time : (m cycle : ℕ) → m < length run.domain.links →
        busy (octet_time_of run.domain m) run.domain.cycle_time cycle (arrivals_of (queued run carried (end_of_run run) m)) + guard_of run.domain m
        ≤ run.domain.cycle_time
    within_time m cycle is_link =
        let waiting = queued run carried end m in
        budget_in_time d.cycle_time (guard_of d m) (octet_time_of d m) (load d.cycle_time cycle (arrivals_of waiting))
        (busy (octet_time_of d m) d.cycle_time cycle (arrivals_of waiting)) (omega (arith, guard_within d m planned.accepted))
        (busy_within (octet_time_of d m) d.cycle_time cycle (arrivals_of waiting) (λ a c.
        let from = contains_from_map (λ (q : QueuedFrame). q.arrival) waiting a c in
        subst (λ (x : Arrival). 64 ≤ x.octets) from.2 (queued_least m from.0 from.1)))
        (within_budget m cycle is_link)

  -- what is queued is in order
  pub queue_sorted : (m : ℕ) → AllPairs (λ (a b : QueuedFrame). a.arrival.at.0 ≤ b.arrival.at.0) (queued run carried (end_of_run run) m)
  queue_sorted m =
      let bridge = bridge_of d m in
      queue_in_order d m (policed run carried end bridge)
      (policed_sorted d run.tables bridge (came run carried end bridge) (policed run carried end bridge) (facts bridge) m (sorted run carried end bridge))

  -- and has the classes of streams' frames
  pub queue_class : (m : ℕ) (q : QueuedFrame) → Contains (queued run carried (end_of_run run) m) q →
      q.arrival.class ≡ given_class (cycle_of run.domain q.arrival.at.0)
  queue_class m q c =
      let bridge = bridge_of d m in
      class_given d run.tables bridge (came run carried end bridge) (policed run carried end bridge) (facts bridge) m laws.gives some_time q c
