-- A legal run of streams' frames alone: what each link sends, and when.
use Rattle.std.proofs.Common.{◌≡◌, ℕ, ◌+◌, ◌-◌, ◌*◌, ◌/◌, ◌<◌, ◌≤◌, ◌∷◌, [], List, sym, ap, ◌∙◌, subst, arith, refl, Contains, map, length, get_or}
use Rattle.std.proofs.Common.{mul-le-mul_right}
use Rattle.std.proofs.lemmas.List.{get_or-map, get_or_default, length-map}
use Rattle.std.proofs.lemmas.List.Elements.{Contains-get_or}
use Rattle.cqf_model.specs.declared.frames.Sent.{Sent}
use Rattle.cqf_model.specs.declared.ports.Arrival.{Arrival}
use Rattle.cqf_model.specs.declared.topology.Row.{Row}
use Rattle.cqf_model.specs.Domain.{Domain, bridge_of, cycle_of, guard_of, octet_time_of}
use Rattle.cqf_model.specs.Port.{Transmission, class_of, no_arrival, instant_of, octets_of}
use Rattle.cqf_model.specs.Run.{Run, end_of_run}
use Rattle.cqf_model.specs.Policing.{Carried, Policed, Queued, came_by, whole_at}
use Rattle.cqf_model.specs.Network.{QueuedFrame, queued_frame, arrivals_of, no_frame, sent_by, sent_of}
use Rattle.cqf_model.specs.GateList.{IsOpenThrough, port_list}
use Rattle.cqf_model.specs.Due.{due, cycle_of_index}
use Rattle.cqf_units.specs.Timing.{ending_of}
use Rattle.cqf_laws_cycle.specs.Compiled.{given_class}
use Rattle.cqf_laws_cycle.specs.OnePort.{AreDue, IsWithinBudget, StreamsAt}
use Rattle.cqf_model.proofs.Links.{delay_within, gap_within, guard_within, octet_positive}
use Rattle.cqf_laws_shift.specs.Alone.{IsRunAs, SendsAlone}
use Rattle.cqf_units.specs.Timing.{slot_of}
use Rattle.cqf_units.proofs.Times.{slot_parts}
use Rattle.cqf_units.proofs.Cycles.{cycle_is, cycle_from, cycle_below}
use Rattle.cqf_lists.proofs.Ones.{flat_map_ones}
use Rattle.cqf_lists.proofs.Members.{contains_map, contains_from_map}
use Rattle.cqf_lists.proofs.Pairs.{pairs_map}
use Rattle.cqf_laws_shift.proofs.Came.{policed, queued}
use Rattle.cqf_laws_shift.proofs.CycleLaws.{CycleLaws}
use Rattle.cqf_laws_shift.proofs.Fed.{IsFed, IsSentOf, number_of, queue_class, queue_sorted, sent_from, sent_of_queue, sent_of_queue_later, starts_later, within_time}
use Rattle.cqf_laws_shift.proofs.Queues.{gives_streams, queued_from, queued_into}
use Rattle.cqf_laws_shift.proofs.Trees.{GoesBy}

-- what a transmission of a stream's frame sends
abbrev pub sent_at : List QueuedFrame → Transmission → Sent
sent_at queued start = sent_from (get_or queued start.0 no_frame) start.1

module _ (laws : CycleLaws) (run : Run) (carried : Carried) {heard : Carried} (alone : IsRunAs run carried heard) where
  -- the run's domain
  abbrev d : Domain
  d = run.domain

  -- the end of the run
  abbrev end : ℕ
  end = end_of_run run

  -- the verdicts on what arrives at a bridge
  abbrev given : ℕ → List Policed
  given bridge = policed run heard (end_of_run run) bridge

  -- what is queued to a link
  abbrev waiting : ℕ → List QueuedFrame
  waiting m = queued run heard (end_of_run run) m

  -- a link's transmissions are legal
  pub sends : (m : ℕ) → m < length run.domain.links → SendsAlone run.domain (end_of_run run) m (queued run heard (end_of_run run) m) (carried m)
  sends m inside = alone.legal.sends m inside

  -- a transmission of what was queued sends one frame
  pub sends_one : (m index t : ℕ) → index < length (waiting m) → sent_of (waiting m) (index, t) ≡ sent_at (waiting m) (index, t) ∷ []
  sends_one m index t inside =
      let q = get_or (waiting m) index no_frame in
      let from = queued_from d m (given (bridge_of d m)) q (Contains-get_or (waiting m) index no_frame inside) in
      subst (λ (z : QueuedFrame). sent_by t z.arrival z.stream ≡ sent_from z t ∷ []) from.is refl

  -- a start is of an index in the queue
  pub start_in_queue : (m : ℕ) (is_link : m < length run.domain.links) (index s : ℕ) → Contains (sends m is_link).starts (index, s) →
      index < length (queued run heard (end_of_run run) m)
  start_in_queue m is_link index s c =
      omega (arith, ((sends m is_link).legal.first index s c).waits.inside, length-map (waiting m) (λ (q : QueuedFrame). q.arrival))

  -- so what a link sends is what its transmissions send
  pub sents_are : (m : ℕ) (is_link : m < length run.domain.links) → carried m ≡ map (sent_at (queued run heard (end_of_run run) m)) (sends m is_link).starts
  sents_are m is_link =
      let s = sends m is_link in
      s.are_sent ∙ flat_map_ones (sent_of (waiting m)) (sent_at (waiting m)) s.starts
      (λ start c. sends_one m start.0 start.1 (start_in_queue m is_link start.0 start.1 c))

  -- what a link sends was queued to it in an earlier cycle, at this index
  pub record IsSentFor (m : ℕ) (sent : Sent) : Type 0 where
    pub from : IsSentOf run heard m sent
    pub later : cycle_of run.domain from.p.received.at < cycle_of run.domain sent.start.0
    pub index : ℕ
    pub at_index : queued_frame run.domain from.p.received from.row ≡ get_or (queued run heard (end_of_run run) m) index no_frame
    pub in_queue : index < length (queued run heard (end_of_run run) m)
    pub is : sent_at (queued run heard (end_of_run run) m) (index, sent.start.0) ≡ sent

  -- this holds for each frame that a link sends
  pub sent_for : (m : ℕ) (is_link : m < length run.domain.links) (sent : Sent) → Contains (carried m) sent → (x : IsSentFor m sent) ×
      Contains (sends m is_link).starts (x.index, sent.start.0)
  sent_for m is_link sent c =
      let s = sends m is_link in
      let r = contains_from_map (sent_at (waiting m)) s.starts sent (subst (λ z. Contains z sent) (sents_are m is_link) c) in
      let index = r.0.0 in
      let first = s.legal.first index r.0.1 r.1 in
      let in_queue : index < length (waiting m) = start_in_queue m is_link index r.0.1 r.1 in
      let q = get_or (waiting m) index no_frame in
      let instant : instant_of (arrivals_of (waiting m)) index ≡ q.arrival.at.0 =
      ap (λ (a : Arrival). a.at.0) (get_or-map (λ (q : QueuedFrame). q.arrival) (waiting m) index no_frame no_arrival in_queue) in
      let there = Contains-get_or (waiting m) index no_frame in_queue in
      let x = sent_of_queue run heard m q r.0.1 sent there r.2 in
      let arrival : get_or (arrivals_of (waiting m)) index no_arrival ≡ q.arrival =
      get_or-map (λ (q : QueuedFrame). q.arrival) (waiting m) index no_frame no_arrival in_queue in
      let open_on = subst (λ (a : Arrival). IsOpenThrough (port_list d.cycle_time (guard_of d m)) a.class r.0.1 (ending_of r.0.1 a.octets (octet_time_of d m))) arrival
      (s.legal.eligible index r.0.1 r.1) in
      let later = starts_later laws.gives d m r.0.1 (given (bridge_of d m)) q alone.planned.accepted is_link there (omega (arith, first.waits.come, instant)) open_on in
      let start : r.0.1 ≡ sent.start.0 = ap (λ (z : Sent). z.start.0) r.2 in (
        record {
          from = x.0;
          later = sent_of_queue_later run heard m q r.0.1 sent r.2 later x.0 x.1;
          index = index;
          at_index = x.1;
          in_queue = in_queue;
          is = ap (λ (z : ℕ). sent_at (waiting m) (index, z)) (sym start) ∙ r.2;
        },
        subst (λ z. Contains s.starts (index, z)) start r.1,
      )

  -- so a legal run is fed
  pub fed : IsFed run carried heard
  fed m is_link sent c = let x = (sent_for m is_link sent c).0 in (x.from, x.later)

  -- the arrival at an index of the queue
  seen : (m index : ℕ) → index < length (waiting m) → (q : QueuedFrame) × Contains (waiting m) q ×
      (get_or (arrivals_of (waiting m)) index no_arrival ≡ q.arrival)
  seen m index inside = (
    get_or (waiting m) index no_frame,
    Contains-get_or (waiting m) index no_frame inside,
    get_or-map (λ (q : QueuedFrame). q.arrival)
        (waiting m) index no_frame no_arrival inside,
  )

  -- it has the class of its cycle
  class_at : (m index : ℕ) → index < length (waiting m) →
      class_of (arrivals_of (waiting m)) index ≡ given_class (cycle_of_index d.cycle_time (arrivals_of (waiting m)) index)
  class_at m index inside =
      let q = seen m index inside in
      subst (λ (z : Arrival). z.class ≡ given_class (z.at.0 / d.cycle_time)) (sym q.2) (queue_class laws run heard alone.planned m q.0 q.1)

  -- so it is a stream's frame
  streams_at : (m index : ℕ) → index < length (waiting m) → StreamsAt (arrivals_of (waiting m)) index
  streams_at m index inside = subst (λ z. 6 ≤ z) (sym (class_at m index inside)) (gives_streams (cycle_of_index d.cycle_time (arrivals_of (waiting m)) index))

  -- what the law of one port requires
  within : (m : ℕ) → m < length d.links → IsWithinBudget d.cycle_time (guard_of d m) (octet_time_of d m) (arrivals_of (waiting m)) (length run.tables)
  within m is_link = record {
    some_guard = omega (arith, delay_within d m alone.planned.accepted is_link);
    guard_short = guard_within d m alone.planned.accepted;
    some_octet = octet_positive d m is_link;
    gap_short = gap_within d m alone.planned.accepted is_link;
    come = record {
      in_order = λ i j e l inside first second. pairs_map (λ (a b : Arrival). a.at.0 ≤ b.at.0) (λ (q : QueuedFrame). q.arrival) (waiting m)
          (queue_sorted laws run heard alone.planned m) i j e l inside;
      classes = λ index inside streams. class_at m index (omega (arith, inside, length-map (waiting m) (λ (q : QueuedFrame). q.arrival)));
    };
    loads = λ c l. within_time laws run heard alone.planned alone.meets fed m c is_link;
  }

  -- and each port is one cycle late
  pub ports_due : (m : ℕ) (is_link : m < length run.domain.links) →
      AreDue run.domain.cycle_time (guard_of run.domain m) (octet_time_of run.domain m) (arrivals_of (queued run heard (end_of_run run) m)) (length run.tables)
      (length run.tables) (sends m is_link).starts
  ports_due m is_link =
      laws.late d.cycle_time (guard_of d m) (octet_time_of d m) (arrivals_of (waiting m)) (length run.tables) (length run.tables) (sends m is_link).starts
      (within m is_link) (sends m is_link).legal

  -- what starts does so in the cycle after its arrival's, and arrives fully in the next node in that cycle
  pub record IsTimed (m at : ℕ) (sent : Sent) : Type 0 where
    pub cycle : cycle_of run.domain sent.start.0 ≡ cycle_of run.domain at + 1
    pub whole : cycle_of run.domain (whole_at run.domain m (alone.meets.noted m sent)) ≡ cycle_of run.domain sent.start.0
    pub in_run : whole_at run.domain m (alone.meets.noted m sent) < end_of_run run

  -- this holds for each start
  timed : (m : ℕ) (is_link : m < length d.links) (sent : Sent) (index at : ℕ) → Contains (carried m) sent →
      Contains (sends m is_link).starts (index, sent.start.0) → index < length (waiting m) → instant_of (arrivals_of (waiting m)) index ≡ at → octets_of (arrivals_of (waiting m)) index ≡ sent.octets → IsTimed m at sent
  timed m is_link sent index at member c in_queue is_at is_octets =
      let s = sent.start.0 in
      let n = d.cycle_time in
      let before = (sends m is_link).legal.before_end index s c in
      let inside : index < length (arrivals_of (waiting m)) = omega (arith, in_queue, length-map (waiting m) (λ (q : QueuedFrame). q.arrival)) in
      let in_cycle : s / n < length run.tables = cycle_below n s (length run.tables) before in
      let streams = streams_at m index in_queue in
      let due = (ports_due m is_link).only index s c streams (omega (arith, in_cycle)) in
      let next = (ports_due m is_link).next index inside streams due.0 in
      let over = (ports_due m is_link).over index inside streams due.0 in
      let cycle : s / n ≡ at / n + 1 = ap (λ z. z / n) due.1 ∙ next ∙ ap (λ z. z / n + 1) is_at in
      let over_at : s + slot_of sent.octets (octet_time_of d m) ≤ (at / n + 1) * n + (n - guard_of d m) =
      at_octets n (guard_of d m) (octet_time_of d m) s (instant_of (arrivals_of (waiting m)) index) at
      (octets_of (arrivals_of (waiting m)) index) sent.octets is_at is_octets
      (subst (λ z. z + slot_of (octets_of (arrivals_of (waiting m)) index) (octet_time_of d m) ≤ (instant_of
      (arrivals_of (waiting m)) index / n + 1) * n + (n - guard_of d m)) (sym due.1) over) in
      let at_end = alone.meets.noted m sent in
      let alike = alone.meets.each m sent is_link member in
      let there = cycle_from n (whole_at d m at_end) in
      let no_sooner : (s / n) * n ≤ (whole_at d m at_end / n) * n = mul-le-mul_right n alike.no_sooner in
      let in_time : whole_at d m at_end < (s / n) * n + n =
      omega (
        arith,
        over_at,
        slot_parts sent.octets (octet_time_of d m),
        alike.in_time,
        guard_within d m alone.planned.accepted,
        ap (λ z. z * n) cycle,
      ) in
      record {
        cycle = cycle;
        whole = cycle_is n (s / n) (whole_at d m at_end) (omega (arith, no_sooner, there)) in_time;
        in_run = omega (arith, in_time, mul-le-mul_right n in_cycle);
      }
    where
      at_octets : (n g r s a b o p : ℕ) → a ≡ b → o ≡ p → s + slot_of o r ≤ (a / n + 1) * n + (n - g) → s + slot_of p r ≤ (b / n + 1) * n + (n - g)
      at_octets n g r s a b o p ea eo h =
          subst (λ z. s + slot_of z r ≤ (b / n + 1) * n + (n - g)) eo (subst (λ z. s + slot_of o r ≤ (z / n + 1) * n + (n - g)) ea h)

  -- the same for each frame that a link sends
  pub sent_timed : (m : ℕ) (is_link : m < length run.domain.links) (sent : Sent) → Contains (carried m) sent → (x : IsSentOf run heard m sent) ×
      IsTimed m x.p.received.at sent
  sent_timed m is_link sent c =
      let r = sent_for m is_link sent c in
      let x = r.0 in
      let arrival = get_or-map (λ (q : QueuedFrame). q.arrival) (waiting m) x.index no_frame no_arrival x.in_queue in (
        x.from,
        timed m is_link sent x.index x.from.p.received.at c r.1 x.in_queue
            (ap (λ (a : Arrival). a.at.0) arrival ∙ ap (λ (z : QueuedFrame). z.arrival.at.0) (sym x.at_index))
            (ap (λ (a : Arrival). a.octets) arrival ∙ ap (λ (z : QueuedFrame). z.arrival.octets) (sym x.at_index) ∙ sym x.from.octets),
      )

  -- a start sends the frame at its index
  start_sent : (m : ℕ) (is_link : m < length run.domain.links) (index s : ℕ) → Contains (sends m is_link).starts (index, s) →
      Contains (carried m) (sent_at (queued run heard (end_of_run run) m) (index, s))
  start_sent m is_link index s c =
      subst (λ z. Contains z (sent_at (waiting m) (index, s))) (sym (sents_are m is_link)) (contains_map (sent_at (waiting m)) (sends m is_link).starts (index, s) c)

  -- what is heard from a link was queued to its bridge in the cycle before the one in which it arrives fully
  pub heard_timed : (m : ℕ) (is_link : m < length run.domain.links) (h : Sent) → Contains (heard m) h → (x : IsSentOf run heard m h) ×
      (cycle_of run.domain (whole_at run.domain m h) ≡ cycle_of run.domain x.p.received.at + 1)
  heard_timed m is_link h c =
      let r = contains_from_map (alone.meets.noted m) (carried m) h (subst (λ (xs : List Sent). Contains xs h) (alone.meets.are m) c) in
      let s = sent_timed m is_link r.0 r.1 in
      let alike = alone.meets.each m r.0 is_link r.1 in
      let is = r.2 in (
        record {
          p = s.0.p;
          inside = s.0.inside;
          row = s.0.row;
          verdict = s.0.verdict;
          goes = s.0.goes;
          frame = ap (λ (z : Sent). z.frame) (sym is) ∙ alike.frame ∙ s.0.frame;
          stream = ap (λ (z : Sent). z.stream) (sym is) ∙ alike.stream ∙ s.0.stream;
          octets = ap (λ (z : Sent). z.octets) (sym is) ∙ alike.octets ∙ s.0.octets;
        },
        ap (λ (z : Sent). cycle_of run.domain (whole_at run.domain m z)) (sym is) ∙ s.1.whole ∙ s.1.cycle,
      )

  -- a start is in the cycle after the queued frame's
  pub start_timed : (m : ℕ) (is_link : m < length run.domain.links) (index s : ℕ) → Contains (sends m is_link).starts (index, s) →
      cycle_of run.domain s ≡ cycle_of run.domain (get_or (queued run heard (end_of_run run) m) index no_frame).arrival.at.0 + 1
  start_timed m is_link index s c =
      let inside = start_in_queue m is_link index s c in
      let arrival = get_or-map (λ (q : QueuedFrame). q.arrival) (waiting m) index no_frame no_arrival inside in
      (timed m is_link (sent_at (waiting m) (index, s)) index (get_or (waiting m) index no_frame).arrival.at.0 (start_sent m is_link index s c) c inside
      (ap (λ (a : Arrival). a.at.0) arrival)
      (ap (λ (a : Arrival). a.octets) arrival)).cycle

  -- the same for the cycle of its arrival
  pub index_timed : (m : ℕ) (is_link : m < length run.domain.links) (index s : ℕ) → Contains (sends m is_link).starts (index, s) →
      cycle_of run.domain s ≡ cycle_of_index run.domain.cycle_time (arrivals_of (queued run heard (end_of_run run) m)) index + 1
  index_timed m is_link index s c =
      let inside = start_in_queue m is_link index s c in
      let arrival = get_or-map (λ (q : QueuedFrame). q.arrival) (waiting m) index no_frame no_arrival inside in
      start_timed m is_link index s c ∙ ap (λ (a : Arrival). a.at.0 / d.cycle_time + 1) (sym arrival)

  -- and when it is due
  pub start_due : (m : ℕ) (is_link : m < length run.domain.links) (index s : ℕ) → Contains (sends m is_link).starts (index, s) →
      s ≡ due run.domain.cycle_time (octet_time_of run.domain m) (arrivals_of (queued run heard (end_of_run run) m)) index
  start_due m is_link index s c =
      let early = cycle_below d.cycle_time s (length run.tables) ((sends m is_link).legal.before_end index s c) in
      ((ports_due m is_link).only index s c (streams_at m index (start_in_queue m is_link index s c)) (omega (arith, early))).1

  -- and what is queued starts, as far as the run goes
  pub queued_starts : (m : ℕ) (is_link : m < length run.domain.links) (p : Policed) (row : Row) →
      Contains (policed run heard (end_of_run run) (bridge_of run.domain m)) p → p.verdict ≡ Queued row → GoesBy row (came_by p.received.ingress) m →
      cycle_of run.domain p.received.at + 1 < length run.tables →
      (sent : Sent) × Contains (carried m) sent × (sent.frame ≡ p.received.frame) × (sent.stream ≡ row.no) × (sent.octets ≡ p.received.octets) ×
      IsTimed m p.received.at sent
  queued_starts m is_link p row c verdict goes early =
      let s = sends m is_link in
      let q = queued_frame d p.received row in
      let member = queued_into d m (given (bridge_of d m)) p row c verdict goes in
      let index = member.0 in
      let in_queue = member.1 in
      let is : get_or (waiting m) index no_frame ≡ q = get_or_default (waiting m) index no_frame q member.1 ∙ member.2 in
      let arrival : get_or (arrivals_of (waiting m)) index no_arrival ≡ q.arrival =
      get_or-map (λ (q : QueuedFrame). q.arrival) (waiting m) index no_frame no_arrival member.1 ∙ ap (λ (z : QueuedFrame). z.arrival) is in
      let at : instant_of (arrivals_of (waiting m)) index ≡ p.received.at = ap (λ (a : Arrival). a.at.0) arrival in
      let cycle : instant_of (arrivals_of (waiting m)) index / d.cycle_time ≡ p.received.at / d.cycle_time = ap (λ z. z / d.cycle_time) at in
      let inside : index < length (arrivals_of (waiting m)) = omega (arith, member.1, length-map (waiting m) (λ (q : QueuedFrame). q.arrival)) in
      let start = (ports_due m is_link).each index inside (streams_at m index member.1) (omega (arith, cycle, early)) (omega (arith, cycle, early)) in
      let t = due d.cycle_time (octet_time_of d m) (arrivals_of (waiting m)) index in
      let sent = sent_at (waiting m) (index, t) in
      let member = start_sent m is_link index t start in (
        sent,
        member,
        ap (λ (z : QueuedFrame). z.arrival.frame) is,
        ap number_of is,
        ap (λ (z : QueuedFrame). z.arrival.octets) is,
        timed m is_link sent index p.received.at member start in_queue at
            (ap (λ (a : Arrival). a.octets) arrival ∙ ap (λ (z : QueuedFrame). z.arrival.octets) (sym is)),
      )
