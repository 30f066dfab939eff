-- For the streams' frames, a legal run beside background frames is a legal run of them alone.
use Rattle.std.proofs.Common.{◌≡◌, ℕ, ◌+◌, ◌*◌, ◌/◌, ◌<◌, ◌≤◌, [], List, Bool, true, false, Option, Some, None, inl, inr, sym, ap, ◌∙◌, subst, arith, refl, AllPairs}
use Rattle.std.specs.Option.{option_map_or}
use Rattle.std.proofs.Common.{Contains, filter, sum_by, length, get_or, is_some, ◌==◌, if◌then◌else◌, le_trans, le_of_eq, leb-true, map-id}
use Rattle.std.proofs.lemmas.Bool.{cases_Bool, cond-true, false≢true}
use Rattle.std.proofs.lemmas.List.{get_or-map, length-map}
use Rattle.std.proofs.lemmas.List.Elements.{All-contains, Contains-get_or}
use Rattle.cqf_units.specs.Timing.{ending_of, slot_of}
use Rattle.cqf_units.proofs.Cycles.{cycles_ordered}
use Rattle.cqf_model.specs.GateList.{IsOpenThrough, port_list}
use Rattle.cqf_model.specs.declared.frames.Sent.{Sent}
use Rattle.cqf_model.specs.declared.ports.Arrival.{Arrival}
use Rattle.cqf_model.specs.Domain.{Domain, bridge_of, guard_of, octet_time_of}
use Rattle.cqf_model.specs.Port.{class_of, no_arrival}
use Rattle.cqf_model.specs.Run.{IsBackground, Run, end_of_run}
use Rattle.cqf_model.specs.Policing.{Carried, policed_before, whole_at}
use Rattle.cqf_model.specs.Network.{Network, QueuedFrame, Sends, arrivals_of, comes_before, compiled_lists, no_frame, queued_before, sent_by, sent_of}
use Rattle.cqf_model.specs.Due.{busy, cycle_of_index, is_streams, slot_in}
use Rattle.cqf_laws_cycle.specs.Beside.{IsReportedByClass, is_of_stream}
use Rattle.cqf_laws_cycle.specs.Compiled.{given_class}
use Rattle.cqf_laws_cycle.specs.OnePort.{ComeInCycles, IsStreams, IsWithinBudget, StreamsAt}
use Rattle.cqf_model.proofs.Links.{delay_within, gap_within, guard_within, octet_positive}
use Rattle.cqf_laws_shift.specs.Alone.{IsPlanned, IsRunAs, SendsAlone}
use Rattle.cqf_laws_shift.specs.Heard.{IsHeardRun}
use Rattle.cqf_laws_shift.specs.Run.{IsLegalRun, RunBesideIsRunAlone}
use Rattle.cqf_lists.proofs.Members.{all_from_members, contains_filter, contains_from_flat, contains_none, contains_one}
use Rattle.cqf_lists.proofs.Pairs.{pairs_map, pairs_of_kept}
use Rattle.cqf_lists.proofs.Sums.{sum_filter, sum_le_members, sum_map}
use Rattle.cqf_laws_shift.proofs.CycleLaws.{CycleLaws}
use Rattle.cqf_laws_shift.proofs.Fed.{IsFed, queue_class, queue_sorted, sent_from, sent_of_queue, sent_of_queue_later, some_time, starts_later, within_time}
use Rattle.cqf_laws_shift.proofs.Queues.{gives_streams}
use Rattle.cqf_laws_shift.proofs.QueuesByCycles.{comes_of, streams_that_come}

-- if a queued frame sends something, it is of a stream, and sends this
sent_of_frame : (t : ℕ) (q : QueuedFrame) (stream : Option ℕ) (sent : Sent) → q.stream ≡ stream → Contains (sent_by t q.arrival stream) sent →
    (is_of_stream q ≡ true) × (sent_from q t ≡ sent)
sent_of_frame t q None sent e c = absurd (contains_none sent c)
sent_of_frame t q (Some number) sent e c = (
  ap is_some e,
  ap (λ (o : Option ℕ). sent_numbered (option_map_or (λ (k : ℕ). k) o 0)) e ∙ contains_one (sent_numbered number) sent c,
)
  where
    -- the frame as it is sent for the stream of a number
    sent_numbered : ℕ → Sent
    sent_numbered number = record { start = record { 0 = t }; frame = q.arrival.frame; stream = number; octets = q.arrival.octets }

-- in an exact run, what is sent is heard
exactly : (run : Run) (net : Network) → IsLegalRun run net → IsHeardRun run net net.carried
exactly run net legal = record {
  accepted = legal.accepted;
  orderly = legal.orderly;
  offered = legal.offered;
  background = legal.background;
  legal = legal.legal;
  meets = record {
    noted = λ l sent. sent;
    are = λ l. sym (map-id (net.carried l));
    each = λ l sent is_link c. record {
      frame = refl;
      stream = refl;
      octets = refl;
      no_sooner = cycles_ordered run.domain.cycle_time sent.start.0 (whole_at run.domain l sent) (omega (arith, legal.accepted.cycle_least)) (omega arith);
      in_time = omega (arith, delay_within run.domain l legal.accepted is_link);
    };
  };
}

module _ (laws : CycleLaws) (run : Run) (net : Network) (heard : Carried) (legal : IsHeardRun run net heard) where
  -- the run's domain
  abbrev d : Domain
  d = run.domain

  -- what its links carry
  abbrev carried : Carried
  carried = net.carried

  -- what the run requires
  planned : IsPlanned run
  planned = record { accepted = legal.accepted; orderly = legal.orderly; offered = legal.offered }

  -- a cycle takes some time
  some : 0 < run.domain.cycle_time
  some = some_time laws run heard planned

  -- what arrives at a port
  abbrev comes : ℕ → List QueuedFrame
  comes m = comes_before run heard m (length run.tables)

  -- what is queued to it
  abbrev waiting : ℕ → List QueuedFrame
  waiting m = queued_before run heard m (end_of_run run)

  -- a port's transmissions are legal
  sends : (m : ℕ) → m < length d.links → Sends d (compiled_lists d m) (length run.tables * d.cycle_time) m (comes m) (carried m) (net.backed m)
  sends m inside = legal.legal.sends m inside

  -- the streams' frames among what arrives are those that are queued
  streams : (m : ℕ) → filter is_of_stream (comes m) ≡ waiting m
  streams m = streams_that_come run heard m (length run.tables) some

  -- so a stream's frame that arrives is queued
  stream_waits : (m : ℕ) (q : QueuedFrame) → Contains (comes m) q → is_of_stream q ≡ true → Contains (waiting m) q
  stream_waits m q c of_stream = subst (λ z. Contains z q) (streams m) (contains_filter is_of_stream (comes m) q c of_stream)

  -- so each link sends what was queued to it, in a later cycle
  fed : IsFed run net.carried heard
  fed m is_link sent c =
      let s = sends m is_link in
      let start = contains_from_flat (sent_of (comes m)) s.starts sent (subst (λ z. Contains z sent) s.are_sent c) in
      let index = start.0.0 in
      let first = s.legal.first index start.0.1 start.1 in
      let in_list : index < length (comes m) = omega (arith, first.waits.inside, length-map (comes m) (λ (q : QueuedFrame). q.arrival)) in
      let q = get_or (comes m) index no_frame in
      let is = sent_of_frame start.0.1 q q.stream sent refl start.2 in
      let arrival = get_or-map (λ (q : QueuedFrame). q.arrival) (comes m) index no_frame no_arrival in_list in
      let come = subst (λ (z : Arrival). z.at.0 ≤ start.0.1) arrival first.waits.come in
      let open_on = subst (λ (a : Arrival). IsOpenThrough (port_list d.cycle_time (guard_of d m)) a.class start.0.1 (ending_of start.0.1 a.octets (octet_time_of d m)))
      arrival (s.legal.eligible index start.0.1 start.1) in
      let there = stream_waits m q (Contains-get_or (comes m) index no_frame in_list) is.0 in
      let later = starts_later laws.gives d m start.0.1 (policed_before run heard (bridge_of d m) (end_of_run run)) q legal.accepted is_link there come open_on in
      let x = sent_of_queue run heard m q start.0.1 sent there is.1 in
      (x.0, sent_of_queue_later run heard m q start.0.1 sent is.1 later x.0 x.1)

  -- the class of a queued frame is a stream's
  class_waits : (m : ℕ) (q : QueuedFrame) → Contains (waiting m) q → 6 ≤ q.arrival.class
  class_waits m q c = subst (λ z. 6 ≤ z) (sym (queue_class laws run heard planned m q c)) (gives_streams (q.arrival.at.0 / d.cycle_time))

  -- a frame is either of a stream, with a stream's class, or of none, with another class
  reported : (m : ℕ) (q : QueuedFrame) → Contains (comes m) q → IsReportedByClass q
  reported m q c = elim (comes_of run heard m (length run.tables) q c) [
    | inl back ↦
        let low = (All-contains (IsBackground d) run.background back.0 legal.background back.1).class_most in
        (λ e. omega (arith, low, back.3), λ e. back.2)
    | inr of_stream ↦
        let high = class_waits m q (stream_waits m q c of_stream) in
        (λ e. absurd (false≢true (ap is_some (sym e) ∙ of_stream)), λ e. absurd (omega (arith, high, e)))
  ]

  -- so a frame of a stream's class is of a stream
  high_is_stream : (m : ℕ) (q : QueuedFrame) → Contains (comes m) q → 6 ≤ q.arrival.class → is_of_stream q ≡ true
  high_is_stream m q c high = elim (comes_of run heard m (length run.tables) q c) [
    | inl back ↦ absurd (omega (arith, high, (All-contains (IsBackground d) run.background back.0 legal.background back.1).class_most, back.3))
    | inr of_stream ↦ of_stream
  ]

  -- and a frame of no stream adds nothing to what a cycle's streams' frames take
  adds_none : (m cycle : ℕ) (q : QueuedFrame) → Contains (comes m) q → is_of_stream q ≡ false →
      slot_in (octet_time_of d m) d.cycle_time cycle q.arrival ≡ 0
  adds_none m cycle q c none = nothing (is_streams q.arrival) (q.arrival.at.0 / d.cycle_time == cycle) (slot_of q.arrival.octets (octet_time_of d m)) low
    where
      low : is_streams q.arrival ≡ false
      low = elim (cases_Bool (is_streams q.arrival)) [
        | inl t ↦ absurd (false≢true (sym none ∙ high_is_stream m q c (leb-true 6 q.arrival.class t)))
        | inr f ↦ f
      ]

      nothing : (a b : Bool) (slot : ℕ) → a ≡ false → (if b then (if a then slot else 0) else 0) ≡ 0
      nothing true true slot e = absurd (cc)
      nothing true false slot e = refl
      nothing false true slot e = refl
      nothing false false slot e = refl

  -- what arrives at a port in a cycle can be sent before the guard band of the next
  loads : (m cycle : ℕ) → m < length d.links → busy (octet_time_of d m) d.cycle_time cycle (arrivals_of (comes m)) + guard_of d m ≤ d.cycle_time
  loads m cycle is_link = omega (arith, same, within_time laws run heard planned legal.meets fed m cycle is_link)
    where
      f : QueuedFrame → ℕ
      f q = slot_in (octet_time_of d m) d.cycle_time cycle q.arrival

      each : (q : QueuedFrame) → Contains (comes m) q → f q ≤ (if is_of_stream q then f q else 0)
      each q c = elim (cases_Bool (is_of_stream q)) [
        | inl t ↦ le_of_eq (sym (cond-true (is_of_stream q) (f q) 0 t))
        | inr u ↦ omega (arith, adds_none m cycle q c u)
      ]

      same : busy (octet_time_of d m) d.cycle_time cycle (arrivals_of (comes m)) ≤ busy (octet_time_of d m) d.cycle_time cycle (arrivals_of (waiting m))
      same =
          le_trans (le_of_eq (sum_map (slot_in (octet_time_of d m) d.cycle_time cycle) (λ (q : QueuedFrame). q.arrival) (comes m)))
          (le_trans (sum_le_members f (λ q. if is_of_stream q then f q else 0) (comes m) each)
          (le_of_eq (sym (sum_filter f is_of_stream (comes m)) ∙ ap (sum_by f) (streams m)
          ∙ sym (sum_map (slot_in (octet_time_of d m) d.cycle_time cycle) (λ (q : QueuedFrame). q.arrival) (waiting m)))))

  -- and its streams' frames arrive in cycles
  come : (m : ℕ) → ComeInCycles d.cycle_time (arrivals_of (comes m))
  come m = record { in_order = in_order; classes = classes }
    where
      kept : AllPairs (λ (a b : QueuedFrame). is_of_stream a ≡ true → is_of_stream b ≡ true → a.arrival.at.0 ≤ b.arrival.at.0) (comes m)
      kept = pairs_of_kept (λ (a b : QueuedFrame). a.arrival.at.0 ≤ b.arrival.at.0) is_of_stream (comes m)
          (subst (λ z. AllPairs (λ (a b : QueuedFrame). a.arrival.at.0 ≤ b.arrival.at.0) z) (sym (streams m)) (queue_sorted laws run heard planned m))

      ordered : AllPairs (λ (a b : QueuedFrame). IsStreams a.arrival → IsStreams b.arrival → a.arrival.at.0 ≤ b.arrival.at.0) (comes m)
      ordered i j e less inside first second =
          kept i j e less inside
          (high_is_stream m (get_or (comes m) i e) (Contains-get_or (comes m) i e (omega (arith, less, inside))) first)
          (high_is_stream m (get_or (comes m) j e) (Contains-get_or (comes m) j e inside) second)

      in_order : AllPairs (λ (a b : Arrival). IsStreams a → IsStreams b → a.at.0 ≤ b.at.0) (arrivals_of (comes m))
      in_order = pairs_map (λ (a b : Arrival). IsStreams a → IsStreams b → a.at.0 ≤ b.at.0) (λ (q : QueuedFrame). q.arrival) (comes m) ordered

      class_of_frame : (q : QueuedFrame) → Contains (comes m) q → 6 ≤ q.arrival.class → q.arrival.class ≡ given_class (q.arrival.at.0 / d.cycle_time)
      class_of_frame q c high = queue_class laws run heard planned m q (stream_waits m q c (high_is_stream m q c high))

      classes : (index : ℕ) → index < length (arrivals_of (comes m)) → StreamsAt (arrivals_of (comes m)) index →
          class_of (arrivals_of (comes m)) index ≡ given_class (cycle_of_index d.cycle_time (arrivals_of (comes m)) index)
      classes index inside high =
          let in_list : index < length (comes m) = omega (arith, inside, length-map (comes m) (λ (q : QueuedFrame). q.arrival)) in
          let is = get_or-map (λ (q : QueuedFrame). q.arrival) (comes m) index no_frame no_arrival in_list in
          subst (λ (z : Arrival). z.class ≡ given_class (z.at.0 / d.cycle_time)) (sym is)
          (class_of_frame (get_or (comes m) index no_frame) (Contains-get_or (comes m) index no_frame in_list) (subst (λ (z : Arrival). 6 ≤ z.class) is high))

  -- so this meets what the law of one port requires
  within : (m : ℕ) → m < length d.links → IsWithinBudget d.cycle_time (guard_of d m) (octet_time_of d m) (arrivals_of (comes m)) (length run.tables)
  within m is_link = record {
    some_guard = omega (arith, delay_within d m legal.accepted is_link);
    guard_short = guard_within d m legal.accepted;
    some_octet = octet_positive d m is_link;
    gap_short = gap_within d m legal.accepted is_link;
    come = come m;
    loads = λ c less. loads m c is_link;
  }

  -- and each link sends the streams' frames that it may send if they are alone
  sends_alone : (m : ℕ) → m < length d.links → SendsAlone d (end_of_run run) m (waiting m) (carried m)
  sends_alone m is_link =
      let s = laws.alone d (length run.tables) m (comes m) (carried m) (net.backed m) (all_from_members IsReportedByClass (comes m) (reported m)) (within m is_link)
      (sends m is_link) in
      let t = subst (λ z. Sends d (compiled_lists d m) (length run.tables * d.cycle_time) m z (carried m) []) (streams m) s in
      record { starts = t.starts; legal = t.legal; are_sent = t.are_sent }

  -- so the run is one of streams' frames alone
  pub run_as : IsRunAs run net.carried heard
  run_as = record {
    planned = planned;
    legal = record { sends = sends_alone; no_others = λ m past. (legal.legal.no_others m past).0 };
    meets = legal.meets;
  }

-- the law
pub run_beside_is_run_alone : CycleLaws → RunBesideIsRunAlone
run_beside_is_run_alone laws run net legal = run_as laws run net net.carried (exactly run net legal)
