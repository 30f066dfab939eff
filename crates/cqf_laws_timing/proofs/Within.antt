-- Each frame arrives fully within the cost of the streams that are held in the cycle of its start.
use Rattle.std.proofs.Common.{◌≡◌, ℕ, ◌+◌, ◌*◌, ◌<◌, ◌≤◌, ◌∷◌, [], ◌++◌, List, inl, inr, sym, ap, ◌∙◌, subst, arith, Contains, length, sum_by, ◌==◌}
use Rattle.std.proofs.Common.{◌/◌, eq-eqb, refl, Some, le_trans, mul-le-mul_right}
use Rattle.std.proofs.lemmas.Bool.{cases_lt}
use Rattle.std.proofs.lemmas.List.Sums.{sum_by-cons}
use Rattle.cqf_units.specs.Timing.{ending_of, shortest_of, slot_of, span_of, time_of, wire_of}
use Rattle.cqf_units.proofs.Times.{slot_parts, slot_within, time_grows, time_in_span}
use Rattle.cqf_model.proofs.Spans.{sum_scaled}
use Rattle.cqf_units.proofs.Cycles.{cycle_below}
use Rattle.cqf_model.specs.declared.frames.Sent.{Sent}
use Rattle.cqf_model.specs.Book.{batch}
use Rattle.cqf_model.specs.Domain.{bridge_of, cycle_of, delay_of, octet_time_of}
use Rattle.cqf_model.specs.Network.{Network, QueuedFrame, queued_in}
use Rattle.cqf_model.specs.Run.{Run, end_of_run}
use Rattle.cqf_model.specs.Table.{link_cost, table_of}
use Rattle.cqf_model.specs.Policing.{Carried, whole_at}
use Rattle.cqf_model.specs.Promise.{wire_in_cycle}
use Rattle.cqf_lists.proofs.Members.{contains_cases, contains_filter, contains_from_filter, contains_here, contains_later, contains_none}
use Rattle.cqf_lists.proofs.Sums.{sum_filter, sum_member}
use Rattle.cqf_laws_shift.specs.Alone.{IsRunAlone}
use Rattle.cqf_laws_shift.specs.MainLaw.{GatesMeanTheShift}
use Rattle.cqf_laws_shift.specs.Run.{IsLegalRun, RunBesideIsRunAlone}
use Rattle.cqf_laws_shift.proofs.CycleLaws.{CycleLaws}
use Rattle.cqf_laws_shift.proofs.Came.{came, policed}
use Rattle.cqf_laws_shift.proofs.Fed.{facts, least}
use Rattle.cqf_laws_shift.proofs.Queues.{load_within_cost}
use Rattle.cqf_laws_shift.proofs.Runs.{fed, sent_timed}
use Rattle.cqf_laws_instants.specs.Instants.{in_turn_from}
use Rattle.cqf_laws_timing.specs.Latency.{FramesAreWholeWithinHeld, FramesAreWholeWithinQueued, IsWholeWithin}
use Rattle.cqf_laws_instants.proofs.Booked.{queued_of_stream, sent_one}
use Rattle.cqf_laws_instants.proofs.Dues.{alone_is_due, now_within}
use Rattle.cqf_laws_instants.proofs.DueStarts.{wire}
use Rattle.cqf_laws_instants.proofs.Shorts.{sent_least}

-- what a frame takes of the wire
abbrev pub sent_wire : Sent → ℕ
sent_wire sent = wire_of sent.octets

-- and its slot
abbrev pub sent_slot : ℕ → Sent → ℕ
sent_slot r sent = slot_of sent.octets r

-- the first of frames in turn is over before all are
first_over : (t w rest sum start slot : ℕ) → sum ≡ w + rest → start ≡ t → slot ≡ w → start + slot ≤ t + sum
first_over t w rest sum start slot parts at same = omega (arith, parts, at, same)

-- and so is a later one
later_over : (t w rest sum start slot : ℕ) → sum ≡ w + rest → start + slot ≤ t + w + rest → start + slot ≤ t + sum
later_over t w rest sum start slot parts over = omega (arith, parts, over)

-- each of some frames in turn starts no sooner than the first, and is over with its gap when all have taken their time
in_turn_within : (t r : ℕ) (xs : List QueuedFrame) → ((x : QueuedFrame) → Contains xs x → (number : ℕ) × (x.stream ≡ Some number)) → (sent : Sent) →
    Contains (in_turn_from t r xs) sent → (t ≤ sent.start.0) × (sent.start.0 + sent_slot r sent ≤ t + sum_by (sent_slot r) (in_turn_from t r xs))
in_turn_within t r [] of_streams sent c = absurd (contains_none sent c)
in_turn_within t r (x ∷ xs) of_streams sent c =
    let next = t + slot_of x.arrival.octets r in
    let s = of_streams x (contains_here x xs) in
    let own : Sent = record { start = record { 0 = t }; frame = x.arrival.frame; stream = s.0; octets = x.arrival.octets } in
    let rest = in_turn_from next r xs in
    let is : in_turn_from t r (x ∷ xs) ≡ own ∷ rest = ap (λ (ys : List Sent). ys ++ rest) (sent_one t x.arrival x.stream s.0 s.1) in
    let parts : sum_by (sent_slot r) (in_turn_from t r (x ∷ xs)) ≡ sent_slot r own + sum_by (sent_slot r) rest =
    ap (sum_by (sent_slot r)) is ∙ sum_by-cons (sent_slot r) own rest in
    elim (contains_cases own rest sent (subst (λ (ys : List Sent). Contains ys sent) is c)) [
      | inl e ↦
          let at : sent.start.0 ≡ t = ap (λ (y : Sent). y.start.0) (sym e) in (
            omega (arith, at),
            first_over t (sent_slot r own) (sum_by (sent_slot r) rest) (sum_by (sent_slot r) (in_turn_from t r (x ∷ xs))) sent.start.0 (sent_slot r sent) parts at
                (ap (sent_slot r) (sym e)),
          )
      | inr later ↦
          let more = in_turn_within next r xs (λ y k. of_streams y (contains_later x xs y k)) sent later in (
            omega (arith, more.0),
            later_over t (sent_slot r own) (sum_by (sent_slot r) rest) (sum_by (sent_slot r) (in_turn_from t r (x ∷ xs))) sent.start.0 (sent_slot r sent) parts more.1,
          )
    ]

-- the bounds in numbers
whole_by : (n r delay cycle cost start octets slots : ℕ) → 64 ≤ octets → cycle * n ≤ start → start + slot_of octets r ≤ cycle * n + slots →
    slots ≤ span_of cost r →
    (cycle * n + time_of 72 r + delay ≤ ending_of start octets r + delay) × (ending_of start octets r + delay + 12 * r / 25 ≤ cycle * n + span_of cost r + delay)
whole_by n r delay cycle cost start octets slots least from upto within =
    numbers (time_of 72 r) (time_of (octets + 8) r) (slot_of octets r) (12 * r / 25) (span_of cost r) (time_grows 72 (octets + 8) r (omega (arith, least)))
    (slot_parts octets r) upto within
  where
    numbers : (short own slot gap span : ℕ) → short ≤ own → own + gap ≤ slot → start + slot ≤ cycle * n + slots → slots ≤ span →
        (cycle * n + short + delay ≤ start + own + delay) × (start + own + delay + gap ≤ cycle * n + span + delay)
    numbers short own slot gap span longer parts over all = (omega (arith, from, longer), omega (arith, parts, over, all))

-- frames in turn of at least the shortest size take no longer than frames of that size with as many wire octets
slots_within : (r cost : ℕ) (sents : List Sent) → ((sent : Sent) → Contains sents sent → 64 ≤ sent.octets) → sum_by sent_wire sents ≤ cost →
    sum_by (sent_slot r) sents ≤ span_of cost r
slots_within r cost sents least within =
    time_in_span cost r (sum_by (sent_slot r) sents)
    (le_trans (sum_scaled (sent_slot r) sent_wire 2100 (shortest_of r) sents (λ sent c. slot_within sent.octets r (least sent c)))
    (mul-le-mul_right (shortest_of r) within))

-- a link that the domain doesn't have sends nothing
the_link_of : (laws : CycleLaws) (run : Run) (carried : Carried) (alone : IsRunAlone run carried) (link : ℕ) (sent : Sent) → Contains (carried link) sent →
    link < length run.domain.links
the_link_of laws run carried alone link sent c = elim (cases_lt link (length run.domain.links)) [
  | inl inside ↦ inside
  | inr past ↦ absurd (contains_none sent (subst (λ (xs : List Sent). Contains xs sent) (alone.legal.no_others link past) c))
]

module _ (laws : CycleLaws) (beside : RunBesideIsRunAlone) (shift : GatesMeanTheShift) (run : Run) (net : Network) (legal : IsLegalRun run net) (link : ℕ)
    (sent : Sent) (c : Contains (net.carried link) sent) where
  -- beside background frames the run is one of its streams alone
  abbrev alone : IsRunAlone run net.carried
  alone = beside run net legal

  -- a link that the domain doesn't have sends nothing
  the_link : link < length run.domain.links
  the_link = the_link_of laws run net.carried alone link sent c

  -- by the cycle before that of its start
  within_from : (before : ℕ) → cycle_of run.domain sent.start.0 ≡ before + 1 → before + 1 < length run.tables →
      IsWholeWithin run.domain link (before + 1) (link_cost (table_of run.tables (before + 1)) link (before + 1)) (whole_at run.domain link sent)
  within_from before is in_run =
      let d = run.domain in
      let n = run.domain.cycle_time in
      let r = octet_time_of run.domain link in
      let queue = queued_in run net.carried link before in
      let cost = link_cost (table_of run.tables (before + 1)) link (before + 1) in
      let due : batch d net.carried link (before + 1) ≡ in_turn_from ((before + 1) * n) r queue = alone_is_due laws run net.carried alone link before in_run in
      let member = contains_filter (λ (s : Sent). cycle_of d s.start.0 == before + 1) (net.carried link) sent c
      (eq-eqb (cycle_of d sent.start.0) (before + 1) is) in
      let active_cycle = in_turn_within ((before + 1) * n) r queue (queued_of_stream laws run net.carried alone link before (omega (arith, in_run))) sent
      (subst (λ (xs : List Sent). Contains xs sent) due member) in
      let takes : sum_by sent_wire (in_turn_from ((before + 1) * n) r queue) ≡ wire_in_cycle d net.carried link (before + 1) =
      ap (sum_by sent_wire) (sym due) ∙ sum_filter sent_wire (λ (s : Sent). cycle_of d s.start.0 == before + 1) (net.carried link) in
      let loads = (shift run net legal).loads link (before + 1) the_link in_run in
      let enough = sent_least laws run net.carried alone link sent c in
      let wires = sum_by sent_wire (in_turn_from ((before + 1) * n) r queue) in
      let fits : wires ≤ cost = omega (arith, takes, loads) in
      let each : (s : Sent) → Contains (in_turn_from ((before + 1) * n) r queue) s → 64 ≤ s.octets = λ s k. sent_least laws run net.carried alone link s
      (contains_from_filter (λ (s : Sent). cycle_of d s.start.0 == before + 1) (net.carried link) s (subst (λ (xs : List Sent). Contains xs s) (sym due) k)).0 in
      let span = slots_within r cost (in_turn_from ((before + 1) * n) r queue) each fits in
      let slots = sum_by (sent_slot r) (in_turn_from ((before + 1) * n) r queue) in
      let bounds = whole_by n r (delay_of d link) (before + 1) cost sent.start.0 sent.octets slots enough active_cycle.0 active_cycle.1 span in
      let counted = sum_member sent_wire (in_turn_from ((before + 1) * n) r queue) sent (subst (λ (xs : List Sent). Contains xs sent) due member) in
      record { earliest = bounds.0; latest = bounds.1; some_cost = omega (arith, enough, counted, fits) }

  -- each frame that a link sends arrives fully within the held cost
  pub whole_within : IsWholeWithin run.domain link (cycle_of run.domain sent.start.0) (link_cost (table_of run.tables (cycle_of run.domain sent.start.0)) link (cycle_of run.domain sent.start.0))
      (whole_at run.domain link sent)
  whole_within =
      let s = sent_timed laws run net.carried alone link the_link sent c in
      let before = cycle_of run.domain s.0.p.received.at in
      let is : cycle_of run.domain sent.start.0 ≡ before + 1 = s.1.cycle in
      let early = cycle_below run.domain.cycle_time _ (length run.tables) s.1.in_run in
      subst (λ (cycle : ℕ). IsWholeWithin run.domain link cycle (link_cost (table_of run.tables cycle) link cycle) (whole_at run.domain link sent)) (sym is)
      (within_from before is (omega (arith, early, s.1.whole, is)))

-- frames in turn take of the wire what was queued
in_turn_takes : (t r : ℕ) (xs : List QueuedFrame) → ((x : QueuedFrame) → Contains xs x → (number : ℕ) × (x.stream ≡ Some number)) →
    sum_by sent_wire (in_turn_from t r xs) ≡ sum_by wire xs
in_turn_takes t r [] of_streams = refl
in_turn_takes t r (x ∷ xs) of_streams =
    let next = t + slot_of x.arrival.octets r in
    let s = of_streams x (contains_here x xs) in
    let own : Sent = record { start = record { 0 = t }; frame = x.arrival.frame; stream = s.0; octets = x.arrival.octets } in
    let rest = in_turn_from next r xs in
    let is : in_turn_from t r (x ∷ xs) ≡ own ∷ rest = ap (λ (ys : List Sent). ys ++ rest) (sent_one t x.arrival x.stream s.0 s.1) in
    ap (sum_by sent_wire) is ∙ sum_by-cons sent_wire own rest
    ∙ ap (λ (z : ℕ). wire x + z) (in_turn_takes next r xs (λ y k. of_streams y (contains_later x xs y k))) ∙ sym (sum_by-cons wire x xs)

module _ (laws : CycleLaws) (beside : RunBesideIsRunAlone) (run : Run) (net : Network) (legal : IsLegalRun run net) (link before : ℕ) (sent : Sent)
    (c : Contains (net.carried link) sent) (is : cycle_of run.domain sent.start.0 ≡ before + 1) where
  -- each frame that a link sends arrives fully within the cost that was held in the cycle before
  pub whole_within_before : IsWholeWithin run.domain link (before + 1) (link_cost (table_of run.tables before) link (before + 1)) (whole_at run.domain link sent)
  whole_within_before =
      let alone = beside run net legal in
      let carried = net.carried in
      let d = run.domain in
      let n = run.domain.cycle_time in
      let r = octet_time_of run.domain link in
      let queue = queued_in run carried link before in
      let cost = link_cost (table_of run.tables before) link (before + 1) in
      let is_link = the_link_of laws run carried alone link sent c in
      let s = sent_timed laws run carried alone link is_link sent c in
      let early = cycle_below run.domain.cycle_time _ (length run.tables) s.1.in_run in
      let in_run : before + 1 < length run.tables = omega (arith, early, s.1.whole, is) in
      let sooner : before < length run.tables = omega (arith, in_run) in
      let due : batch d carried link (before + 1) ≡ in_turn_from ((before + 1) * n) r queue = alone_is_due laws run carried alone link before in_run in
      let member = contains_filter (λ (s : Sent). cycle_of d s.start.0 == before + 1) (carried link) sent c
      (eq-eqb (cycle_of d sent.start.0) (before + 1) is) in
      let streams = queued_of_stream laws run carried alone link before sooner in
      let there = subst (λ (xs : List Sent). Contains xs sent) due member in
      let active_cycle = in_turn_within ((before + 1) * n) r queue streams sent there in
      let wires = sum_by sent_wire (in_turn_from ((before + 1) * n) r queue) in
      let bridge = bridge_of d link in
      let short = least laws run carried alone.planned alone.meets (fed laws run carried alone) bridge in
      let fits : wires ≤ cost =
      omega (
        arith,
        in_turn_takes ((before + 1) * n) r queue streams,
        now_within laws run carried alone link is_link before sooner,
        load_within_cost d run.tables bridge (came run carried (end_of_run run) bridge) (policed run carried (end_of_run run) bridge)
            (facts laws run carried alone.planned bridge) link alone.planned.accepted.overhead_short alone.planned.orderly.trees
            alone.planned.orderly.overheads short before,
      ) in
      let enough = sent_least laws run carried alone link sent c in
      let each : (s : Sent) → Contains (in_turn_from ((before + 1) * n) r queue) s → 64 ≤ s.octets = λ s k. sent_least laws run carried alone link s
      (contains_from_filter (λ (s : Sent). cycle_of d s.start.0 == before + 1) (carried link) s (subst (λ (xs : List Sent). Contains xs s) (sym due) k)).0 in
      let span = slots_within r cost (in_turn_from ((before + 1) * n) r queue) each fits in
      let slots = sum_by (sent_slot r) (in_turn_from ((before + 1) * n) r queue) in
      let bounds = whole_by n r (delay_of d link) (before + 1) cost sent.start.0 sent.octets slots enough active_cycle.0 active_cycle.1 span in
      let counted = sum_member sent_wire (in_turn_from ((before + 1) * n) r queue) sent there in
      record { earliest = bounds.0; latest = bounds.1; some_cost = omega (arith, enough, counted, fits) }

-- the law
pub frames_are_whole_within_queued : CycleLaws → RunBesideIsRunAlone → FramesAreWholeWithinQueued
frames_are_whole_within_queued laws beside run net link before sent legal c is = whole_within_before laws beside run net legal link before sent c is

-- the law
pub frames_are_whole_within_held : CycleLaws → RunBesideIsRunAlone → GatesMeanTheShift → FramesAreWholeWithinHeld
frames_are_whole_within_held laws beside shift run net link sent legal c = whole_within laws beside shift run net legal link sent c
