-- What a link sends in a cycle is what was queued to it in the cycle before, in turn.
use Rattle.std.proofs.Common.{◌≡◌, ℕ, suc, ◌+◌, ◌-◌, ◌*◌, ◌<◌, ◌≤◌, ◌∷◌, [], ◌++◌, List, inl, inr, sym, ap, ap₂, ◌∙◌, subst, arith, refl}
use Rattle.std.proofs.Common.{Contains, filter, sum_by, take, length, get_or, length-append, append_assoc, eq-eqb, eqb-true, ne_eqb, ◌==◌}
use Rattle.std.proofs.Common.{if◌then◌else◌}
use Rattle.std.specs.List.{flat_map}
use Rattle.std.proofs.lemmas.Bool.{cases_lt, cond-true, cond-false, le-leb}
use Rattle.std.proofs.lemmas.List.{get_or-append-add, get_or_append_left, get_or-map, length-map, take-append-le, take-map}
use Rattle.std.proofs.lemmas.List.Elements.{Contains-get_or}
use Rattle.std.proofs.lemmas.List.Kept.{AllPairs-filter}
use Rattle.std.proofs.lemmas.List.Sums.{sum_by-append}
use Rattle.std.proofs.Math.Seq.{take-append-add}
use Rattle.cqf_units.specs.Timing.{cycle_at, wire_of}
use Rattle.cqf_model.specs.declared.frames.Sent.{Sent}
use Rattle.cqf_model.specs.declared.ports.Arrival.{Arrival}
use Rattle.cqf_model.specs.Book.{batch}
use Rattle.cqf_model.specs.Domain.{Domain, bridge_of, cycle_of, octet_time_of}
use Rattle.cqf_model.specs.Network.{QueuedFrame, arrivals_of, no_frame, queued_before, queued_in, sent_of}
use Rattle.cqf_model.specs.Port.{Transmission, no_arrival}
use Rattle.cqf_model.specs.Run.{Run, end_of_run}
use Rattle.cqf_model.specs.Policing.{Carried}
use Rattle.cqf_model.specs.Due.{busy, cycle_of_index, due, is_streams, load, slot_in, wire_in}
use Rattle.cqf_model.proofs.Links.{octet_positive}
use Rattle.cqf_model.proofs.Sending.{sent_then}
use Rattle.cqf_lists.specs.Lists.{each_below}
use Rattle.cqf_lists.proofs.EachBelow.{contains_below, contains_from_below, filter_none}
use Rattle.cqf_lists.proofs.Fronts.{Front, each_front}
use Rattle.cqf_lists.proofs.Members.{contains_filter, contains_from_filter, contains_from_take, contains_here, contains_none}
use Rattle.cqf_lists.proofs.Pairs.{same_ordered}
use Rattle.cqf_lists.proofs.Sums.{sum_le_members, sum_map, sum_none}
use Rattle.cqf_laws_cycle.specs.OnePort.{StreamsAt}
use Rattle.cqf_laws_shift.specs.Alone.{IsRunAlone}
use Rattle.cqf_laws_shift.specs.Run.{RunBesideIsRunAlone}
use Rattle.cqf_laws_shift.proofs.Came.{policed, queued}
use Rattle.cqf_laws_shift.proofs.CycleLaws.{CycleLaws}
use Rattle.cqf_laws_shift.proofs.Fed.{queue_class, some_time}
use Rattle.cqf_laws_shift.proofs.Queues.{gives_streams, queued_from}
use Rattle.cqf_laws_shift.proofs.QueuesByCycles.{queue_by_cycles}
use Rattle.cqf_laws_shift.proofs.Runs.{index_timed, ports_due, sends, sent_timed, start_due, start_in_queue}
use Rattle.cqf_laws_shift.proofs.Trees.{goes_inside}
use Rattle.cqf_laws_shift.proofs.Paths.{queued_member}
use Rattle.cqf_laws_instants.specs.Instants.{BatchIsDue, FirstBatchIsEmpty, in_turn_from}
use Rattle.cqf_laws_instants.proofs.DueStarts.{due_start_is, due_starts, due_starts_ascend, due_starts_send, is_due_start, slot, wire}

-- a list without members is empty
nil_of_none : {X : Type 0} (xs : List X) → ((x : X) → Contains xs x → ⊥) → xs ≡ []
nil_of_none [] none = refl
nil_of_none (x ∷ xs) none = absurd (none x (contains_here x xs))

-- sums of equal summands are equal
sum_same : {X : Type 0} (f g : X → ℕ) (xs : List X) → ((x : X) → Contains xs x → f x ≡ g x) → sum_by f xs ≡ sum_by g xs
sum_same f g xs same = omega (
  arith,
  sum_le_members f g xs (λ x c. omega (arith, same x c)),
  sum_le_members g f xs (λ x c. omega (arith, same x c)),
)

-- what is queued in a cycle arrived in it
pub came_in : (run : Run) (carried : Carried) (l cycle : ℕ) (q : QueuedFrame) → Contains (queued_in run carried l cycle) q →
    cycle_of run.domain q.arrival.at.0 ≡ cycle
came_in run carried l cycle q c =
    eqb-true (cycle_of run.domain q.arrival.at.0) cycle
    (contains_from_filter (λ (x : QueuedFrame). cycle_of run.domain x.arrival.at.0 == cycle)
    (queued_before run carried l ((cycle + 1) * run.domain.cycle_time)) q c).1

module _ (laws : CycleLaws) (run : Run) (carried : Carried) (alone : IsRunAlone run carried) where
  -- each frame that is queued in a cycle of the run is in the link's queue
  pub in_queue : (l cycle : ℕ) (q : QueuedFrame) → cycle < length run.tables → Contains (queued_in run carried l cycle) q →
      Contains (queued run carried (end_of_run run) l) q
  in_queue l cycle q in_run c =
      subst (λ (xs : List QueuedFrame). Contains xs q)
      (queue_by_cycles run carried l (length run.tables) (some_time laws run carried alone.planned))
      (contains_below (queued_in run carried l) (length run.tables) cycle q in_run c)

  -- to a link that the domain doesn't have nothing is queued
  pub none_queued : (l cycle : ℕ) → cycle < length run.tables → length run.domain.links ≤ l → queued_in run carried l cycle ≡ []
  none_queued l cycle in_run past = nil_of_none (queued_in run carried l cycle) (λ q c.
      let bridge = bridge_of run.domain l in
      let from = queued_from run.domain l (policed run carried (end_of_run run) bridge) q (in_queue l cycle q in_run c) in
      let member = queued_member laws run carried alone bridge from.p from.row from.inside from.verdict in
      let tree = alone.planned.orderly.trees (cycle_of run.domain from.p.received.at) from.row member in
      omega (arith, past, goes_inside run.domain from.row tree _ l from.goes))

  module _ (l : ℕ) (is_link : l < length run.domain.links) (cycle : ℕ) (in_run : cycle < length run.tables) where
    -- the run's domain
    abbrev d : Domain
    d = run.domain

    -- the cycle time
    abbrev n : ℕ
    n = run.domain.cycle_time

    -- the time of an octet
    abbrev r : ℕ
    r = octet_time_of run.domain l

    -- all that is queued to the link
    abbrev queue : List QueuedFrame
    queue = queued run carried (end_of_run run) l

    -- what is queued before the cycle
    abbrev before : List QueuedFrame
    before = each_below (queued_in run carried l) cycle

    -- what is queued in it
    abbrev now : List QueuedFrame
    now = queued_in run carried l cycle

    -- what is queued up to the cycle's end is a prefix of the queue
    front : Front (each_below (queued_in run carried l) (length run.tables)) (each_below (queued_in run carried l) (suc cycle))
        (λ x. (k : ℕ) × (suc cycle ≤ k) × (k < length run.tables) × Contains (queued_in run carried l k) x)
    front = each_front (queued_in run carried l) (suc cycle) (length run.tables) (omega (arith, in_run))

    -- what is queued after it
    abbrev after : List QueuedFrame
    after = front.rest

    -- so the queue is these three
    parts : queue ≡ before ++ (now ++ after)
    parts =
        sym (queue_by_cycles run carried l (length run.tables) (some_time laws run carried alone.planned))
        ∙ front.is
        ∙ append_assoc before now after

    -- a frame of the queue after those queued before the cycle
    following : (k : ℕ) → get_or queue (length before + k) no_frame ≡ get_or (now ++ after) k no_frame
    following k = ap (λ (xs : List QueuedFrame). get_or xs (length before + k) no_frame) parts ∙ get_or-append-add before (now ++ after) k no_frame

    -- the queue is as long as the three parts
    long : length queue ≡ length before + (length now + length after)
    long = ap (λ (xs : List QueuedFrame). length xs) parts ∙ length-append before (now ++ after) ∙ ap (λ k. length before + k) (length-append now after)

    -- a frame that is queued in the cycle
    at_now : (k : ℕ) → k < length now → get_or queue (length before + k) no_frame ≡ get_or now k no_frame
    at_now k less = following k ∙ get_or_append_left now after no_frame k less

    -- a frame of the cycle is at such an index
    index_in : (p : ℕ) → p < length queue → cycle_of d (get_or queue p no_frame).arrival.at.0 ≡ cycle →
        (k : ℕ) × (k < length now) × (p ≡ length before + k)
    index_in p inside is = elim (cases_lt p (length before)) [
      | inl early ↦
          let same : get_or queue p no_frame ≡ get_or before p no_frame =
          ap (λ (xs : List QueuedFrame). get_or xs p no_frame) parts ∙ get_or_append_left before (now ++ after) no_frame p early in
          let from = contains_from_below (queued_in run carried l) cycle (get_or before p no_frame) (Contains-get_or before p no_frame early) in
          let at = came_in run carried l from.0 (get_or before p no_frame) from.2 in
          absurd (omega (arith, from.1, at, is, ap (λ (q : QueuedFrame). cycle_of d q.arrival.at.0) same))
      | inr late ↦ elim (cases_lt (p - length before) (length now)) [
        | inl less ↦ (p - length before, less, omega (arith, late))
        | inr more ↦
            let k = p - length before in
            let j = k - length now in
            let index : p ≡ length before + (length now + j) = omega (arith, late, more) in
            let same : get_or queue p no_frame ≡ get_or after j no_frame =
            ap (λ (z : ℕ). get_or queue z no_frame) index ∙ following (length now + j) ∙ get_or-append-add now after j no_frame in
            let short : j < length after = omega (arith, index, inside, long) in
            let from = front.late (get_or after j no_frame) (Contains-get_or after j no_frame short) in
            let at = came_in run carried l from.0 (get_or after j no_frame) from.3 in
            absurd (omega (arith, from.1, at, is, ap (λ (q : QueuedFrame). cycle_of d q.arrival.at.0) same))
      ]
    ]

    -- what the port sees at an index
    seen : (p : ℕ) → p < length queue → get_or (arrivals_of queue) p no_arrival ≡ (get_or queue p no_frame).arrival
    seen p inside = get_or-map (λ (q : QueuedFrame). q.arrival) queue p no_frame no_arrival inside

    -- each is a stream's frame
    high : (q : QueuedFrame) → Contains queue q → 6 ≤ q.arrival.class
    high q c = subst (λ z. 6 ≤ z) (sym (queue_class laws run carried alone.planned l q c)) (gives_streams (cycle_of d q.arrival.at.0))

    -- what a frame of the cycle adds to its load
    adds : (q : QueuedFrame) → Contains now q → wire_in n cycle q.arrival ≡ wire q
    adds q c =
        let w = wire_of q.arrival.octets in
        cond-true (cycle_at n q.arrival.at.0 == cycle) (if is_streams q.arrival then w else 0) 0
        (eq-eqb (cycle_at n q.arrival.at.0) cycle (came_in run carried l cycle q c))
        ∙ cond-true (is_streams q.arrival) w 0 (le-leb 6 q.arrival.class (high q (in_queue l cycle q in_run c)))

    -- the same for their slots
    adds_slot : (q : QueuedFrame) → Contains now q → slot_in r n cycle q.arrival ≡ slot r q
    adds_slot q c =
        let w = slot r q in
        cond-true (cycle_at n q.arrival.at.0 == cycle) (if is_streams q.arrival then w else 0) 0
        (eq-eqb (cycle_at n q.arrival.at.0) cycle (came_in run carried l cycle q c))
        ∙ cond-true (is_streams q.arrival) w 0 (le-leb 6 q.arrival.class (high q (in_queue l cycle q in_run c)))

    adds_no_slot : (q : QueuedFrame) → Contains before q → slot_in r n cycle q.arrival ≡ 0
    adds_no_slot q c =
        let from = contains_from_below (queued_in run carried l) cycle q c in
        let at = came_in run carried l from.0 q from.2 in
        cond-false (cycle_at n q.arrival.at.0 == cycle) (if is_streams q.arrival then slot r q else 0) 0
        (ne_eqb (cycle_at n q.arrival.at.0) cycle (λ e. omega (arith, e, at, from.1)))

    -- the queue up to a frame of the cycle
    up_to : (k : ℕ) → k < length now → take (length before + k) queue ≡ before ++ take k now
    up_to k less =
        ap (take (length before + k)) parts
        ∙ take-append-add before (now ++ after) k
        ∙ ap (λ (xs : List QueuedFrame). before ++ xs) (take-append-le k now after (omega (arith, less)))

    -- and how long the cycle's frames take up to there
    busy_at : (k : ℕ) → k < length now → busy r n cycle (take (length before + k) (arrivals_of queue)) ≡ sum_by (slot r) (take k now)
    busy_at k less =
        let f = λ (q : QueuedFrame). slot_in r n cycle q.arrival in
        let first : sum_by f before ≡ 0 = sum_none f before adds_no_slot in
        let rest : sum_by f (take k now) ≡ sum_by (slot r) (take k now) =
        sum_same f (slot r) (take k now) (λ q c. adds_slot q (contains_from_take now k q c)) in
        ap (busy r n cycle) (take-map (λ (q : QueuedFrame). q.arrival) (length before + k) queue)
        ∙ sum_map (slot_in r n cycle) (λ (q : QueuedFrame). q.arrival) (take (length before + k) queue)
        ∙ ap (sum_by f) (up_to k less)
        ∙ omega (arith, sum_by-append f before (take k now), first, rest)

    -- what is queued in the cycle takes no more than its whole load
    pub now_within : sum_by wire (queued_in run carried l cycle)
        ≤ load run.domain.cycle_time cycle (arrivals_of (queued run carried (end_of_run run) l))
    now_within =
        let f = λ (q : QueuedFrame). wire_in n cycle q.arrival in
        let whole : load n cycle (arrivals_of queue) ≡ sum_by f before + sum_by f (now ++ after) =
        sum_map (wire_in n cycle) (λ (q : QueuedFrame). q.arrival) queue ∙ ap (sum_by f) parts ∙ sum_by-append f before (now ++ after) in
        omega (arith, whole, sum_by-append f now after, sum_same f wire now adds)

    -- an index of the cycle is within the queue
    inside_at : (k : ℕ) → k < length now → length before + k < length queue
    inside_at k less = omega (arith, less, long)

    -- it is of the cycle
    cycle_there : (k : ℕ) → k < length now → cycle_of_index n (arrivals_of queue) (length before + k) ≡ cycle
    cycle_there k less =
        ap (λ (a : Arrival). cycle_at n a.at.0) (seen (length before + k) (inside_at k less))
        ∙ ap (λ (q : QueuedFrame). cycle_at n q.arrival.at.0) (at_now k less)
        ∙ came_in run carried l cycle (get_or now k no_frame) (Contains-get_or now k no_frame less)

    -- and due in its turn
    due_at : (k : ℕ) → k < length now → due n r (arrivals_of queue) (length before + k) ≡ (cycle + 1) * n + sum_by (slot r) (take k now)
    due_at k less =
        ap (λ (c : ℕ). (c + 1) * n + busy r n c (take (length before + k) (arrivals_of queue))) (cycle_there k less)
        ∙ ap (λ (x : ℕ). (cycle + 1) * n + x) (busy_at k less)

    -- the port's transmissions
    abbrev starts : List Transmission
    starts = (sends laws run carried alone l is_link).starts

    -- those of the next cycle
    abbrev mine : List Transmission
    mine = filter (λ (x : Transmission). cycle_of d x.1 == cycle + 1) starts

    -- those in turn
    abbrev expected : List Transmission
    expected = due_starts (length before) ((cycle + 1) * n) r now

    -- a frame of the cycle that starts in its turn is one of them
    in_turn : (z : Transmission) (k : ℕ) → k < length now → z.0 ≡ length before + k → z.1 ≡ (cycle + 1) * n + sum_by (slot r) (take k now) →
        Contains expected z
    in_turn z k less index instant =
        subst (λ (x : Transmission). Contains expected x) (sym (ap₂ (λ (a b : ℕ). (a, b)) index instant))
        (is_due_start (length before) ((cycle + 1) * n) r now k less)

    -- each transmission of the next cycle is in turn
    is_expected : (z : Transmission) → Contains mine z → Contains expected z
    is_expected z c =
        let m = contains_from_filter (λ (x : Transmission). cycle_of d x.1 == cycle + 1) starts z c in
        let inside = start_in_queue laws run carried alone l is_link z.0 z.1 m.0 in
        let here : cycle_of d z.1 ≡ cycle + 1 = eqb-true (cycle_of d z.1) (cycle + 1) m.1 in
        let timed = index_timed laws run carried alone l is_link z.0 z.1 m.0 in
        let at : cycle_of d (get_or queue z.0 no_frame).arrival.at.0 ≡ cycle =
        omega (arith, here, timed, ap (λ (a : Arrival). cycle_at n a.at.0) (seen z.0 inside)) in
        let k = index_in z.0 inside at in
        let instant : z.1 ≡ (cycle + 1) * n + sum_by (slot r) (take k.0 now) =
        start_due laws run carried alone l is_link z.0 z.1 m.0 ∙ ap (due n r (arrivals_of queue)) k.2 ∙ due_at k.0 k.1 in
        in_turn z k.0 k.1 k.2 instant

    -- and each transmission in turn is of the next cycle
    from_expected : cycle + 1 < length run.tables → (z : Transmission) → Contains expected z → Contains mine z
    from_expected goes_on z c =
        let t = due_start_is (length before) ((cycle + 1) * n) r now z.0 z.1 c in
        let p = length before + t.k in
        let inside : p < length (arrivals_of queue) =
        omega (arith, inside_at t.k t.inside, length-map queue (λ (q : QueuedFrame). q.arrival)) in
        let streams : StreamsAt (arrivals_of queue) p =
        subst (λ (a : Arrival). 6 ≤ a.class) (sym (seen p (inside_at t.k t.inside)))
        (high (get_or queue p no_frame) (Contains-get_or queue p no_frame (inside_at t.k t.inside))) in
        let of_cycle = cycle_there t.k t.inside in
        let dues = ports_due laws run carried alone l is_link in
        let early : cycle_of_index n (arrivals_of queue) p + 1 < length run.tables = omega (arith, of_cycle, goes_on) in
        let started = dues.each p inside streams (omega (arith, early)) early in
        let next = dues.next p inside streams (omega (arith, early)) in
        let is : (p, due n r (arrivals_of queue) p) ≡ z = ap₂ (λ (a b : ℕ). (a, b)) (sym t.is_index) (due_at t.k t.inside ∙ sym t.is_instant) in
        subst (λ (x : Transmission). Contains mine x) is
        (contains_filter (λ (x : Transmission). cycle_of d x.1 == cycle + 1) starts (p, due n r (arrivals_of queue) p) started
        (eq-eqb (cycle_of d (due n r (arrivals_of queue) p)) (cycle + 1) (omega (arith, next, of_cycle))))

    -- so they are the same
    same_starts : cycle + 1 < length run.tables → mine ≡ expected
    same_starts goes_on =
        let earlier = λ (a b : Transmission). a.1 < b.1 in
        same_ordered earlier (λ a b x y. omega (arith, x, y)) mine expected
        (AllPairs-filter earlier (λ (x : Transmission). cycle_of d x.1 == cycle + 1) starts (sends laws run carried alone l is_link).legal.in_order)
        (due_starts_ascend (length before) ((cycle + 1) * n) r now (octet_positive d l is_link)) is_expected (from_expected goes_on)

    -- and so the link sends it in turn
    sent_in_turn : cycle + 1 < length run.tables → batch run.domain carried l (cycle + 1)
        ≡ in_turn_from ((cycle + 1) * run.domain.cycle_time) (octet_time_of run.domain l) (queued_in run carried l cycle)
    sent_in_turn goes_on =
        ap (filter (λ (sent : Sent). cycle_of d sent.start.0 == cycle + 1)) (sends laws run carried alone l is_link).are_sent
        ∙ sent_then (λ t. cycle_of d t == cycle + 1) queue starts
        ∙ ap (flat_map (sent_of queue)) (same_starts goes_on)
        ∙ due_starts_send queue before now after (length before) ((cycle + 1) * n) r parts refl

  -- the same if the domain doesn't have the link
  pub alone_is_due : (l cycle : ℕ) → cycle + 1 < length run.tables → batch run.domain carried l (cycle + 1)
      ≡ in_turn_from ((cycle + 1) * run.domain.cycle_time) (octet_time_of run.domain l) (queued_in run carried l cycle)
  alone_is_due l cycle in_run = elim (cases_lt l (length run.domain.links)) [
    | inl is_link ↦ sent_in_turn l is_link cycle (omega (arith, in_run)) in_run
    | inr past ↦
        let test = λ (sent : Sent). cycle_of run.domain sent.start.0 == cycle + 1 in
        let none = none_queued l cycle (omega (arith, in_run)) past in
        ap (filter test) (alone.legal.no_others l past)
        ∙ sym (ap (in_turn_from ((cycle + 1) * run.domain.cycle_time) (octet_time_of run.domain l)) none)
  ]

  -- in the first cycle it sends nothing
  alone_begins : (l : ℕ) → batch run.domain carried l 0 ≡ []
  alone_begins l = filter_none (λ (sent : Sent). cycle_of run.domain sent.start.0 == 0) (carried l) (λ sent c.
      ne_eqb (cycle_of run.domain sent.start.0) 0 (λ e. elim (cases_lt l (length run.domain.links)) [
        | inl is_link ↦ omega (arith, e, (sent_timed laws run carried alone l is_link sent c).1.cycle)
        | inr past ↦ contains_none sent (subst (λ (xs : List Sent). Contains xs sent) (alone.legal.no_others l past) c)
      ]))

-- the law
pub batch_is_due : CycleLaws → RunBesideIsRunAlone → BatchIsDue
batch_is_due laws beside run net l cycle legal in_run = alone_is_due laws run net.carried (beside run net legal) l cycle in_run

-- and the law for the first cycle
pub first_batch_is_empty : CycleLaws → RunBesideIsRunAlone → FirstBatchIsEmpty
first_batch_is_empty laws beside run net l legal = alone_begins laws run net.carried (beside run net legal) l
