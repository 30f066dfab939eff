-- A port at which streams' frames arrive in cycles, within the link's budget, is one cycle late beside any background frames.
use Rattle.std.proofs.Common.{◌≡◌, ℕ, zero, suc, ◌+◌, ◌-◌, ◌*◌, ◌/◌, ◌<◌, ◌≤◌, Bool, true, false, if◌then◌else◌, leb, le-leb, List, length, take, get_or, inl}
use Rattle.std.proofs.Common.{inr, sym, ap, ◌∙◌, subst, arith, refl, sum_by, AllPairs, Contains, ◌==◌, le_refl, mul-le-mul_left, mul-le-mul_right}
use Rattle.std.proofs.Common.{le-div_iff_mul-le, eq-eqb, ne_eqb, add-one, take-take, le_trans}
use Rattle.std.proofs.lemmas.Bool.{cases_eq, cases_lt, cases_order, cond-true, cond-false, lt-leb}
use Rattle.std.proofs.lemmas.List.{get_or_default}
use Rattle.std.proofs.lemmas.List.Sums.{sum_by_more, sum_by_more_le, sum_by-take-le}
use Rattle.cqf_units.specs.Timing.{slot_of, ending_of, idle_after}
use Rattle.cqf_model.specs.declared.ports.Arrival.{Arrival}
use Rattle.cqf_model.specs.GateList.{port_list}
use Rattle.cqf_model.specs.Port.{Transmission, Waits, IsFirst, IsIdle, IsEligible, no_arrival, instant_of, class_of, octets_of}
use Rattle.cqf_model.specs.Due.{busy, due, slot_in}
use Rattle.cqf_laws_cycle.specs.Compiled.{given_class, open_class, guard_from, IsIn, IsSentIn}
use Rattle.cqf_laws_cycle.specs.OnePort.{PortIsOneCycleLate, BackgroundYields, IsWithinBudget, AreSent, AreDue, YieldsToStreams, StreamsAt}
use Rattle.cqf_units.proofs.Times.{slot_joins, slot_parts, slot_some}
use Rattle.cqf_model.proofs.Legal.{ends_later}
use Rattle.cqf_units.proofs.Cycles.{cycle_below, cycle_from, cycle_is, cycle_upto, cycles_ordered, from_next}
use Rattle.cqf_laws_cycle.proofs.GateLists.{classes_take_turns, port_list_sends_until, sends_no_own}

-- two starts at the same instant are the same
one_at : (starts : List Transmission) (p q s : ℕ) → AllPairs (λ (a b : Transmission). a.1 < b.1) starts → Contains starts (p, s) → Contains starts (q, s) →
    p ≡ q
one_at starts p q s in_order first second = elim (cases_order first.0 second.0) [
  | inl same ↦ ap (λ (x : Transmission). x.0)
      (sym first.2 ∙ ap (λ z. get_or starts z (p, s)) same ∙ get_or_default starts second.0 (p, s) (q, s) second.1 ∙ second.2)
  | inr o ↦ elim o [
    | inl less ↦ absurd (clash (ap (λ (x : Transmission). x.1) first.2)
        (ap (λ (x : Transmission). x.1) (get_or_default starts second.0 (p, s) (q, s) second.1 ∙ second.2)) (in_order first.0 second.0 (p, s) less second.1))
    | inr more ↦ absurd (clash (ap (λ (x : Transmission). x.1) (get_or_default starts second.0 (p, s) (q, s) second.1 ∙ second.2))
        (ap (λ (x : Transmission). x.1) first.2) (in_order second.0 first.0 (p, s) more first.1))
  ]
]
  where
    -- two equal instants aren't ordered
    clash : {a b : ℕ} → a ≡ s → b ≡ s → a < b → ⊥
    clash ea eb l = omega (arith, ea, eb, l)

-- a frame that starts when it is due fills the cycle up to the load with it
filled : (n c before with_it wire s first : ℕ) → with_it ≡ before + wire → first ≡ (c + 1) * n + before → first + wire ≤ s → (c + 1) * n + with_it ≤ s
filled n c before with_it wire s first total is_due free = omega (arith, total, is_due, free)

-- a frame that adds nothing leaves it as it was
unfilled : (n c before with_it s : ℕ) → with_it ≡ before → (c + 1) * n + before ≤ s → (c + 1) * n + with_it ≤ s
unfilled n c before with_it s same so_far = subst (λ z. (c + 1) * n + z ≤ s) (sym same) so_far

module _ (n g r : ℕ) (arrivals : List Arrival) (cycles upto : ℕ) (starts : List Transmission)
    (port : IsWithinBudget n g r arrivals upto) (legal : AreSent n g r arrivals cycles starts) where
  -- the cycle of an index
  abbrev cyc : ℕ → ℕ
  cyc p = instant_of arrivals p / n

  -- the slot of the frame at an index
  abbrev wires : ℕ → ℕ
  wires p = slot_of (octets_of arrivals p) r

  -- when it is due
  abbrev due_at : ℕ → ℕ
  due_at p = due n r arrivals p

  -- the arrival at the index is a stream's frame
  abbrev Streams : ℕ → Type 0
  Streams p = StreamsAt arrivals p

  -- a cycle has an instant
  some_cycle : 0 < n
  some_cycle = omega (arith, port.guard_short)

  -- later streams' frames arrive in no earlier cycle
  later : (p q : ℕ) → Streams p → Streams q → p < q → q < length arrivals → cyc p ≤ cyc q
  later p q p_streams q_streams order inside =
      cycles_ordered n (instant_of arrivals p) (instant_of arrivals q) some_cycle (port.come.in_order p q no_arrival order inside p_streams q_streams)

  -- what a stream's frame adds to the load of its cycle
  own_wire : (p c : ℕ) → Streams p → cyc p ≡ c → slot_in r n c (get_or arrivals p no_arrival) ≡ wires p
  own_wire p c streams same = cond-true (cyc p == c) (if leb 6 (class_of arrivals p) then wires p else 0) 0 (eq-eqb (cyc p) c same)
      ∙ cond-true (leb 6 (class_of arrivals p)) (wires p) 0 (le-leb 6 (class_of arrivals p) streams)

  -- a frame of another cycle adds nothing
  other_wire : (p c : ℕ) → (cyc p ≡ c → ⊥) → slot_in r n c (get_or arrivals p no_arrival) ≡ 0
  other_wire p c differ = cond-false (cyc p == c) (if leb 6 (class_of arrivals p) then wires p else 0) 0 (ne_eqb (cyc p) c differ)

  -- and a background frame adds nothing to any cycle
  background_wire : (p c : ℕ) → class_of arrivals p < 6 → slot_in r n c (get_or arrivals p no_arrival) ≡ 0
  background_wire p c low = nothing (cyc p == c) (leb 6 (class_of arrivals p)) (wires p) (lt-leb 6 (class_of arrivals p) low)
    where
      nothing : (own counts : Bool) (wire : ℕ) → counts ≡ false → (if own then (if counts then wire else 0) else 0) ≡ 0
      nothing true counts wire is_false = cond-false counts wire 0 is_false
      nothing false counts wire is_false = refl

  -- the load with one more frame
  load_more : (k c : ℕ) → k < length arrivals → busy r n c (take (suc k) arrivals) ≡ busy r n c (take k arrivals) + slot_in r n c (get_or arrivals k no_arrival)
  load_more k c inside = ap (λ z. busy r n c (take z arrivals)) (sym (add-one k)) ∙ sum_by_more (slot_in r n c) arrivals k no_arrival inside

  -- with its own slot, the load before a frame is within the whole load
  own_part : (p : ℕ) → Streams p → p < length arrivals → busy r n (cyc p) (take p arrivals) + wires p ≤ busy r n (cyc p) arrivals
  own_part p streams inside = omega (arith, sum_by_more_le (slot_in r n (cyc p)) arrivals p no_arrival inside, own_wire p (cyc p) streams refl)

  -- and within the load before a later frame of its cycle
  earlier_part : (q p : ℕ) → Streams q → q < p → p < length arrivals → busy r n (cyc q) (take q arrivals) + wires q ≤ busy r n (cyc q) (take p arrivals)
  earlier_part q p streams order inside =
      let f = slot_in r n (cyc q) in
      let more = sum_by_more f arrivals q no_arrival (omega (arith, order, inside)) in
      let whole : sum_by f (take (q + 1) (take p arrivals)) ≤ sum_by f (take p arrivals) = sum_by-take-le f (take p arrivals) (q + 1) in
      let part : sum_by f (take (q + 1) (take p arrivals)) ≡ sum_by f (take (q + 1) arrivals) =
      ap (sum_by f) (take-take (q + 1) p arrivals (omega (arith, order))) in
      omega (arith, more, whole, part, own_wire q (cyc q) streams refl)

  -- the gap after it is over when the guard band begins, and it is due in the next cycle
  over : (p : ℕ) → p < length arrivals → Streams p → cyc p < upto → due_at p + wires p ≤ guard_from n g (cyc p + 1)
  over p inside streams good =
      omega (arith, port.loads (cyc p) good, own_part p streams inside)

  -- its due instant is in the next cycle
  due_in : (p : ℕ) → p < length arrivals → Streams p → cyc p < upto → IsIn n (cyc p + 1) (due_at p)
  due_in p inside streams good = (omega arith, omega (arith, over p inside streams good, port.some_guard, port.guard_short, port.some_octet))

  -- so the cycle of that instant is the next one
  next : (p : ℕ) → p < length arrivals → Streams p → cyc p < upto → due_at p / n ≡ cyc p + 1
  next p inside streams good = let is_in = due_in p inside streams good in cycle_is n (cyc p + 1) (due_at p) is_in.0 is_in.1

  -- what starts in a cycle has an open class, and is sent before the guard band
  sent_in : (p s : ℕ) → Contains starts (p, s) → IsSentIn (s / n) (class_of arrivals p) × (ending_of s (octets_of arrivals p) r ≤ guard_from n g (s / n))
  sent_in p s c = (port_list_sends_until n g (s / n) s (ending_of s (octets_of arrivals p) r) (class_of arrivals p) port.some_guard port.guard_short
      (cycle_from n s, cycle_upto n s some_cycle) (ends_later s (octets_of arrivals p) r port.some_octet)).0 (legal.eligible p s c)

  -- and the gap after it is over when the next cycle begins
  free_by : (p s : ℕ) → Contains starts (p, s) → idle_after s (octets_of arrivals p) r ≤ (s / n + 1) * n
  free_by p s c = omega (arith, (sent_in p s c).1, port.gap_short, port.guard_short, slot_joins (octets_of arrivals p) r)

  -- so the wire is free at any instant of a later cycle
  free_before : (p s c t : ℕ) → Contains starts (p, s) → s / n < c → c * n ≤ t → idle_after s (octets_of arrivals p) r ≤ t
  free_before p s c t started less from = le_trans (free_by p s started) (from_next n (s / n) c t less from)

  -- a stream's frame starts in a later cycle than it arrives
  starts_later : (p s : ℕ) → Contains starts (p, s) → Streams p → cyc p + 1 ≤ s / n
  starts_later p s c streams =
      let first = legal.first p s c in
      let class_here = port.come.classes p first.waits.inside streams in
      let not_before = cycles_ordered n (instant_of arrivals p) s some_cycle first.waits.come in
      elim ((sent_in p s c).0) [
        | inr low ↦ absurd (omega (arith, low, streams))
        | inl class_there ↦ elim (cases_lt (cyc p) (s / n)) [
          | inl is_later ↦ omega (arith, is_later)
          | inr at_once ↦
              let same : cyc p ≡ s / n = omega (arith, not_before, at_once) in
              absurd (sends_no_own (s / n) (sym class_there ∙ class_here ∙ ap given_class same))
        ]
      ]

  -- so it starts no sooner than the next cycle
  starts_from : (p s : ℕ) → Contains starts (p, s) → Streams p → (cyc p + 1) * n ≤ s
  starts_from p s c streams = from_next n (cyc p) (s / n) s (omega (arith, starts_later p s c streams)) (cycle_from n s)

  -- the streams' frames of a cycle fill the next cycle from its beginning: if those before an index start when they are due, no
  -- other start is among them
  following : (q s c m : ℕ) → Contains starts (q, s) → (c + 1) * n ≤ s → m ≤ length arrivals →
      ((k : ℕ) → k < m → Streams k → cyc k ≡ c → Contains starts (k, due_at k) × (k ≡ q → ⊥)) → (c + 1) * n + busy r n c (take m arrivals) ≤ s
  following q s c zero started from inside before = omega (arith, from)
  following q s c (suc m) started from inside before =
      let so_far = following q s c m started from (omega (arith, inside)) (λ k l. before k (omega (arith, l))) in
      let more = load_more m c (omega (arith, inside)) in
      elim (cases_lt (class_of arrivals m) 6) [
        | inl low ↦ unfilled n c (busy r n c (take m arrivals)) (busy r n c (take (suc m) arrivals)) s (omega (arith, more, background_wire m c low)) so_far
        | inr streams ↦ elim (cases_eq (cyc m) c) [
          | inr differ ↦ unfilled n c (busy r n c (take m arrivals)) (busy r n c (take (suc m) arrivals)) s (omega (arith, more, other_wire m c differ)) so_far
          | inl same ↦
              let m_before = before m (omega arith) streams same in
              let m_due : due_at m ≡ (c + 1) * n + busy r n c (take m arrivals) = ap (λ z. (z + 1) * n + busy r n z (take m arrivals)) same in
              elim (cases_lt (due_at m) s) [
                | inl sooner ↦
                    let free : due_at m + wires m ≤ s = legal.idle q s started m (due_at m) m_before.0 sooner in
                    let total : busy r n c (take (suc m) arrivals) ≡ busy r n c (take m arrivals) + wires m = omega (arith, more, own_wire m c streams same) in
                    filled n c (busy r n c (take m arrivals)) (busy r n c (take (suc m) arrivals)) (wires m) s (due_at m) total m_due free
                | inr not_sooner ↦
                    let at_once : due_at m ≡ s = omega (arith, not_sooner, so_far, m_due) in
                    absurd (m_before.1 (one_at starts m q s legal.in_order (subst (λ z. Contains starts (m, z)) at_once m_before.0) started))
              ]
        ]
      ]

  -- a frame with a lower index, no later in its cycle, is over when the other one is due
  sooner : (q p : ℕ) → Streams q → Streams p → q < p → p < length arrivals → cyc p < upto → due_at q + wires q ≤ due_at p
  sooner q p q_streams p_streams order inside good =
      let q_inside : q < length arrivals = omega (arith, order, inside) in
      let no_later = later q p q_streams p_streams order inside in
      elim (cases_eq (cyc q) (cyc p)) [
        | inl same ↦
            let part = earlier_part q p q_streams order inside in
            let p_due : due_at p ≡ (cyc q + 1) * n + busy r n (cyc q) (take p arrivals) = ap (λ z. (z + 1) * n + busy r n z (take p arrivals)) (sym same) in
            omega (arith, part, p_due)
        | inr differ ↦
            let less : cyc q + 1 ≤ cyc p = omega (arith, no_later, differ) in
            omega (arith, over q q_inside q_streams (omega (arith, no_later, good)), mul-le-mul_right n less)
      ]

  -- it starts when it is due, if those before it do
  step : (p : ℕ) → ((q : ℕ) → q < p → q < length arrivals → Streams q → cyc q < upto → cyc q + 1 < cycles → Contains starts (q, due_at q)) →
      p < length arrivals → Streams p → cyc p < upto → cyc p + 1 < cycles → Contains starts (p, due_at p)
  step p ih inside streams good early =
      elim (cases_lt (class_of arrivals w.0) 6) [
        | inl low ↦ absurd (legal.strict_priority w.0 t p w.1 (omega (arith, low, streams)) first eligible)
        | inr w_streams ↦ elim (cases_order w.0 p) [
          | inl same ↦ subst (λ z. Contains starts (z, t)) same w.1
          | inr o ↦ elim o [
            | inl less ↦
                let at_due = legal.once w.0 t (due_at w.0) w.1 (before w.0 less w_streams) in
                absurd (omega (arith, at_due, sooner w.0 p w_streams streams less inside good, some_wire w.0))
            | inr more ↦ absurd (overtakes w.0 t w.1 w_streams more (le_refl t))
          ]
        ]
      ]
    where
      t : ℕ
      t = due_at p

      t_in : IsIn n (cyc p + 1) t
      t_in = due_in p inside streams good

      before : (q : ℕ) → q < p → Streams q → Contains starts (q, due_at q)
      before q l q_streams = let no_later = later q p q_streams streams l inside in
          ih q l (omega (arith, l, inside)) q_streams (omega (arith, no_later, good)) (omega (arith, no_later, early))

      some_wire : (q : ℕ) → 0 < wires q
      some_wire q = slot_some (octets_of arrivals q) r port.some_octet

      -- what starts from the next cycle on, and isn't an earlier stream's frame, starts after those
      not_among : (q s : ℕ) → Contains starts (q, s) → (cyc p + 1) * n ≤ s → ((k : ℕ) → k < p → Streams k → k ≡ q → ⊥) → t ≤ s
      not_among q s c from apart = following q s (cyc p) p c from (omega (arith, inside)) (λ k l k_streams same. (before k l k_streams, apart k l k_streams))

      not_before : (s : ℕ) → Contains starts (p, s) → t ≤ s
      not_before s c = not_among p s c (starts_from p s c streams) (λ k l k_streams e. omega (arith, e, l))

      -- a later stream's frame doesn't start up to then
      overtakes : (q s : ℕ) → Contains starts (q, s) → Streams q → p < q → s ≤ t → ⊥
      overtakes q s c q_streams order upto_t =
          let q_inside = (legal.first q s c).waits.inside in
          let upper : s / n ≤ cyc p + 1 = subst (λ z. s / n ≤ z) (next p inside streams good) (cycles_ordered n s t some_cycle upto_t) in
          let same : cyc p ≡ cyc q = omega (arith, upper, starts_later q s c q_streams, later p q streams q_streams order q_inside) in
          let classes : class_of arrivals p ≡ class_of arrivals q = port.come.classes p inside streams ∙ ap given_class same
          ∙ sym (port.come.classes q q_inside q_streams) in
          let here : instant_of arrivals p ≤ s =
          omega (arith, starts_from q s c q_streams, cycle_upto n (instant_of arrivals p) some_cycle, ap (λ z. z * n) same) in
          (legal.first q s c).none_before p order classes
          (record { inside = inside; come = here; not_started = λ s' c'. omega (arith, not_before s' c', upto_t) })

      -- a background frame that starts before is over: it is of an earlier cycle
      idle_of_background : (q s : ℕ) → Contains starts (q, s) → class_of arrivals q < 6 → s < t → idle_after s (octets_of arrivals q) r ≤ t
      idle_of_background q s c low l = elim (cases_lt (s / n) (cyc p + 1)) [
        | inl less ↦ free_before q s (cyc p + 1) t c less t_in.0
        | inr more ↦
            let from = from_next n (cyc p) (s / n) s (omega (arith, more)) (cycle_from n s) in
            absurd (omega (arith, not_among q s c from (λ k below k_streams e. apart k e k_streams), l))
      ]
        where
          apart : (k : ℕ) → k ≡ q → Streams k → ⊥
          apart k e k_streams = omega (arith, subst (λ z. Streams z) e k_streams, low)

      idle : IsIdle (record { entries = port_list n g; octet_time = r }) arrivals starts t
      idle q s c l = elim (cases_lt (class_of arrivals q) 6) [
        | inl low ↦ idle_of_background q s c low l
        | inr q_streams ↦ elim (cases_order q p) [
          | inl same ↦ absurd (omega (arith, not_before s (subst (λ z. Contains starts (z, s)) same c), l))
          | inr o ↦ elim o [
            | inl less ↦
                let at_due = legal.once q s (due_at q) c (before q less q_streams) in
                omega (arith, at_due, sooner q p q_streams streams less inside good)
            | inr more ↦ absurd (overtakes q s c q_streams more (omega (arith, l)))
          ]
        ]
      ]

      here : instant_of arrivals p ≤ t
      here = omega (arith, cycle_upto n (instant_of arrivals p) some_cycle, t_in.0)

      waits : Waits arrivals starts p t
      waits = record { inside = inside; come = here; not_started = not_before }

      none_before : (q : ℕ) → q < p → class_of arrivals q ≡ class_of arrivals p → Waits arrivals starts q t → ⊥
      none_before q l same still =
          let q_streams : Streams q = subst (λ z. 6 ≤ z) (sym same) streams in
          omega (arith, still.not_started (due_at q) (before q l q_streams), sooner q p q_streams streams l inside good, some_wire q)

      first : IsFirst arrivals starts p t
      first = record { waits = waits; none_before = none_before }

      eligible : IsEligible (record { entries = port_list n g; octet_time = r }) arrivals p t
      eligible =
          let class_here : class_of arrivals p ≡ open_class (cyc p + 1) = port.come.classes p inside streams ∙ sym (classes_take_turns (cyc p)) in
          (port_list_sends_until n g (cyc p + 1) t (ending_of t (octets_of arrivals p) r) (class_of arrivals p) port.some_guard port.guard_short t_in
          (ends_later t (octets_of arrivals p) r port.some_octet)).1
          (inl class_here, omega (arith, over p inside streams good, slot_parts (octets_of arrivals p) r))

      in_run : t < cycles * n
      in_run = omega (arith, t_in.1, mul-le-mul_right n early)

      w : (q : ℕ) × Contains starts (q, t)
      w = legal.work_conserving t p in_run idle first eligible

  -- the same by induction on the index
  each_before : (m p : ℕ) → p < m → p < length arrivals → Streams p → cyc p < upto → cyc p + 1 < cycles → Contains starts (p, due_at p)
  each_before zero p l = absurd (omega (arith, l))
  each_before (suc m) p l = step p (λ q lq. each_before m q (omega (arith, lq, l)))

  -- each stream's frame starts when it is due
  each : (p : ℕ) → p < length arrivals → Streams p → cyc p < upto → cyc p + 1 < cycles → Contains starts (p, due_at p)
  each p = each_before (suc p) p (omega arith)

  -- a stream's frame of a cycle before that of a start is due within the run
  each_by : (p q s : ℕ) → Contains starts (q, s) → s / n ≤ upto → p < length arrivals → Streams p → cyc p < s / n → Contains starts (p, due_at p)
  each_by p q s c early inside streams less =
      let in_run = cycle_below n s cycles (legal.before_end q s c) in
      each p inside streams (omega (arith, less, early)) (omega (arith, less, in_run))

  -- and no stream's frame starts at another time
  only : (p s : ℕ) → Contains starts (p, s) → Streams p → s / n ≤ upto → (cyc p < upto) × (s ≡ due_at p)
  only p s c streams early =
      let is_later = starts_later p s c streams in
      (omega (arith, is_later, early), legal.once p s (due_at p) c (each_by p p s c early (legal.first p s c).waits.inside streams (omega (arith, is_later))))

  -- the four together
  pub port_is_late : AreDue n g r arrivals cycles upto starts
  port_is_late = record { each = each; only = only; next = next; over = over }

  -- a background frame starts after each stream's frame of an earlier cycle
  background_after : (p s other : ℕ) → Contains starts (p, s) → class_of arrivals p < 6 → s / n ≤ upto → other < length arrivals → Streams other →
      cyc other < s / n → due_at other + wires other ≤ s
  background_after p s other c low early inside streams less =
      let from = from_next n (cyc other) (s / n) s less (cycle_from n s) in
      let among = following p s (cyc other) (suc other) c from (omega (arith, inside)) each_of_cycle in
      let total : busy r n (cyc other) (take (suc other) arrivals) ≡ busy r n (cyc other) (take other arrivals) + wires other = load_more other (cyc other) inside
      ∙ ap (λ z. busy r n (cyc other) (take other arrivals) + z) (own_wire other (cyc other) streams refl) in
      parts (busy r n (cyc other) (take other arrivals)) (busy r n (cyc other) (take (suc other) arrivals)) (wires other) total among
    where
      each_of_cycle : (k : ℕ) → k < suc other → Streams k → cyc k ≡ cyc other → Contains starts (k, due_at k) × (k ≡ p → ⊥)
      each_of_cycle k l k_streams same =
          (each_by k p s c early (omega (arith, l, inside)) k_streams (omega (arith, same, less)), λ e. omega (arith, subst (λ z. Streams z) e k_streams, low))

      parts : (before with_it wire : ℕ) → with_it ≡ before + wire → (cyc other + 1) * n + with_it ≤ s → (cyc other + 1) * n + before + wire ≤ s
      parts before with_it wire total among = omega (arith, total, among)

  -- so only a stream's frame of the cycle itself can wait
  none_waits : (p s other : ℕ) → Contains starts (p, s) → class_of arrivals p < 6 → s / n ≤ upto → Streams other → Waits arrivals starts other s →
      cyc other ≡ s / n
  none_waits p s other c low early streams waits =
      let no_later = cycles_ordered n (instant_of arrivals other) s some_cycle waits.come in
      elim (cases_lt (cyc other) (s / n)) [
        | inl less ↦ absurd (omega (
          arith,
          waits.not_started (due_at other) (each_by other p s c early waits.inside streams less),
          background_after p s other c low early waits.inside streams less,
          slot_some (octets_of arrivals other) r port.some_octet,
        ))
        | inr more ↦ omega (arith, no_later, more)
      ]

  -- the four together
  pub background_keeps : YieldsToStreams n g r arrivals upto starts
  background_keeps = record { following = background_after; none_waits = none_waits; sent = λ p s c low. (sent_in p s c).1; over = λ p s c low. free_by p s c }

-- the first law
pub port_is_one_cycle_late : PortIsOneCycleLate
port_is_one_cycle_late n g r arrivals cycles upto starts port legal = port_is_late n g r arrivals cycles upto starts port legal

-- the second law
pub background_yields : BackgroundYields
background_yields n g r arrivals cycles upto starts port legal = background_keeps n g r arrivals cycles upto starts port legal
