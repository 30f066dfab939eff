-- The streams' frames that arrive at a port beside background frames are those that are queued to it.
use Rattle.std.proofs.Common.{◌≡◌, ℕ, zero, suc, ◌+◌, ◌*◌, ◌<◌, ◌⊎◌, [], ◌++◌, List, Bool, true, false, None, inl, inr, sym, ap, ap₂, ◌∙◌, subst, arith}
use Rattle.std.proofs.Common.{Contains, filter, eq-eqb, ne_eqb, ◌==◌}
use Rattle.std.specs.List.{enumerate_from}
use Rattle.std.proofs.lemmas.Grind.{flat_map-append}
use Rattle.std.proofs.lemmas.List.Elements.{Contains-append_cases, filter-append}
use Rattle.cqf_model.specs.declared.frames.Backed.{Backed}
use Rattle.cqf_model.specs.declared.frames.Background.{Background}
use Rattle.cqf_model.specs.Domain.{Domain, bridge_of, cycle_of}
use Rattle.cqf_lists.specs.Lists.{each_below}
use Rattle.cqf_model.specs.Run.{Run}
use Rattle.cqf_model.specs.Policing.{Carried, Received, Policed, police_all, policed_before, received_at, received_before}
use Rattle.cqf_model.specs.Network.{QueuedFrame, backed_at, backed_frame, backed_in, comes_before, comes_in, is_backed_at, numbered_background, queued_before}
use Rattle.cqf_model.specs.Network.{queued_by, queued_in, queued_to}
use Rattle.cqf_model.proofs.Coming.{received_when}
use Rattle.cqf_model.proofs.Policing.{police_more}
use Rattle.cqf_laws_cycle.specs.Beside.{is_of_stream}
use Rattle.cqf_units.proofs.Cycles.{cycle_from, cycle_is}
use Rattle.cqf_lists.proofs.Members.{contains_from_filter, contains_from_map, contains_map}
use Rattle.cqf_lists.proofs.EachBelow.{below_plus, contains_from_below, filter_below, filter_each, filter_none, same_below}
use Rattle.cqf_laws_shift.proofs.Came.{placed_member}
use Rattle.cqf_laws_shift.proofs.Policing.{received_list}
use Rattle.cqf_laws_shift.proofs.Queues.{queued_from}

module _ (run : Run) (carried : Carried) (l : ℕ) where
  -- the run's domain
  abbrev d : Domain
  d = run.domain

  -- the cycle time
  abbrev n : ℕ
  n = run.domain.cycle_time

  -- the bridge of the port
  abbrev b : ℕ
  b = bridge_of run.domain l

  -- what is queued arrives at the instant of a frame that arrived
  queued_at : (earlier : List Policed) (xs : List Received) (q : QueuedFrame) → Contains (queued_to d l (police_all d run.tables b earlier xs)) q →
      (x : Received) × Contains xs x × (q.arrival.at.0 ≡ x.at)
  queued_at earlier xs q c =
      let from = queued_from d l (police_all d run.tables b earlier xs) q c in (
        from.p.received,
        subst (λ z. Contains z from.p.received) (received_list d run.tables b earlier xs)
            (contains_map (λ (p : Policed). p.received) (police_all d run.tables b earlier xs) from.p from.inside),
        ap (λ (z : QueuedFrame). z.arrival.at.0)
            (sym from.is),
      )

  -- what arrives in a cycle
  abbrev in_cycle : ℕ → List Received
  in_cycle c = each_below (λ k. received_at run carried b (c * n + k)) n

  -- and what is queued of it
  abbrev queued_now : ℕ → List QueuedFrame
  queued_now c = queued_to d l (police_all d run.tables b (policed_before run carried b (c * n)) (in_cycle c))

  -- a queue grows by what is queued in the cycle
  grows : (c : ℕ) → queued_before run carried l ((c + 1) * n) ≡ queued_before run carried l (c * n) ++ queued_now c
  grows c =
      let segment : (c + 1) * n ≡ c * n + n = omega arith in
      let first = received_before run carried b (c * n) in
      ap (λ z. queued_to d l (police_all d run.tables b [] z)) (ap (received_before run carried b) segment ∙ below_plus (received_at run carried b) (c * n) n)
      ∙ ap (queued_to d l) (police_more d run.tables b [] first (in_cycle c))
      ∙ flat_map-append (λ (p : Policed). queued_by d l p.received p.verdict) (police_all d run.tables b [] first)
      (police_all d run.tables b (policed_before run carried b (c * n)) (in_cycle c))

  -- this is exactly what is queued in it
  pub queued_in_is : (c : ℕ) → 0 < n → queued_in run carried l c ≡ queued_now c
  queued_in_is c some =
      ap (filter same_cycle) (grows c)
      ∙ filter-append same_cycle (queued_before run carried l (c * n)) (queued_now c)
      ∙ ap₂ (λ x y. x ++ y) (filter_none same_cycle (queued_before run carried l (c * n)) earlier) (filter_each same_cycle (queued_now c) here)
    where
      same_cycle : QueuedFrame → Bool
      same_cycle q = cycle_of d q.arrival.at.0 == c

      earlier : (q : QueuedFrame) → Contains (queued_before run carried l (c * n)) q → same_cycle q ≡ false
      earlier q m =
          let x = queued_at [] (received_before run carried b (c * n)) q m in
          let t = contains_from_below (received_at run carried b) (c * n) x.0 x.1 in
          let at : q.arrival.at.0 ≡ t.0 = x.2 ∙ received_when run carried b t.0 x.0 t.2 in
          ne_eqb (cycle_of d q.arrival.at.0) c (λ e. absurd (omega (arith, at, t.1, cycle_from n q.arrival.at.0, ap (λ z. z * n) e)))

      here : (q : QueuedFrame) → Contains (queued_now c) q → same_cycle q ≡ true
      here q m =
          let x = queued_at (policed_before run carried b (c * n)) (in_cycle c) q m in
          let k = contains_from_below (λ k. received_at run carried b (c * n + k)) n x.0 x.1 in
          let at : q.arrival.at.0 ≡ c * n + k.0 = x.2 ∙ received_when run carried b (c * n + k.0) x.0 k.2 in
          eq-eqb (cycle_of d q.arrival.at.0) c (cycle_is n c q.arrival.at.0 (omega (arith, at)) (omega (arith, at, k.1)))

  -- so cycle by cycle the queue is what is queued before
  pub queue_by_cycles : (cycles : ℕ) → 0 < n → each_below (queued_in run carried l) cycles ≡ queued_before run carried l (cycles * n)
  queue_by_cycles zero some = ap (queued_before run carried l) (nothing n)
    where
      nothing : (n : ℕ) → 0 ≡ 0 * n
      nothing n = omega arith
  queue_by_cycles (suc c) some =
      ap₂ (λ x y. x ++ y) (queue_by_cycles c some) (queued_in_is c some)
      ∙ sym (grows c)
      ∙ ap (queued_before run carried l) (one_more c n)
    where
      one_more : (c n : ℕ) → (c + 1) * n ≡ suc c * n
      one_more c n = omega arith

  -- a background frame is of no stream
  backed_none : (c : ℕ) (q : QueuedFrame) → Contains (backed_in d run.background l c) q → (x : Backed) × Contains (numbered_background run.background) x ×
      (backed_frame x ≡ q)
  backed_none c q m =
      let k = contains_from_below (λ offset. backed_at run.background l (c * d.cycle_time + offset)) d.cycle_time q m in
      let x = contains_from_map backed_frame (filter (is_backed_at l (c * d.cycle_time + k.0)) (numbered_background run.background)) q k.2 in
      (x.0, (contains_from_filter (is_backed_at l (c * d.cycle_time + k.0)) (numbered_background run.background) x.0 x.1).0, x.2)

  -- a queued frame is of a stream
  queued_some : (policed : List Policed) (q : QueuedFrame) → Contains (queued_to d l policed) q → is_of_stream q ≡ true
  queued_some policed q c = ap is_of_stream (sym (queued_from d l policed q c).is)

  -- so the streams' frames that arrive at a port are those that are queued to it
  pub streams_that_come : (cycles : ℕ) → 0 < n → filter is_of_stream (comes_before run carried l cycles) ≡ queued_before run carried l (cycles * n)
  streams_that_come cycles some =
      filter_below is_of_stream (comes_in run carried l) cycles
      ∙ same_below (λ c. filter is_of_stream (comes_in run carried l c)) (queued_in run carried l) cycles (λ c less.
      filter-append is_of_stream (backed_in d run.background l c) (queued_in run carried l c)
      ∙ ap₂ (λ x y. x ++ y)
      (filter_none is_of_stream (backed_in d run.background l c) (λ q m. ap is_of_stream (sym (backed_none c q m).2)))
      (filter_each is_of_stream (queued_in run carried l c)
      (λ q m. queued_some (policed_before run carried b ((c + 1) * n)) q
      (contains_from_filter (λ (x : QueuedFrame). cycle_of d x.arrival.at.0 == c) (queued_before run carried l ((c + 1) * n)) q m).0)))
      ∙ queue_by_cycles cycles some

  -- each frame that arrives is a background frame or a queued one
  pub comes_of : (cycles : ℕ) (q : QueuedFrame) → Contains (comes_before run carried l cycles) q →
      ((x : Background) × Contains run.background x × (q.stream ≡ None) × (q.arrival.class ≡ x.class)) ⊎ (is_of_stream q ≡ true)
  comes_of cycles q m =
      let c = contains_from_below (comes_in run carried l) cycles q m in
      elim (Contains-append_cases (backed_in d run.background l c.0) (queued_in run carried l c.0) q c.2) [
        | inl back ↦
            let x = backed_none c.0 q back in
            let placed = contains_from_map the_backed (enumerate_from 1 run.background) x.0 x.1 in
            let member = placed_member 1 run.background placed.0.0 placed.0.1 placed.1 in
            inl (
              x.0.background,
              subst (λ (z : Backed). Contains run.background z.background) placed.2 member.0,
              ap (λ (z : QueuedFrame). z.stream) (sym x.2),
              ap (λ (z : QueuedFrame). z.arrival.class) (sym x.2),
            )
        | inr queue ↦ inr (queued_some (policed_before run carried b ((c.0 + 1) * n)) q
            (contains_from_filter (λ (x : QueuedFrame). cycle_of d x.arrival.at.0 == c.0) (queued_before run carried l ((c.0 + 1) * n)) q queue).0)
      ]
    where
      the_backed : ℕ × Background → Backed
      the_backed x = record { frame = x.0; background = x.1 }
