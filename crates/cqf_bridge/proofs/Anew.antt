-- A stream's gate counts each cycle anew: the verdicts on a cycle's frames don't depend on those of other cycles.
use Rattle.std.proofs.Common.{◌≡◌, ℕ, ◌+◌, ◌*◌, ◌<◌, List, [], ◌∷◌, ◌++◌, ◌==◌, ◌&&◌, if◌then◌else◌, nat_le, sym, ap}
use Rattle.std.proofs.Common.{refl, ◌∙◌, arith, append_assoc, append-nil, Contains}
use Rattle.std.proofs.Common.{ne_eqb, zero-add}
use Rattle.std.proofs.lemmas.Bool.{and_right, cond-false}
use Rattle.std.proofs.lemmas.List.Sums.{sum_by-append}
use Rattle.cqf_lists.proofs.Members.{contains_here, contains_later}
use Rattle.cqf_lists.proofs.Sums.{sum_none}
use Rattle.cqf_units.proofs.Cycles.{cycle_below}
use Rattle.cqf_units.specs.Timing.{counted_of}
use Rattle.cqf_model.specs.declared.topology.Row.{Row}
use Rattle.cqf_model.specs.Domain.{Domain, cycle_of}
use Rattle.cqf_model.specs.Run.{Run}
use Rattle.cqf_model.specs.Table.{hop_number_after, reserved_in, table_of}
use Rattle.cqf_model.specs.Policing.{Carried, Policed, Received, came_by, is_queued_of, police, police_all, policed_before, received_before, verdict_by, within_gate}
use Rattle.cqf_model.proofs.Coming.{before_when}
use Rattle.cqf_model.proofs.InCycle.{received_in_when}
use Rattle.cqf_model.proofs.Policing.{police_member}
use Rattle.cqf_laws_cycle.specs.BridgeCycle.{policed_in, policed_of, received_in}
use Rattle.cqf_laws_shift.specs.Edge.{GateIsReservation, octets_before}

module _ (reserves : GateIsReservation) (d : Domain) (some : 0 < d.cycle_time) (tables : List (List Row)) (bridge cycle : ℕ) (earlier : List Policed)
    (others : (p : Policed) → Contains earlier p → cycle_of d p.received.at ≡ cycle → ⊥) where
  -- what a reservation counts of a frame in the cycle
  abbrev counted : ℕ → Policed → ℕ
  counted number p = if is_queued_of number p.verdict && (cycle_of d p.received.at == cycle) then counted_of d.overhead p.received.octets else 0

  -- it counts nothing of other cycles
  counts_no_other : (number : ℕ) → octets_before d number cycle earlier ≡ 0
  counts_no_other number =
      sum_none (counted number) earlier (λ p h.
      cond-false (is_queued_of number p.verdict && (cycle_of d p.received.at == cycle)) (counted_of d.overhead p.received.octets) 0
      (and_right (is_queued_of number p.verdict) (cycle_of d p.received.at == cycle) (ne_eqb (cycle_of d p.received.at) cycle (others p h))))

  -- so after them it counts what it counts alone
  counts_alone : (number : ℕ) (now : List Policed) → octets_before d number cycle (earlier ++ now) ≡ octets_before d number cycle now
  counts_alone number now =
      sum_by-append (counted number) earlier now
      ∙ ap (λ (n : ℕ). n + octets_before d number cycle now) (counts_no_other number)
      ∙ zero-add (octets_before d number cycle now)

  -- the gate lets the same frames pass
  same_gate : (now : List Policed) (x : Received) → cycle_of d x.at ≡ cycle → (row : Row) → within_gate d (earlier ++ now) row x ≡ within_gate d now row x
  same_gate now x here row =
      let same : octets_before d row.no (cycle_of d x.at) (earlier ++ now) ≡ octets_before d row.no (cycle_of d x.at) now =
      ap (λ (c : ℕ). octets_before d row.no c (earlier ++ now)) here
      ∙ counts_alone row.no now
      ∙ sym (ap (λ (c : ℕ). octets_before d row.no c now) here) in
      reserves d (earlier ++ now) row x some
      ∙ ap (λ (n : ℕ). nat_le (n + counted_of d.overhead x.octets) (reserved_in row (hop_number_after row (came_by x.ingress)) (cycle_of d x.at))) same
      ∙ sym (reserves d now row x some)

  -- so the verdict on a frame of the cycle is the same
  same_verdict : (now : List Policed) (x : Received) → cycle_of d x.at ≡ cycle → police d tables bridge (earlier ++ now) x ≡ police d tables bridge now x
  same_verdict now x here = λ i. record {
    received = x;
    verdict = verdict_by d (table_of tables (cycle_of d x.at)) bridge (cycle_of d x.at) (λ row. same_gate now x here row i) x.ingress;
  }

  -- and on all of them
  same_verdicts : (now : List Policed) (xs : List Received) → ((x : Received) → Contains xs x → cycle_of d x.at ≡ cycle) →
      police_all d tables bridge (earlier ++ now) xs ≡ police_all d tables bridge now xs
  same_verdicts now [] here = refl
  same_verdicts now (x ∷ xs) here =
      let p = police d tables bridge now x in
      ap (λ (q : Policed). q ∷ police_all d tables bridge ((earlier ++ now) ++ q ∷ []) xs) (same_verdict now x (here x (contains_here x xs)))
      ∙ ap (λ (qs : List Policed). p ∷ police_all d tables bridge qs xs) (append_assoc earlier now (p ∷ []))
      ∙ ap (λ (ps : List Policed). p ∷ ps) (same_verdicts (now ++ p ∷ []) xs (λ y h. here y (contains_later x xs y h)))

module _ (run : Run) (carried : Carried) (bridge cycle : ℕ) where
  -- the verdicts on the frames of a cycle are those without earlier frames
  pub policed_anew : GateIsReservation → 0 < run.domain.cycle_time → policed_in run carried bridge cycle [] ≡ policed_of run carried bridge cycle
  policed_anew reserves some =
      let d = run.domain in
      let begins = cycle * d.cycle_time in
      let earlier = policed_before run carried bridge begins in
      let xs = received_in run carried bridge cycle in
      let others = λ (p : Policed) (h : Contains earlier p) (e : cycle_of d p.received.at ≡ cycle).
      (let early = before_when run carried bridge begins p.received (police_member d run.tables bridge [] (received_before run carried bridge begins) p h) in
      let before : cycle_of d p.received.at < cycle = cycle_below d.cycle_time p.received.at cycle early in
      let never : ⊥ = omega (arith, before, e) in
      never) in
      sym (same_verdicts reserves d some run.tables bridge cycle earlier others [] xs (received_in_when run carried bridge cycle))
      ∙ ap (λ (ps : List Policed). police_all d run.tables bridge ps xs) (append-nil earlier)
