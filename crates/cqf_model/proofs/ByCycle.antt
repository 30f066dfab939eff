-- A port's queue, cycle by cycle.
use Rattle.std.proofs.Common.{◌≡◌, ℕ, ◌+◌, ◌*◌, ◌<◌, ◌==◌, ◌++◌, [], List, filter, sym, ap, ◌∙◌, arith, subst, eq-eqb, ne_eqb, Contains}
use Rattle.std.proofs.lemmas.List.Elements.{Contains-append_right, filter-append}
use Rattle.cqf_lists.proofs.Members.{contains_from_flat}
use Rattle.cqf_lists.proofs.EachBelow.{filter_each, filter_none}
use Rattle.cqf_units.proofs.Cycles.{cycle_below, cycle_is}
use Rattle.cqf_model.specs.Domain.{bridge_of, cycle_of}
use Rattle.cqf_model.specs.Run.{Run}
use Rattle.cqf_model.specs.Policing.{Carried, Policed, policed_before, received_before}
use Rattle.cqf_model.specs.Network.{QueuedFrame, queued_before, queued_by, queued_in}
use Rattle.cqf_model.proofs.Policing.{police_member}
use Rattle.cqf_model.proofs.Coming.{before_when, queued_front, queued_when}

module _ (run : Run) (carried : Carried) (l : ℕ) where
  -- what is queued before an instant has an earlier instant
  pub queued_early : (end : ℕ) (q : QueuedFrame) → Contains (queued_before run carried l end) q → q.arrival.at.0 < end
  queued_early end q h =
      let d = run.domain in
      let bridge = bridge_of d l in
      let w = contains_from_flat (λ (p : Policed). queued_by d l p.received p.verdict) (policed_before run carried bridge end) q h in
      let came = police_member d run.tables bridge [] (received_before run carried bridge end) w.0 w.1 in
      omega (arith, queued_when d l w.0.received w.0.verdict q w.2, before_when run carried bridge end w.0.received came)

  -- what is queued before a cycle's end is what is queued before its beginning, followed by what is queued in it
  pub queue_goes_on : (cycle : ℕ) →
      queued_before run carried l ((cycle + 1) * run.domain.cycle_time) ≡ queued_before run carried l (cycle * run.domain.cycle_time)
      ++ queued_in run carried l cycle
  queue_goes_on cycle =
      let d = run.domain in
      let n = d.cycle_time in
      let end = (cycle + 1) * n in
      let end_is : end ≡ cycle * n + n = omega arith in
      let earlier = queued_before run carried l (cycle * n) in
      let whole = queued_before run carried l end in
      let in_cycle = λ (x : QueuedFrame). cycle_of d x.arrival.at.0 == cycle in
      let front = queued_front run carried l (cycle * n) end (omega (arith, end_is)) in
      let none : filter in_cycle earlier ≡ [] =
      filter_none in_cycle earlier (λ q h.
      let before : cycle_of d q.arrival.at.0 < cycle = cycle_below n q.arrival.at.0 cycle (queued_early (cycle * n) q h) in
      ne_eqb (cycle_of d q.arrival.at.0) cycle (λ e. omega (arith, before, e))) in
      let all : filter in_cycle front.rest ≡ front.rest =
      filter_each in_cycle front.rest (λ q h.
      let of_whole : Contains whole q = subst (λ (xs : List QueuedFrame). Contains xs q) (sym front.is) (Contains-append_right earlier front.rest q h) in
      eq-eqb (cycle_of d q.arrival.at.0) cycle (cycle_is n cycle q.arrival.at.0 (front.late q h) (omega (arith, queued_early end q of_whole, end_is)))) in
      let kept : queued_in run carried l cycle ≡ front.rest =
      ap (filter in_cycle) front.is ∙ filter-append in_cycle earlier front.rest ∙ ap (λ (xs : List QueuedFrame). xs ++ filter in_cycle front.rest) none ∙ all in
      front.is ∙ ap (λ (xs : List QueuedFrame). earlier ++ xs) (sym kept)
