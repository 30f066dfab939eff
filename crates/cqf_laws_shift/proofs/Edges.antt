-- The gate of a reservation lets pass what the reservation has left.
use Rattle.std.proofs.Common.{◌≡◌, ℕ, ◌+◌, ◌<◌, ◌∷◌, [], List, Bool, true, false, sym, ap, ap₂, ◌∙◌, refl, filter, map}
use Rattle.std.proofs.Common.{sum_by, zero-add, ◌==◌, ◌&&◌, nat_le, if◌then◌else◌}
use Rattle.std.proofs.lemmas.Bool.{cond-true, cond-false}
use Rattle.std.proofs.lemmas.List.Sums.{sum_by-cons}
use Rattle.cqf_units.specs.Timing.{counted_of}
use Rattle.cqf_model.specs.declared.topology.Row.{Row}
use Rattle.cqf_model.specs.StreamGate.{PassedFrame, stream_list, octets_in, same_interval}
use Rattle.cqf_model.specs.Domain.{Domain, cycle_of}
use Rattle.cqf_model.specs.Policing.{Policed, came_by, calls_of, is_queued_of}
use Rattle.cqf_model.specs.Table.{hop_number_after, reserved_in}
use Rattle.cqf_model.proofs.Reservations.{within_reservation}
use Rattle.cqf_laws_cycle.specs.Compiled.{GateCountsCycles}
use Rattle.cqf_laws_shift.specs.Edge.{GateIsReservation, octets_before}

module _ (counts : GateCountsCycles) (d : Domain) (row : Row) (hop_number t : ℕ) (some : 0 < d.cycle_time) where
  -- the cycle time
  abbrev n : ℕ
  n = d.cycle_time

  -- what the gate counts of a call
  abbrev counted : PassedFrame → ℕ
  counted call = if same_interval (stream_list n row.octets row.pace hop_number) call.0 t then call.1 else 0

  -- what the reservation counts of a frame
  abbrev reserved : Policed → ℕ
  reserved q = if is_queued_of row.no q.verdict && (cycle_of d q.received.at == cycle_of d t) then counted_of d.overhead q.received.octets else 0

  -- the call that a frame makes to its gate
  abbrev call_of : Policed → PassedFrame
  call_of q = (q.received.at, counted_of d.overhead q.received.octets)

  -- whether a frame passed the gate
  abbrev kept : Policed → Bool
  kept q = is_queued_of row.no q.verdict

  -- one more frame, by whether it passed
  one_more : (p : Policed) (earlier : List Policed) (b : Bool) → kept p ≡ b → sum_by counted (map call_of (filter kept earlier)) ≡ sum_by reserved earlier →
      sum_by counted (map call_of (filter kept (p ∷ earlier))) ≡ sum_by reserved (p ∷ earlier)
  one_more p earlier true e rest =
      let kept_here : filter kept (p ∷ earlier) ≡ p ∷ filter kept earlier = cond-true (kept p) (p ∷ filter kept earlier) (filter kept earlier) e in
      let here : counted (call_of p) ≡ reserved p =
      ap (λ z. if z then counted_of d.overhead p.received.octets else 0)
      (counts n row.octets row.pace hop_number p.received.at t some ∙ sym (ap (λ z. z && (cycle_of d p.received.at == cycle_of d t)) e)) in
      ap (λ z. sum_by counted (map call_of z)) kept_here
      ∙ sum_by-cons counted (call_of p) (map call_of (filter kept earlier))
      ∙ ap₂ (λ a b. a + b) here rest
      ∙ sym (sum_by-cons reserved p earlier)
  one_more p earlier false e rest =
      let kept_here : filter kept (p ∷ earlier) ≡ filter kept earlier = cond-false (kept p) (p ∷ filter kept earlier) (filter kept earlier) e in
      let here : reserved p ≡ 0 = ap (λ z. if z && (cycle_of d p.received.at == cycle_of d t) then counted_of d.overhead p.received.octets else 0) e in
      ap (λ z. sum_by counted (map call_of z)) kept_here
      ∙ rest
      ∙ sym (sum_by-cons reserved p earlier ∙ ap (λ z. z + sum_by reserved earlier) here ∙ zero-add (sum_by reserved earlier))

  -- the octets that the gate counts are those of the cycle's frames that went on
  octets_counted : (earlier : List Policed) →
      octets_in (stream_list d.cycle_time row.octets row.pace hop_number) (calls_of d.overhead row.no earlier) t ≡ octets_before d row.no (cycle_of d t) earlier
  octets_counted [] = refl
  octets_counted (p ∷ earlier) = one_more p earlier (kept p) refl (octets_counted earlier)

-- the gate tests what the reservation has left
pub gate_is_reservation : GateCountsCycles → GateIsReservation
gate_is_reservation counts d earlier row x some =
    let hop_number = hop_number_after row (came_by x.ingress) in
    within_reservation d.cycle_time row.octets row.pace hop_number x.at some
    (octets_in (stream_list d.cycle_time row.octets row.pace hop_number) (calls_of d.overhead row.no earlier) x.at + counted_of d.overhead x.octets)
    ∙ ap (λ z. nat_le (z + counted_of d.overhead x.octets) (reserved_in row hop_number (cycle_of d x.at))) (octets_counted counts d row hop_number x.at some earlier)
