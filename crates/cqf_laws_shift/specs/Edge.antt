-- The edge: the stream gates of a bridge decide there what the reservations alone decide.
use Rattle.std.specs.Prelude.{true, ℕ, ◌≡◌, ◌+◌, ◌<◌, List, ◌==◌, ◌&&◌, if◌then◌else◌, nat_le, sum_by, Contains}
use Rattle.cqf_units.specs.Timing.{counted_of}
use Rattle.cqf_model.specs.declared.frames.Offered.{Offered}
use Rattle.cqf_model.specs.declared.topology.Row.{Row}
use Rattle.cqf_model.specs.Domain.{Domain, cycle_of}
use Rattle.cqf_model.specs.Run.{Run}
use Rattle.cqf_model.specs.Table.{AreOrderly, hop_number_after, is_live, reserved_in, table_of}
use Rattle.cqf_model.specs.Policing.{came_by, Carried, Received, Policed, Verdict, is_queued_of, numbered}
use Rattle.cqf_model.specs.Policing.{within_gate}
use Rattle.cqf_model.specs.Promise.{IsPolicedAs}
use Rattle.cqf_model.specs.Shift.{IsCovered, offer_cycle, offers_before, taken_by}

-- the octets that gates count of those frames of a row that went on in a cycle, among the earlier frames
abbrev pub octets_before : Domain → ℕ → ℕ → List Policed → ℕ
octets_before d number cycle earlier =
    sum_by (λ (p : Policed). if is_queued_of number p.verdict && (cycle_of d p.received.at == cycle) then counted_of d.overhead p.received.octets else 0) earlier

-- after any earlier frames, the gate of a reservation lets a frame pass exactly if, in the frame's cycle, the reservation has the octets left
-- that the gate counts of the frame. A reservation has octets only in the cycles in which frames at this hop number have their turn
abbrev pub GateIsReservation : Type 0
GateIsReservation = (d : Domain) (earlier : List Policed) (row : Row) (x : Received) → 0 < d.cycle_time →
    within_gate d earlier row x
    ≡ nat_le (octets_before d row.no (cycle_of d x.at) earlier + counted_of d.overhead x.octets)
    (reserved_in row (hop_number_after row (came_by x.ingress)) (cycle_of d x.at))

-- at any bridge, regardless of what the links bring, the verdict on each offer before the end is what the reservations decide,
-- including the reason
abbrev pub EdgeIsCovered : Type 0
EdgeIsCovered = (run : Run) (carried : Carried) (end : ℕ) (x : Offered) → 0 < run.domain.cycle_time → AreOrderly run.domain run.tables →
    Contains (numbered run.offers) x → x.offer.at.0 < end → (verdict : Verdict) × IsPolicedAs run carried end x verdict

-- the row covers the offer in this cycle
pub record IsCoveredIn (run : Run) (row : Row) (cycle : ℕ) (x : Offered) : Type 0 where
  pub covered : IsCovered run x row
  pub in_cycle : offer_cycle run.domain x ≡ cycle

-- `counts` gives the octets that gates count of each offer that the row covers in the cycle, and 0 for every other offer
pub record CountsCovered (run : Run) (row : Row) (cycle : ℕ) (counts : Offered → ℕ) : Type 0 where
  pub covered : (x : Offered) → IsCoveredIn run row cycle x → counts x ≡ counted_of run.domain.overhead x.offer.octets
  pub others : (x : Offered) → Contains (numbered run.offers) x → ¬ IsCoveredIn run row cycle x → counts x ≡ 0

-- what is taken of a reservation before an offer is the octets that gates count of the covered offers before it: the one number by which
-- "covered" is defined is the sum over the covered offers
abbrev pub TakenIsCovered : Type 0
TakenIsCovered = (run : Run) (row : Row) (cycle : ℕ) (x : Offered) (counts : Offered → ℕ) → AreOrderly run.domain run.tables →
    Contains (table_of run.tables cycle) row → is_live row cycle ≡ true → Contains (numbered run.offers) x → CountsCovered run row cycle counts →
    taken_by run.domain row cycle (offers_before run.offers x) ≡ sum_by counts (offers_before run.offers x)
