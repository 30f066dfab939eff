-- Some inner gates that are lenient.
use Rattle.std.proofs.Common.{◌≡◌, ℕ, ◌+◌, ◌<◌, ◌≤◌, true, Option, Some, None, refl, sym, ◌∙◌, arith}
use Rattle.std.specs.Prelude.{nat_le}
use Rattle.std.proofs.lemmas.Bool.{le-leb, leb-true}
use Rattle.cqf_units.specs.Timing.{counted_of}
use Rattle.cqf_model.specs.Domain.{Domain, cycle_of}
use Rattle.cqf_model.specs.StreamGate.{within}
use Rattle.cqf_model.specs.Table.{hop_number_after, reserved_in}
use Rattle.cqf_model.specs.Policing.{came_by}
use Rattle.cqf_laws_shift.specs.Edge.{GateIsReservation, octets_before}
use Rattle.cqf_laws_gates.specs.InnerGates.{AreLenient, HaveRoom, InnerLimits, counting_gates}
use Rattle.cqf_laws_gates.specs.LenientLaws.{TheseAreLenient}

-- what is within a reservation is within a limit that has room for it
within_more : (limit : Option ℕ) (reserved octets : ℕ) → ((most : ℕ) → limit ≡ Some most → reserved ≤ most) → nat_le octets reserved ≡ true →
    within limit octets ≡ true
within_more None reserved octets room fits = refl
within_more (Some most) reserved octets room fits = le-leb octets most (omega (arith, leb-true octets reserved fits, room most refl))

-- gates that count to at least what the streams reserve are lenient
counting : GateIsReservation → (d : Domain) (limit : InnerLimits) → 0 < d.cycle_time → HaveRoom limit → AreLenient d (counting_gates d limit)
counting reservation d limit some room bridge earlier row x passed =
    let hop_number = hop_number_after row (came_by x.ingress) in
    let cycle = cycle_of d x.at in
    within_more (limit bridge row hop_number cycle) (reserved_in row hop_number cycle)
    (octets_before d row.no cycle earlier + counted_of d.overhead x.octets)
    (λ most e. room bridge row hop_number cycle most e) (sym (reservation d earlier row x some) ∙ passed)

-- the law
pub these_are_lenient : GateIsReservation → TheseAreLenient
these_are_lenient reservation = record {
  own = λ d bridge earlier row x passed. passed;
  none = λ d bridge earlier row x passed. refl;
  counting = counting reservation;
}
