-- The ranges and the order of the arrivals that are read.
use Rattle.std.proofs.Common.{◌≡◌, ◌≤◌, ℕ, List, [], ◌∷◌, Option, Some, None, Ok, length, refl, subst}
use Rattle.cqf_model.specs.declared.ports.Arrival.{Arrival}
use Rattle.cqf_model.specs.Limits.{profile, rows_within}
use Rattle.cqf_report.specs.Arrivals.{arrival_header, arrival_instant, arrival_of, arrival_with, arrivals_of_table, AreArrivals, IsArrival}
use Rattle.cqf_report.specs.Records.{Fields, records_of}
use Rattle.cqf_report.specs.Table.{in_four}
use Rattle.cqf_report.proofs.ReadTables.{decimal_in-range, rows_under-few, rows_under-in_order, table-each}
use Rattle.cqf_text.specs.Decimal.{decimal_in}

-- an arrival that four fields write
arrival-with : (at class octets frame : Option ℕ) (arrival : Arrival)
    → ((n : ℕ) → at ≡ Some n → n ≤ 100000000) → ((n : ℕ) → class ≡ Some n → n ≤ 7) → ((n : ℕ) → octets ≡ Some n → (64 ≤ n) × (n ≤ 1522))
    → arrival_with at class octets frame ≡ Some arrival → IsArrival arrival
arrival-with None class octets frame arrival early classed sized e = cc
arrival-with (Some at) None octets frame arrival early classed sized e = cc
arrival-with (Some at) (Some class) None frame arrival early classed sized e = cc
arrival-with (Some at) (Some class) (Some octets) None arrival early classed sized e = cc
arrival-with (Some at) (Some class) (Some octets) (Some frame) arrival early classed sized e =
    let made : Arrival = record { at = record { 0 = at }; class = class; octets = octets; frame = frame } in
    let same : made ≡ arrival = cc in
    subst IsArrival same (record { class = classed class refl; early = early at refl; least = (sized octets refl).0; most = (sized octets refl).1 })

-- an arrival that a record writes may be given to a port
arrival-row : (fields : Fields) (arrival : Arrival) → in_four arrival_of fields ≡ Some arrival → IsArrival arrival
arrival-row [] arrival e = cc
arrival-row (a ∷ []) arrival e = cc
arrival-row (a ∷ b ∷ []) arrival e = cc
arrival-row (a ∷ b ∷ c ∷ []) arrival e = cc
arrival-row (at ∷ class ∷ octets ∷ frame ∷ []) arrival e =
    arrival-with (decimal_in 0 100000000 at) (decimal_in 0 7 class) (decimal_in 64 1522 octets) _ arrival
    (λ n is. (decimal_in-range 0 100000000 at n is).1) (λ n is. (decimal_in-range 0 7 class n is).1) (λ n is. decimal_in-range 64 1522 octets n is) e
arrival-row (a ∷ b ∷ c ∷ x ∷ y ∷ fields) arrival e = cc

-- the arrivals of a text are in their ranges and in order
pub arrivals-good : (text : List ℕ) (arrivals : List Arrival) → arrivals_of_table text ≡ Ok arrivals → AreArrivals arrivals
arrivals-good text arrivals e = record {
  each = table-each IsArrival (rows_within profile) (in_four arrival_of) arrival_instant arrival-row arrival_header (records_of text) arrivals e;
  in_order = rows_under-in_order (rows_within profile) arrival_header (in_four arrival_of) arrival_instant (records_of text) arrivals e;
}

-- and there are at most 1,000,000
pub arrivals-few : (text : List ℕ) (arrivals : List Arrival) → arrivals_of_table text ≡ Ok arrivals → length arrivals ≤ rows_within profile
arrivals-few text arrivals e = rows_under-few (rows_within profile) arrival_header (in_four arrival_of) arrival_instant (records_of text) arrivals e
