-- The arrivals of a port as a text.
use Rattle.std.specs.Prelude.{ℕ, ◌≤◌, ◌-◌, ◌^◌, All, AllPairs, List, [], ◌∷◌, Option, Some, None, Result, codes}
use Rattle.cqf_model.specs.declared.ports.Arrival.{Arrival}
use Rattle.cqf_text.specs.Decimal.{decimal_in}
use Rattle.cqf_report.specs.Records.{Fields}
use Rattle.cqf_model.specs.Limits.{profile, rows_within}
use Rattle.cqf_report.specs.Table.{in_four, table_read}
use Rattle.cqf_report.specs.declared.tables.TableFault.{TableFault}
use Rattle.cqf_model.specs.Limits.{last_until}

-- the header of a table of arrivals
abbrev pub arrival_header : Fields
arrival_header = codes "at" ∷ codes "class" ∷ codes "octets" ∷ codes "frame" ∷ []

-- the arrival, if all of its numbers are there
abbrev pub arrival_with : Option ℕ → Option ℕ → Option ℕ → Option ℕ → Option Arrival
arrival_with None class octets frame = None
arrival_with (Some at) None octets frame = None
arrival_with (Some at) (Some class) None frame = None
arrival_with (Some at) (Some class) (Some octets) None = None
arrival_with (Some at) (Some class) (Some octets) (Some frame) = Some (record { at = record { 0 = at }; class = class; octets = octets; frame = frame })

-- the arrival that a row writes: four numbers, each in its range
abbrev pub arrival_of : List ℕ → List ℕ → List ℕ → List ℕ → Option Arrival
arrival_of at class octets frame =
    arrival_with (decimal_in 0 last_until at) (decimal_in 0 7 class) (decimal_in 64 1522 octets) (decimal_in 0 (2 ^ 32 - 1) frame)

-- the instant of an arrival
abbrev pub arrival_instant : Arrival → ℕ
arrival_instant arrival = arrival.at.0

-- the arrivals that a text writes, in order, or its first fault
abbrev pub arrivals_of_table : List ℕ → Result (List Arrival) TableFault
arrivals_of_table text = table_read (rows_within profile) arrival_header (in_four arrival_of) arrival_instant text

-- the ranges of an arrival that is read; and of all arrivals, which are also in order of instant
pub record IsArrival (arrival : Arrival) : Type 0 where
  pub class : arrival.class ≤ 7
  pub early : arrival.at.0 ≤ last_until
  pub least : 64 ≤ arrival.octets
  pub most : arrival.octets ≤ 1522

pub record AreArrivals (arrivals : List Arrival) : Type 0 where
  pub each : All IsArrival arrivals
  pub in_order : AllPairs (λ (a b : Arrival). a.at.0 ≤ b.at.0) arrivals
