-- The text of deliveries.
use Rattle.std.specs.Prelude.{ℕ, ◌++◌, List, [], ◌∷◌, Option, codes, decimal}
use Rattle.std.specs.List.{flat_map}
use Rattle.std.specs.Option.{option_map_or}
use Rattle.cqf_units.specs.declared.timing.Nanos.{Nanos}
use Rattle.cqf_report.specs.Books.{name_of_reason}
use Rattle.cqf_report.specs.Records.{Fields}
use Rattle.cqf_report.specs.Written.{line_of_fields}
use Rattle.cqf_program_plans.specs.Latency.Text.{text_of_deadline}
use Rattle.cqf_program_runs.specs.declared.deliveries.delivery.Passage.{Passage}
use Rattle.cqf_program_runs.specs.declared.deliveries.delivery.Passage.TheVariants as passage
use Rattle.cqf_program_runs.specs.declared.deliveries.delivery.Delivery.{Delivery}
use Rattle.cqf_program_runs.specs.declared.deliveries.delivery.Fate.{Fate}
use Rattle.cqf_program_runs.specs.declared.deliveries.delivery.Fate.TheVariants as fate
use Rattle.cqf_program_runs.specs.Deliveries.{fate_of, latency_of}

-- the header
abbrev pub deliveries_header : Fields
deliveries_header =
    codes "frame" ∷ codes "stream" ∷ codes "octets" ∷ codes "at" ∷ codes "listener" ∷ codes "whole" ∷ codes "latency" ∷ codes "deadline" ∷ codes "what" ∷ []

-- the word for what becomes of an offer; of a dropped offer, the reason's word
abbrev pub name_of_fate : Fate → List ℕ
name_of_fate fate.Delivered = codes "delivered"
name_of_fate fate.Late = codes "late"
name_of_fate fate.UnderWay = codes "under-way"
name_of_fate (fate.Dropped reason) = name_of_reason reason

-- the instant at which a frame is whole, the latency, and all fields of a passage; each is empty if it is absent
abbrev pub text_of_instant : Option Nanos → List ℕ
text_of_instant whole = option_map_or (λ (t : Nanos). decimal t.0) whole []

abbrev pub text_of_listeners_latency : ℕ → Option Nanos → List ℕ
text_of_listeners_latency at whole = option_map_or (λ (t : Nanos). decimal (latency_of at t)) whole []

abbrev pub passage_fields : ℕ → Passage → Fields → Fields
passage_fields at (passage.Dropped reason) fields = [] ∷ [] ∷ [] ∷ [] ∷ fields
passage_fields at (passage.Goes journey) fields =
    journey.listener ∷ text_of_instant journey.whole ∷ text_of_listeners_latency at journey.whole ∷ text_of_deadline journey.deadline ∷ fields

-- the fields of a delivery
abbrev pub delivery_fields : Delivery → Fields
delivery_fields delivery =
    decimal delivery.frame ∷ delivery.stream ∷ decimal delivery.octets ∷ decimal delivery.at.0
    ∷ passage_fields delivery.at.0 delivery.passage (name_of_fate (fate_of delivery) ∷ [])

-- one line for each delivery, in order
abbrev pub lines_of_deliveries : List Delivery → List ℕ
lines_of_deliveries deliveries = flat_map (λ (delivery : Delivery). line_of_fields (delivery_fields delivery)) deliveries

-- the text of deliveries: the header, and their lines
abbrev pub text_of_deliveries : List Delivery → List ℕ
text_of_deliveries deliveries = line_of_fields deliveries_header ++ lines_of_deliveries deliveries
