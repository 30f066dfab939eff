-- What becomes of the offers of a run, by its book: the drop of an offer, or when its frame is whole at each listener
-- of its stream.
pub mod Output
pub mod Text
pub mod Reading
pub mod UnderWay
pub mod Deadlines
pub mod ByVerdict
pub mod Ending
pub mod Following
pub mod PlannedScenario
pub mod ArrivalLaws
pub mod BookLaws
use Rattle.std.specs.Prelude.{ℕ, ◌-◌, ◌==◌, ◌&&◌, List, [], ◌∷◌, Option, Some, None, find, if◌then◌else◌, length, map, nat_lt, option_map}
use Rattle.std.specs.List.{flat_map}
use Rattle.std.specs.Option.{option_and_then}
use Rattle.cqf_units.specs.declared.timing.Nanos.{Nanos}
use Rattle.cqf_model.specs.declared.frames.Dropped.{Dropped}
use Rattle.cqf_model.specs.declared.frames.Offered.{Offered}
use Rattle.cqf_model.specs.declared.frames.Started.{Started}
use Rattle.cqf_model.specs.declared.topology.Hop.{Hop}
use Rattle.cqf_model.specs.declared.topology.Row.{Row}
use Rattle.cqf_model.specs.Book.{Contents}
use Rattle.cqf_model.specs.Domain.{Domain, is_text}
use Rattle.cqf_model.specs.Run.{Run}
use Rattle.cqf_model.specs.Shift.{offer_cycle, row_for}
use Rattle.cqf_model.specs.Policing.{numbered}
use Rattle.cqf_topology.specs.PlannedText.{PlannedText}
use Rattle.cqf_topology.specs.NodeNames.{name_of_bridge}
use Rattle.cqf_laws_timing.specs.Latency.{whole_of}
use Rattle.cqf_program_plans.specs.EndNames.{name_of_end}
use Rattle.cqf_program_plans.specs.Latency.Text.{listeners_of}
use Rattle.cqf_program_runs.specs.declared.deliveries.delivery.Passage.{Passage}
use Rattle.cqf_program_runs.specs.declared.deliveries.delivery.Passage.TheVariants as passage
use Rattle.cqf_program_runs.specs.declared.deliveries.delivery.Delivery.{Delivery}
use Rattle.cqf_program_runs.specs.declared.deliveries.delivery.Fate.{Fate}
use Rattle.cqf_program_runs.specs.declared.deliveries.delivery.Fate.TheVariants as fate

-- the deadline of the frames of a name: that of the first stream with this name
abbrev pub deadline_named : List PlannedText → List ℕ → Option ℕ
deadline_named streams name =
    option_and_then (λ (planned : PlannedText). planned.1) (find (λ (planned : PlannedText). is_text planned.0.name name) streams)

-- a frame's drop and its start on a link, in a book
abbrev pub drop_of : List Dropped → ℕ → Option Dropped
drop_of drops frame = find (λ (dropped : Dropped). dropped.frame == frame) drops

abbrev pub start_on : List Started → ℕ → ℕ → Option Started
start_on starts frame link = find (λ (s : Started). (s.frame == frame) && (s.link == link)) starts

-- when a frame that starts is whole at the link's end
abbrev pub whole_instant : Domain → Started → Nanos
whole_instant d s = record { 0 = whole_of d s }

-- an offer with what becomes of it
abbrev pub delivery_of : Domain → Offered → Passage → Delivery
delivery_of d x what = record {
  frame = x.frame;
  stream = x.offer.stream;
  octets = x.offer.octets;
  at = x.offer.at;
  bridge = name_of_bridge d x.offer.bridge;
  passage = what;
}

-- when a frame is whole at the end of a link, if it starts on that link
abbrev pub whole_on : Domain → List Started → ℕ → ℕ → Option Nanos
whole_on d starts frame link = option_map (whole_instant d) (start_on starts frame link)

-- the delivery to the listener at the end of a hop: when the frame is whole there, and its deadline
abbrev pub delivery_to : Domain → (ℕ → Option Nanos) → Option ℕ → Offered → Hop → Delivery
delivery_to d whole deadline x hop =
    delivery_of d x (passage.Goes (record { listener = name_of_end d hop.link; whole = whole hop.link; deadline = deadline }))

-- the deliveries to each listener of a row, in the order of its branches
abbrev pub deliveries_to : Domain → (ℕ → Option Nanos) → Option ℕ → Offered → Row → List Delivery
deliveries_to d whole deadline x row = map (delivery_to d whole deadline x) (listeners_of d row)

-- the same for an optional row; none without a row
abbrev pub deliveries_by : Domain → (ℕ → Option Nanos) → Option ℕ → Offered → Option Row → List Delivery
deliveries_by d whole deadline x None = []
deliveries_by d whole deadline x (Some row) = deliveries_to d whole deadline x row

-- the drop of an offer, if it is dropped; otherwise its delivery to each listener
abbrev pub deliveries_unless : Run → List PlannedText → Contents → Offered → Option Dropped → List Delivery
deliveries_unless run streams book x (Some dropped) = delivery_of run.domain x (passage.Dropped dropped.reason) ∷ []
deliveries_unless run streams book x None =
    deliveries_by run.domain (whole_on run.domain book.starts x.frame) (deadline_named streams x.offer.stream) x (row_for run.domain run.tables x)

-- the deliveries of an offer; none if its cycle isn't run
abbrev pub deliveries_of_offer : Run → List PlannedText → Contents → Offered → List Delivery
deliveries_of_offer run streams book x =
    if nat_lt (offer_cycle run.domain x) (length run.tables) then deliveries_unless run streams book x (drop_of book.drops x.frame) else []

-- the deliveries of all offers, by frame number
abbrev pub deliveries_of : Run → List PlannedText → Contents → List Delivery
deliveries_of run streams book = flat_map (deliveries_of_offer run streams book) (numbered run.offers)

-- how long a frame takes from its offer until it is whole
abbrev pub latency_of : ℕ → Nanos → ℕ
latency_of at whole = whole.0 - at

-- whether a frame that is whole at an instant is delivered or late
abbrev pub arrival_at_listener : ℕ → Nanos → Option ℕ → Fate
arrival_at_listener at whole None = fate.Delivered
arrival_at_listener at whole (Some deadline) = if nat_lt deadline (latency_of at whole) then fate.Late else fate.Delivered

-- a frame that isn't whole within the run is under way
abbrev pub end_of_journey : ℕ → Option Nanos → Option ℕ → Fate
end_of_journey at None deadline = fate.UnderWay
end_of_journey at (Some whole) deadline = arrival_at_listener at whole deadline

abbrev pub end_of_passage : ℕ → Passage → Fate
end_of_passage at (passage.Dropped reason) = fate.Dropped reason
end_of_passage at (passage.Goes journey) = end_of_journey at journey.whole journey.deadline

-- what becomes of a delivery's frame
abbrev pub fate_of : Delivery → Fate
fate_of delivery = end_of_passage delivery.at.0 delivery.passage
