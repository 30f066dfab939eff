-- The deliveries of offers by the verdicts on them.
use Rattle.std.specs.Prelude.{ℕ, ◌∷◌, [], List, Option, if◌then◌else◌, nat_lt}
use Rattle.std.specs.List.{flat_map}
use Rattle.cqf_units.specs.declared.timing.Nanos.{Nanos}
use Rattle.cqf_model.specs.declared.frames.Offered.{Offered}
use Rattle.cqf_model.specs.Domain.{Domain}
use Rattle.cqf_model.specs.Shift.{offer_cycle}
use Rattle.cqf_model.specs.Policing.{DroppedFor, ExceedsGate, LacksRow, Queued, Verdict}
use Rattle.cqf_program_runs.specs.declared.deliveries.delivery.Passage.TheVariants as passage
use Rattle.cqf_program_runs.specs.declared.deliveries.delivery.Delivery.{Delivery}
use Rattle.cqf_program_runs.specs.Deliveries.{deliveries_to, delivery_of}

-- what is known of frames: the deadline by name, and when a frame is whole at the end of a link
pub record Known : Type 0 where
  pub due : List ℕ → Option ℕ
  pub whole : ℕ → ℕ → Option Nanos

-- what is known of frames, from these deadlines and instants
abbrev pub known_by : (List ℕ → Option ℕ) → (ℕ → ℕ → Option Nanos) → Known
known_by due whole = record { due = due; whole = whole }

-- the deliveries of an offer: one to each listener of the row by which it goes on, or its drop
abbrev pub deliveries_for : Domain → Known → Offered → Verdict → List Delivery
deliveries_for d known x (Queued row) = deliveries_to d (known.whole x.frame) (known.due x.offer.stream) x row
deliveries_for d known x (DroppedFor reason) = delivery_of d x (passage.Dropped reason) ∷ []
deliveries_for d known x LacksRow = []
deliveries_for d known x ExceedsGate = []

-- the deliveries of an offer; none if its cycle isn't run
abbrev pub deliveries_within : Domain → ℕ → Known → (Offered → Verdict) → Offered → List Delivery
deliveries_within d cycles known verdict x = if nat_lt (offer_cycle d x) cycles then deliveries_for d known x (verdict x) else []

-- the deliveries of a list of offers
abbrev pub deliveries_of_all : Domain → ℕ → Known → (Offered → Verdict) → List Offered → List Delivery
deliveries_of_all d cycles known verdict offers = flat_map (deliveries_within d cycles known verdict) offers
