-- Offers that are made this way keep their talkers' promises.
use Rattle.std.specs.Prelude.{ℕ, ◌≡◌, ◌+◌, ◌*◌, ◌/◌, ◌%◌, ◌<◌, ◌≤◌, List, Contains, Option, Some, slice_get}
use Rattle.cqf_units.specs.Timing.{cycle_at}
use Rattle.cqf_model.specs.declared.frames.Offer.{Offer}
use Rattle.cqf_laws_timing.specs.Traffic.{Conforms, offers_named}
use Rattle.cqf_traffic.specs.TrafficText.{IsTrafficText, TrafficText, promise_of}
use Rattle.cqf_traffic.specs.declared.senders.TalkerStream.{TalkerStream}
use Rattle.cqf_traffic.specs.Offering.{offers_before}

-- no two streams have the same name
abbrev pub AreNamedApart : List TalkerStream → Type 0
AreNamedApart senders = (i k : ℕ) (a b : TalkerStream) → i < k → slice_get senders i ≡ Some a → slice_get senders k ≡ Some b → a.name ≡ b.name → ⊥

-- for every seed, and without one, all that is offered of a stream with traffic keeps its talker's promise; no two streams have the same
-- name
abbrev pub OffersConform : Type 0
OffersConform = (until : ℕ) (seed : Option ℕ) (senders : List TalkerStream) (sender : TalkerStream) (t : TrafficText) → AreNamedApart senders →
    Contains senders sender → sender.traffic ≡ Some t → IsTrafficText t → Conforms (promise_of t) (offers_named sender.name (offers_before until seed senders))

-- Each interval is a multiple of `every` cycles long. A frame that is late by the whole jitter comes in its cycle on the grid, even by a
-- clock that differs from the talker's by up to `sync`. Then all that is offered of the stream comes, by such a clock, in every `every`-th
-- cycle, counted from the cycle in which the stream's offers begin
abbrev pub OffersComeInActiveCycles : Type 0
OffersComeInActiveCycles = (until : ℕ) (seed : Option ℕ) (senders : List TalkerStream) (sender : TalkerStream) (t : TrafficText) (cycle_time every sync : ℕ) →
    AreNamedApart senders → Contains senders sender → sender.traffic ≡ Some t → 0 < cycle_time → 0 < every →
    t.interval % (every * cycle_time) ≡ 0 → sync ≤ t.offset % cycle_time → t.offset % cycle_time + t.jitter + sync < cycle_time →
    (x : Offer) → Contains (offers_named sender.name (offers_before until seed senders)) x →
    (at : ℕ) → x.at.0 ≤ at + sync → at ≤ x.at.0 + sync → cycle_at cycle_time at % every ≡ t.offset / cycle_time % every
