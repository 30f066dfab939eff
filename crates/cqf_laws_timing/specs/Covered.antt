-- What a conforming talker offers is covered.
use Rattle.std.specs.Prelude.{ℕ, ◌≡◌, ◌<◌, ◌≤◌, List, Bool, true, false, ◌==◌, ◌&&◌, Some, filter, Contains}
use Rattle.std.specs.Option.{option_map_or}
use Rattle.cqf_model.specs.declared.frames.Offer.{Offer}
use Rattle.cqf_model.specs.declared.frames.Offered.{Offered}
use Rattle.cqf_model.specs.declared.topology.Row.{Row}
use Rattle.cqf_model.specs.Domain.{cycle_of}
use Rattle.cqf_model.specs.Promise.{IsPolicedAs}
use Rattle.cqf_model.specs.Run.{Run}
use Rattle.cqf_model.specs.Shift.{IsCovered, offer_cycle, row_for}
use Rattle.cqf_model.specs.Table.{AreOrderly, begins_at, is_live, reserved_in, row_named, table_of}
use Rattle.cqf_model.specs.Policing.{Carried, Queued, numbered}
use Rattle.cqf_laws_timing.specs.Traffic.{Conforms, IsTraffic, Traffic, needed, offers_named}

-- an offer of the run names a stream that is live in its cycle, at the stream's first bridge: all that a covered offer has, except
-- for the octets
pub record IsAtItsEdge (run : Run) (x : Offered) (row : Row) : Type 0 where
  pub offered : Contains (numbered run.offers) x
  pub named : row_for run.domain run.tables x ≡ Some row
  pub live : is_live row (offer_cycle run.domain x) ≡ true
  pub first_bridge : begins_at run.domain row x.offer.bridge ≡ true

-- if all offers of the stream's name conform, and as much is reserved in the offer's cycle as is needed, the offer is covered
abbrev pub ConformingStreamIsCovered : Type 0
ConformingStreamIsCovered = (run : Run) (t : Traffic) (x : Offered) (row : Row) → 0 < run.domain.cycle_time → IsTraffic t →
    Conforms t (offers_named row.name run.offers) → needed run.domain.overhead run.domain.cycle_time t ≤ reserved_in row 0 (offer_cycle run.domain x) → IsAtItsEdge run x row → IsCovered run x row

-- a stream's own offers: those that name it at its first bridge while it is live. At another time, the name can be another stream's
abbrev pub is_own : Run → ℕ → Offer → Bool
is_own run number y = let cycle = cycle_of run.domain y.at.0 in
    option_map_or (λ (row : Row). (row.no == number) && is_live row cycle && begins_at run.domain row y.bridge)
    (row_named (table_of run.tables cycle) y.stream) false

abbrev pub own_offers : Run → ℕ → List Offer
own_offers run number = filter (is_own run number) run.offers

-- an offer is covered if the stream's own offers conform, and as much is reserved in its cycle as is needed
abbrev pub ConformingOwnIsCovered : Type 0
ConformingOwnIsCovered = (run : Run) (t : Traffic) (x : Offered) (row : Row) → 0 < run.domain.cycle_time → IsTraffic t →
    Conforms t (own_offers run row.no) → needed run.domain.overhead run.domain.cycle_time t ≤ reserved_in row 0 (offer_cycle run.domain x) → IsAtItsEdge run x row → IsCovered run x row

-- so the gates let the offer go on, regardless of what the links bring
abbrev pub ConformingStreamGoesOn : Type 0
ConformingStreamGoesOn = (run : Run) (carried : Carried) (end : ℕ) (t : Traffic) (x : Offered) (row : Row) → 0 < run.domain.cycle_time →
    AreOrderly run.domain run.tables → IsTraffic t → Conforms t (offers_named row.name run.offers) → needed run.domain.overhead run.domain.cycle_time t ≤ reserved_in row 0 (offer_cycle run.domain x) →
    IsAtItsEdge run x row → x.offer.at.0 < end → IsPolicedAs run carried end x (Queued row)
