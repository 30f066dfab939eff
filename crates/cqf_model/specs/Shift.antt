-- The meaning of a domain: which offers are covered, and which frame leaves on which link in which cycle. The definition has no queue,
-- gate, class, port or instant of sending.
use Rattle.std.specs.Prelude.{ℕ, ◌≡◌, ◌+◌, ◌<◌, ◌≤◌, ◌++◌, List, Bool, true, false, ◌==◌, ◌&&◌, if◌then◌else◌, nat_le, nat_lt, filter, fold, Option, Some, None}
use Rattle.std.specs.Prelude.{Contains}
use Rattle.cqf_units.specs.Timing.{counted_of}
use Rattle.cqf_lists.specs.Lists.{each_below}
use Rattle.cqf_model.specs.declared.frames.Offer.{Offer}
use Rattle.cqf_model.specs.declared.frames.Offered.{Offered}
use Rattle.cqf_model.specs.declared.frames.Reason.{Reason}
use Rattle.cqf_model.specs.declared.frames.Reason.TheVariants.{Unknown, Withdrawn, OtherBridge, Octets}
use Rattle.cqf_model.specs.declared.topology.Row.{Row}
use Rattle.cqf_model.specs.Domain.{Domain, cycle_of, is_text}
use Rattle.cqf_model.specs.Run.{Run}
use Rattle.cqf_model.specs.Table.{IsHop, begins_at, is_live, reserved_in, row_named, table_of}
use Rattle.cqf_model.specs.Policing.{numbered}

-- the offers at an instant, in order of number
abbrev pub offers_at : List Offer → ℕ → List Offered
offers_at offers t = filter (λ (x : Offered). x.offer.at.0 == t) (numbered offers)

-- the offers before one, in order of instant, then number
abbrev pub offers_before : List Offer → Offered → List Offered
offers_before offers x = let t = x.offer.at.0 in
    each_below (offers_at offers) t ++ filter (λ (y : Offered). nat_lt y.frame x.frame) (offers_at offers t)

-- the cycle of an offer
abbrev pub offer_cycle : Domain → Offered → ℕ
offer_cycle d x = cycle_of d x.offer.at.0

-- whether an offer claims octets of the row's reservation in a cycle: it is in the cycle, has the stream's name, and is at the stream's
-- first bridge
abbrev pub claims : Domain → Row → ℕ → Offered → Bool
claims d row cycle x = (offer_cycle d x == cycle) && is_text row.name x.offer.stream && begins_at d row x.offer.bridge

-- the octets taken of a row's reservation in a cycle after one more offer: an offer that claims no more than is left takes those of its
-- octets that gates count, and any other offer takes none
abbrev pub take_octets : Domain → Row → ℕ → ℕ → Offered → ℕ
take_octets d row cycle taken x =
    if claims d row cycle x && nat_le (taken + counted_of d.overhead x.offer.octets) (reserved_in row 0 cycle)
    then taken + counted_of d.overhead x.offer.octets
    else taken

-- the octets that the covered ones among these offers take of a row's reservation in a cycle, one offer after the other
abbrev pub taken_by : Domain → Row → ℕ → List Offered → ℕ
taken_by d row cycle offers = fold (take_octets d row cycle) 0 offers

-- the row that an offer names, in the table of its cycle
abbrev pub row_for : Domain → List (List Row) → Offered → Option Row
row_for d tables x = row_named (table_of tables (offer_cycle d x)) x.offer.stream

-- the octets that an offer would take together with those before it of its row and cycle
abbrev pub asked_with : Domain → List Offer → Offered → Row → ℕ
asked_with d offers x row = taken_by d row (offer_cycle d x) (offers_before offers x) + counted_of d.overhead x.offer.octets

-- the offer is covered by the row
pub record IsCovered (run : Run) (x : Offered) (row : Row) : Type 0 where
  pub offered : Contains (numbered run.offers) x
  pub named : row_for run.domain run.tables x ≡ Some row
  pub live : is_live row (offer_cycle run.domain x) ≡ true
  pub first_bridge : begins_at run.domain row x.offer.bridge ≡ true
  pub within : asked_with run.domain run.offers x row ≤ reserved_in row 0 (offer_cycle run.domain x)

-- the row that an offer names isn't live in the offer's cycle
pub record IsNotLive (run : Run) (x : Offered) (row : Row) : Type 0 where
  pub named : row_for run.domain run.tables x ≡ Some row
  pub not_live : is_live row (offer_cycle run.domain x) ≡ false

-- the row that an offer names is live, but its tree begins at another bridge
pub record BeginsElsewhere (run : Run) (x : Offered) (row : Row) : Type 0 where
  pub named : row_for run.domain run.tables x ≡ Some row
  pub live : is_live row (offer_cycle run.domain x) ≡ true
  pub elsewhere : begins_at run.domain row x.offer.bridge ≡ false

-- the row that an offer names is live and begins at the offer's bridge, but has fewer octets left than the offer has
pub record IsShort (run : Run) (x : Offered) (row : Row) : Type 0 where
  pub named : row_for run.domain run.tables x ≡ Some row
  pub live : is_live row (offer_cycle run.domain x) ≡ true
  pub first_bridge : begins_at run.domain row x.offer.bridge ≡ true
  pub short : reserved_in row 0 (offer_cycle run.domain x) < asked_with run.domain run.offers x row

-- the reason is the first one that applies to an offer that isn't covered
abbrev pub IsReason : Run → Offered → Reason → Type 0
IsReason run x Unknown = row_for run.domain run.tables x ≡ None
IsReason run x Withdrawn = (row : Row) × IsNotLive run x row
IsReason run x OtherBridge = (row : Row) × BeginsElsewhere run x row
IsReason run x Octets = (row : Row) × IsShort run x row

-- an offer of the run that isn't covered, with its reason. Whoever uses this must require that the offer's cycle is within the run: after
-- the last table every name is unknown, and a later offer is in no book
pub record IsUncovered (run : Run) (x : Offered) (reason : Reason) : Type 0 where
  pub offered : Contains (numbered run.offers) x
  pub is_reason : IsReason run x reason

-- the frame is covered, and leaves on a link of its stream's tree as many cycles after its own cycle as the link's hop number says
pub record InShift (run : Run) (cycles frame link cycle : ℕ) : Type 0 where
  pub x : Offered
  pub row : Row
  pub hop_number : ℕ
  pub covered : IsCovered run x row
  pub is_frame : frame ≡ x.frame
  pub is_hop : IsHop row hop_number link
  pub is_cycle : cycle ≡ offer_cycle run.domain x + hop_number
  pub within_run : cycle < cycles
