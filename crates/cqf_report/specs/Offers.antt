-- Offers as a text.
use Rattle.std.specs.Prelude.{ℕ, List, [], ◌∷◌, Option, Some, None, Result, codes, if◌then◌else◌}
use Rattle.cqf_units.specs.Name.{is_name}
use Rattle.cqf_model.specs.declared.frames.Offer.{Offer}
use Rattle.cqf_model.specs.declared.topology.Node.{Node}
use Rattle.cqf_model.specs.declared.topology.Node.TheVariants.{Bridge, Station}
use Rattle.cqf_model.specs.Domain.{Domain, node_named}
use Rattle.cqf_text.specs.Decimal.{decimal_in}
use Rattle.cqf_report.specs.Records.{Fields}
use Rattle.cqf_model.specs.Limits.{rows_within}
use Rattle.cqf_report.specs.Table.{in_four, table_read}
use Rattle.cqf_report.specs.declared.tables.TableFault.{TableFault}

-- the header of a table of offers
abbrev pub offer_header : Fields
offer_header = codes "at" ∷ codes "bridge" ∷ codes "stream" ∷ codes "octets" ∷ []

-- the number of the node, if it is a bridge
abbrev pub as_bridge : Option Node → Option ℕ
as_bridge None = None
as_bridge (Some (Bridge b)) = Some b
as_bridge (Some (Station s)) = None

-- the bridge with a name. A text that doesn't have the form of a name names no bridge
abbrev pub bridge_named : Domain → List ℕ → Option ℕ
bridge_named d name = if is_name name then as_bridge (node_named d name) else None

-- a text, if it has the form of a name
abbrev pub name_in : List ℕ → Option (List ℕ)
name_in name = if is_name name then Some name else None

-- the offer, if all of its parts are there
abbrev pub offer_with : Option ℕ → Option ℕ → Option (List ℕ) → Option ℕ → Option Offer
offer_with None bridge stream octets = None
offer_with (Some at) None stream octets = None
offer_with (Some at) (Some bridge) None octets = None
offer_with (Some at) (Some bridge) (Some stream) None = None
offer_with (Some at) (Some bridge) (Some stream) (Some octets) = Some (record { at = record { 0 = at }; bridge = bridge; stream = stream; octets = octets })

-- the offer that four fields write: an instant before 1,000,000,000,000, a bridge of the domain, any name of a stream, and a size that
-- Ethernet allows (IEEE 802.3)
abbrev pub offer_of : Domain → List ℕ → List ℕ → List ℕ → List ℕ → Option Offer
offer_of d at bridge stream octets =
    offer_with (decimal_in 0 999999999999 at) (bridge_named d bridge) (name_in stream) (decimal_in 64 1522 octets)

-- the instant of an offer
abbrev pub offer_instant : Offer → ℕ
offer_instant offer = offer.at.0

-- the offers that a text writes, in order, or its first fault
abbrev pub offers_of : Domain → List ℕ → Result (List Offer) TableFault
offers_of d text = table_read (rows_within d.limits) offer_header (in_four (offer_of d)) offer_instant text
