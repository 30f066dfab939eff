-- Properties of every offer that is read.
use Rattle.std.proofs.Common.{◌≡◌, ◌≤◌, ◌<◌, ℕ, Bool, true, false, List, [], ◌∷◌, Option, Some, None, Ok, if◌then◌else◌, length, refl, subst, arith}
use Rattle.std.proofs.lemmas.List.Quantifiers.{position-Some}
use Rattle.std.specs.Prelude.{position}
use Rattle.cqf_model.specs.declared.frames.Offer.{Offer}
use Rattle.cqf_model.specs.Domain.{Domain, is_text, node_named, node_or}
use Rattle.cqf_model.specs.Run.{AreOffers, IsOffer}
use Rattle.cqf_model.specs.Limits.{rows_within}
use Rattle.cqf_report.specs.Records.{Fields, records_of}
use Rattle.cqf_report.specs.Table.{in_four}
use Rattle.cqf_report.specs.Offers.{as_bridge, bridge_named, name_in, offer_header, offer_instant, offer_of, offer_with, offers_of}
use Rattle.cqf_report.proofs.ReadTables.{decimal_in-range, rows_under-few, table-each}
use Rattle.cqf_text.specs.Decimal.{decimal_in}
use Rattle.cqf_units.specs.Name.{is_name}

-- a node that is a bridge was found among the bridges
bridge-index : (o s : Option ℕ) (b : ℕ) → as_bridge (node_or o s) ≡ Some b → o ≡ Some b
bridge-index None None b e = cc
bridge-index None (Some s) b e = cc
bridge-index (Some a) s b e = e

-- a bridge that is found by name is one of the domain's
bridge-inside : (d : Domain) (name : List ℕ) (b : ℕ) → bridge_named d name ≡ Some b → b < length d.bridges
bridge-inside d name b e = by (is_name name) e
  where
    -- a bridge that is found is one of the domain's, whether the text is a name or not
    by : (test : Bool) → (if test then as_bridge (node_named d name) else None) ≡ Some b → b < length d.bridges
    by true e = (position-Some (λ (other : List ℕ). is_text other name) d.bridges b []
        (bridge-index (position (λ other. is_text other name) d.bridges) (position (λ other. is_text other name) d.stations) b e)).0
    by false e = cc

-- an offer with these parts may be given to a run
offer-with : (d : Domain) (at bridge : Option ℕ) (stream : Option (List ℕ)) (octets : Option ℕ) (offer : Offer)
    → ((n : ℕ) → at ≡ Some n → n ≤ 999999999999) → ((n : ℕ) → bridge ≡ Some n → n < length d.bridges) → ((n : ℕ) → octets ≡ Some n → (64 ≤ n) × (n ≤ 1522))
    → offer_with at bridge stream octets ≡ Some offer → IsOffer d offer
offer-with d None bridge stream octets offer early inside sized e = cc
offer-with d (Some at) None stream octets offer early inside sized e = cc
offer-with d (Some at) (Some bridge) None octets offer early inside sized e = cc
offer-with d (Some at) (Some bridge) (Some stream) None offer early inside sized e = cc
offer-with d (Some at) (Some bridge) (Some stream) (Some octets) offer early inside sized e =
    let made : Offer = record { at = record { 0 = at }; bridge = bridge; stream = stream; octets = octets } in
    let same : made ≡ offer = cc in
    subst (IsOffer d) same (record {
      at_bridge = inside bridge refl;
      least = (sized octets refl).0;
      most = (sized octets refl).1;
      early =
          omega (arith, early at refl);
    })

-- an offer that four fields write may be given to a run
offer-four : (d : Domain) (at bridge stream octets : List ℕ) (offer : Offer) → offer_of d at bridge stream octets ≡ Some offer → IsOffer d offer
offer-four d at bridge stream octets offer e =
    offer-with d (decimal_in 0 999999999999 at) (bridge_named d bridge) (name_in stream) (decimal_in 64 1522 octets) offer
    (λ n is. (decimal_in-range 0 999999999999 at n is).1) (λ n is. bridge-inside d bridge n is) (λ n is. decimal_in-range 64 1522 octets n is) e

-- so may one that a record writes
offer-row : (d : Domain) (fields : Fields) (offer : Offer) → in_four (offer_of d) fields ≡ Some offer → IsOffer d offer
offer-row d [] offer e = cc
offer-row d (a ∷ []) offer e = cc
offer-row d (a ∷ b ∷ []) offer e = cc
offer-row d (a ∷ b ∷ c ∷ []) offer e = cc
offer-row d (at ∷ bridge ∷ stream ∷ octets ∷ []) offer e = offer-four d at bridge stream octets offer e
offer-row d (a ∷ b ∷ c ∷ x ∷ y ∷ fields) offer e = cc

-- each offer of a text may be given to a run
pub offers-good : (d : Domain) (text : List ℕ) (offers : List Offer) → offers_of d text ≡ Ok offers → AreOffers d offers
offers-good d text offers e =
    table-each (IsOffer d) (rows_within d.limits) (in_four (offer_of d)) offer_instant (λ fields offer is. offer-row d fields offer is) offer_header (records_of text) offers e

-- there are at most as many as the domain's limits allow
pub offers-few : (d : Domain) (text : List ℕ) (offers : List Offer) → offers_of d text ≡ Ok offers → length offers ≤ rows_within d.limits
offers-few d text offers e = rows_under-few (rows_within d.limits) offer_header (in_four (offer_of d)) offer_instant (records_of text) offers e
