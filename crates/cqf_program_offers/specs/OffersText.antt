-- Offers as a text: the header, and then a line for each offer.
use Rattle.std.specs.Prelude.{ℕ, ◌++◌, List, codes, decimal}
use Rattle.std.specs.List.{flat_map}
use Rattle.cqf_model.specs.declared.frames.Offer.{Offer}
use Rattle.cqf_model.specs.Domain.{Domain}
use Rattle.cqf_topology.specs.NodeNames.{name_of_bridge}

-- an offer: its instant, the name of its bridge, its stream and its octets
abbrev pub offer_line : Domain → Offer → List ℕ
offer_line d x =
    decimal x.at.0 ++ (codes "," ++ (name_of_bridge d x.bridge ++ (codes "," ++ (x.stream ++ (codes "," ++ (decimal x.octets ++ codes "\n"))))))

abbrev pub offers_text : Domain → List Offer → List ℕ
offers_text d offers = codes "at,bridge,stream,octets\n" ++ flat_map (offer_line d) offers
