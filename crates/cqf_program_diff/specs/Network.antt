-- The elements of a network other than its streams.
use Rattle.std.specs.Prelude.{ℕ, ◌++◌, List, [], ◌∷◌, codes, decimal, map}
use Rattle.cqf_model.specs.declared.topology.Link.{Link}
use Rattle.cqf_model.specs.declared.topology.Node.TheVariants.{Station}
use Rattle.cqf_model.specs.Domain.{Domain}
use Rattle.cqf_program_plans.specs.Load.Fitting.{megabits_of}
use Rattle.cqf_network.specs.declared.domain.TalkerLink.{TalkerLink}
use Rattle.cqf_topology.specs.NodeNames.{ends_of_link, name_of_bridge, name_of_node}
use Rattle.cqf_program_diff.specs.Element.{ElementText}
use Rattle.cqf_program_diff.specs.Texts.{delay_text, optional_text}

-- the network itself, which has no name
abbrev pub network_element : Domain → ElementText
network_element d = record { name = []; values = decimal d.cycle_time ∷ decimal d.guard ∷ decimal d.sync ∷ decimal d.overhead ∷ [] }

-- a bridge or a station
abbrev pub node_element : List ℕ → ElementText
node_element name = record { name = name; values = [] }

-- a link that begins at a bridge
abbrev pub link_element : Domain → Link → ElementText
link_element d link = record {
  name = ends_of_link d link;
  values = decimal (megabits_of link.rate) ∷ delay_text link.least link.delay ∷ optional_text link.guard ∷ [] ∷ [];
}

-- an access link
abbrev pub access_name : Domain → TalkerLink → List ℕ
access_name d link = name_of_node d (Station link.station) ++ (codes ">" ++ name_of_bridge d link.bridge)

abbrev pub access_element : Domain → TalkerLink → ElementText
access_element d link = record {
  name = access_name d link;
  values = decimal (megabits_of link.rate) ∷ delay_text link.least link.delay ∷ [] ∷ optional_text link.other ∷ [];
}
