-- A plan by itself.
use Rattle.std.proofs.Common.{◌≡◌, ◌∙◌, ◌∷◌, [], List, ap, map, subst, sym}
use Rattle.cqf_edge.specs.EdgeFlows.{EdgeFlowsText}
use Rattle.cqf_model.specs.Domain.{Domain}
use Rattle.cqf_network.specs.NetworkDomain.{NetworkDomain}
use Rattle.cqf_program_plans.specs.Load.Access.{access_loads}
use Rattle.cqf_program_scenario.specs.Networks.{domain_of}
use Rattle.cqf_program_diff.specs.declared.description.OwnElements.{OwnElements}
use Rattle.cqf_program_diff.specs.Description.{description_with}
use Rattle.cqf_program_diff.specs.DescriptionValues.{described}
use Rattle.cqf_program_diff.specs.Figures.{FiguresText, access_load_element}
use Rattle.cqf_program_diff.specs.Network.{access_element, link_element, network_element, node_element}
use Rattle.cqf_program_diff.specs.Streams.{stream_elements}

-- the elements are those of a network, whose domain this is, with its streams
pub record AreOwn (network : NetworkDomain) (d : Domain) (edge : EdgeFlowsText) (own : OwnElements) : Type 0 where
  pub network_is : own.network.items ≡ network_element d ∷ []
  pub bridges_are : own.bridges.items ≡ map node_element network.bridges
  pub stations_are : own.stations.items ≡ map node_element network.stations
  pub links_are : own.links.items ≡ map (link_element d) network.links
  pub access_is : own.access.items ≡ map (access_element d) network.talkers
  pub streams_are : own.streams.items ≡ stream_elements d network.talkers edge
  pub loads_are : own.access_loads.items ≡ map access_load_element (access_loads network d.cycle_time edge.handed edge.flows)

own_of : (network : NetworkDomain) (edge : EdgeFlowsText) (own : OwnElements) → AreOwn network (domain_of network) edge own → (figures : FiguresText)
    → described own figures ≡ description_with network edge figures
own_of network edge own are figures = λ i. record {
  network = are.network_is i;
  bridges = are.bridges_are i;
  stations = are.stations_are i;
  links = are.links_are i;
  access = are.access_is i;
  streams = are.streams_are i;
  latencies = figures.latencies;
  loads = figures.loads;
  access_loads = are.loads_are i;
}

pub own_is : (network : NetworkDomain) (d : Domain) (edge : EdgeFlowsText) (own : OwnElements) → d ≡ domain_of network → AreOwn network d edge own
    → (figures : FiguresText) → described own figures ≡ description_with network edge figures
own_is network d edge own is are figures = own_of network edge own (subst (λ (domain : Domain). AreOwn network domain edge own) is are) figures
