use Rattle.std.proofs.Common.{◌∙◌, List, ℕ, ap, arith, map}
use Rattle.cqf_edge.specs.EdgeValues.{edges_text}
use Rattle.cqf_network.specs.declared.domain.TalkerLink.{TalkerLink}
use Rattle.cqf_program_plans.specs.Load.Access.{access_loads}
use Rattle.cqf_program_diff.specs.declared.description.OwnElements.{OwnElements}
use Rattle.cqf_program_diff.specs.Figures.{access_load_element}
use Rattle.cqf_program_diff.specs.Network.{access_element, link_element, node_element}
use Rattle.cqf_program_diff.specs.Streams.{stream_elements}
use Rattle.cqf_program_diff.proofs.Own.{own_is}
use Rattle.cqf_program_diff.proofs.description.own_elements.Goals as goal

pub access_loads-requires : goal.access_loads-requires
access_loads-requires c = omega (arith, c.cycle_time-time.ensures.value, c.cycle_time-time.ensures.accepted.cycle_most)

pub returns : goal.returns
returns c =
    let network = c.args.network.now in
    let d = c.args.domain.now in
    let edge = edges_text c.args.edge.now in
    let own : OwnElements = record {
      network = c.in_ok-itself.itself;
      bridges = c.in_ok-bridges.bridges;
      stations = c.in_ok-stations.stations;
      links = c.in_ok-links.links;
      access = c.in_ok-access.access;
      streams = c.in_ok-streams.streams;
      access_loads = c.in_ok-access_loads.access_loads;
    } in
    own_is network d edge own c.requires (record {
      network_is = c.in_ok-itself.ensures;
      bridges_are = c.in_ok-bridges.ensures ∙ ap (map node_element) c.as_slice-bridge_names.ensures ∙ ap (map node_element) c.bridges-bridge_list.ensures;
      stations_are = c.in_ok-stations.ensures ∙ ap (map node_element) c.as_slice-station_names.ensures ∙ ap (map node_element) c.stations-station_list.ensures;
      links_are = c.in_ok-links.ensures ∙ ap (map (link_element d)) c.links-all_links.ensures;
      access_is = c.in_ok-access.ensures ∙ ap (map (access_element d)) c.talkers-talkers.ensures.value;
      streams_are = c.in_ok-streams.ensures ∙ ap (λ (talkers : List TalkerLink). stream_elements d talkers edge) c.talkers-talkers.ensures.value;
      loads_are = c.in_ok-access_loads.ensures ∙ ap (map access_load_element) (c.as_slice-taken_links.ensures.value ∙ c.in_ok-taken.ensures.value
          ∙ ap (λ (time : ℕ). access_loads network time edge.handed edge.flows) c.cycle_time-time.ensures.value);
    })
