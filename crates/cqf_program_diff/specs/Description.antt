-- A plan, as it is compared.
use Rattle.std.specs.Prelude.{ℕ, List, [], ◌∷◌, Option, Result, Ok, map}
use Rattle.cqf_lists.specs.Results.{and_then}
use Rattle.cqf_admission.specs.Asking.{asked_by}
use Rattle.cqf_edge.specs.declared.edge.AccessTimes.{AccessTimes}
use Rattle.cqf_edge.specs.EdgeFlows.{EdgeFlowsText}
use Rattle.cqf_model.specs.declared.limits.Limits.{Limits}
use Rattle.cqf_model.specs.Domain.{Domain}
use Rattle.cqf_model.specs.History.{Asked, held_in}
use Rattle.cqf_program_plans.specs.Compile.Output.{admitted_from}
use Rattle.cqf_program_plans.specs.Edges.{open_edges_of_part}
use Rattle.cqf_program_plans.specs.Load.Access.{access_loads}
use Rattle.cqf_program_plans.specs.Reserving.{requests_at}
use Rattle.cqf_program_scenario.specs.Networks.{domain_of, network_of_part}
use Rattle.cqf_network.specs.NetworkDomain.{NetworkDomain}
use Rattle.cqf_program_diff.specs.Element.{ElementText}
use Rattle.cqf_program_diff.specs.Figures.{FiguresText, access_load_element, figures_of}
use Rattle.cqf_program_diff.specs.Network.{access_element, link_element, network_element, node_element}
use Rattle.cqf_program_diff.specs.Streams.{stream_elements}

-- its elements by kind, and its figures
pub record Description : Type 0 where
  pub network : List ElementText
  pub bridges : List ElementText
  pub stations : List ElementText
  pub links : List ElementText
  pub access : List ElementText
  pub streams : List ElementText
  pub latencies : List ElementText
  pub loads : List ElementText
  pub access_loads : List ElementText

abbrev pub description_with : NetworkDomain → EdgeFlowsText → FiguresText → Description
description_with network edge figures = let d = domain_of network in record {
  network = network_element d ∷ [];
  bridges = map node_element network.bridges;
  stations = map node_element network.stations;
  links = map (link_element d) network.links;
  access = map (access_element d) network.talkers;
  streams = stream_elements d network.talkers edge;
  latencies = figures.latencies;
  loads = figures.loads;
  access_loads = map access_load_element (access_loads network d.cycle_time edge.handed edge.flows);
}

-- the figures of a domain with all of these streams admitted before cycle 0, or the line of the first that isn't admitted
abbrev pub figures_for : Domain → List Asked → List (Option ℕ) → List (Option AccessTimes) → Result FiguresText (List ℕ)
figures_for d streams deadlines times = and_then (admitted_from d [] 1 streams) (λ entries. Ok (figures_of d (held_in d entries 0) deadlines times))

-- the description of a network with these streams, or the line of the first that reserves less than its traffic needs or isn't admitted
abbrev pub described_from : NetworkDomain → EdgeFlowsText → Result Description (List ℕ)
described_from network edge =
    and_then (requests_at (domain_of network) edge.flows) (λ requests.
    and_then (figures_for (domain_of network) (map asked_by requests) edge.deadlines edge.times) (λ figures.
    Ok (description_with network edge figures)))

-- that of the text of a plan, which is read within some limits; or the line of its first fault, as of `latency`
abbrev pub description_of : Limits → List ℕ → Result Description (List ℕ)
description_of limits text = and_then (network_of_part limits text) (λ network. and_then (open_edges_of_part network text) (described_from network))
