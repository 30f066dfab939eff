-- What the description of a plan means.
use Rattle.cqf_program_diff.specs.declared.description.DescribedNetwork.{DescribedNetwork}
use Rattle.cqf_program_diff.specs.declared.description.OwnElements.{OwnElements}
use Rattle.cqf_program_diff.specs.Description.{Description}
use Rattle.cqf_program_diff.specs.Figures.{FiguresText}

-- its elements and figures
abbrev pub described : OwnElements → FiguresText → Description
described own figures = record {
  network = own.network.items;
  bridges = own.bridges.items;
  stations = own.stations.items;
  links = own.links.items;
  access = own.access.items;
  streams = own.streams.items;
  latencies = figures.latencies;
  loads = figures.loads;
  access_loads = own.access_loads.items;
}

abbrev pub description : DescribedNetwork → Description
description found = described found.own (record { latencies = found.figures.latencies.items; loads = found.figures.loads.items })
