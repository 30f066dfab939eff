use Rattle.cqf_laws_network.proofs.Came.{bridges_by_past, ports_by_past}
use Rattle.cqf_laws_network.proofs.Ports.{port_by_past}
use Rattle.cqf_laws_network.proofs.legal_networks.the_past_alone_matters.Goals as goal

pub returns-clause-sends : goal.returns-clause-sends
returns-clause-sends c = port_by_past c.only_the_past_counts.ensures

pub returns-clause-bridges : goal.returns-clause-bridges
returns-clause-bridges c = bridges_by_past

pub returns-clause-ports : goal.returns-clause-ports
returns-clause-ports c = ports_by_past
