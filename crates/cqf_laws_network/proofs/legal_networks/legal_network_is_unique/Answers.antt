use Rattle.cqf_laws_network.proofs.Networks.{network_same}
use Rattle.cqf_laws_network.proofs.legal_networks.legal_network_is_unique.Goals as goal

pub returns : goal.returns
returns c run lists cycles = network_same run lists cycles c.only_the_past_counts.ensures
