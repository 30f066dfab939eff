use Rattle.cqf_laws_network.proofs.Networks.{network_exists}
use Rattle.cqf_laws_network.proofs.legal_networks.legal_network_exists.Goals as goal

pub returns : goal.returns
returns c run lists cycles =
    network_exists run lists cycles c.legal_part_is_legal.ensures.same_past c.only_the_past_counts.ensures c.legal_starts_exist.ensures
