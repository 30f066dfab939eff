use Rattle.cqf_laws_network.proofs.Settled.{past_counts}
use Rattle.cqf_laws_network.proofs.gated_ports.only_the_past_counts.Goals as goal

pub returns : goal.returns
returns c = past_counts
