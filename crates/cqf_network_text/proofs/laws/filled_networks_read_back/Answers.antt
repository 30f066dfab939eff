use Rattle.cqf_network_text.proofs.NetworkReading.{filled_reads_back}
use Rattle.cqf_network_text.proofs.laws.filled_networks_read_back.Goals as goal

pub returns : goal.returns
returns c = filled_reads_back
