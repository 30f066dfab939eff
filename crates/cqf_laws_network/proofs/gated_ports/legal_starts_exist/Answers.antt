use Rattle.cqf_laws_network.proofs.Exist.{legal_exist}
use Rattle.cqf_laws_network.proofs.gated_ports.legal_starts_exist.Goals as goal

pub returns : goal.returns
returns c = legal_exist
