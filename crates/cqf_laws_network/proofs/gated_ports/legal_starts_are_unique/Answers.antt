use Rattle.cqf_laws_network.proofs.Settled.{legal_same}
use Rattle.cqf_laws_network.proofs.gated_ports.legal_starts_are_unique.Goals as goal

pub returns : goal.returns
returns c = legal_same
