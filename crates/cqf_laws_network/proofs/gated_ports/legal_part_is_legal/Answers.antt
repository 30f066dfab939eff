use Rattle.cqf_laws_network.proofs.Alike.{came_same}
use Rattle.cqf_laws_network.proofs.Settled.{part_legal, part_legal_past}
use Rattle.cqf_laws_network.proofs.gated_ports.legal_part_is_legal.Goals as goal

pub returns-clause-part : goal.returns-clause-part
returns-clause-part c rules arrivals earlier end starts within legal =
    part_legal rules arrivals arrivals earlier end starts within (λ t l. came_same t arrivals) legal

pub returns-clause-same_past : goal.returns-clause-same_past
returns-clause-same_past c = part_legal_past
