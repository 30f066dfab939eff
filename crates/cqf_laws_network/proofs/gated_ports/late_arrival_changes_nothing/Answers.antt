use Rattle.cqf_model.proofs.Arrivals.{one_more_legal}
use Rattle.cqf_laws_network.proofs.gated_ports.late_arrival_changes_nothing.Goals as goal

pub returns : goal.returns
returns c = one_more_legal
