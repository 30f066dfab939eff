use Rattle.cqf_laws_shift.proofs.Decided.{edge_is_covered}
use Rattle.cqf_laws_shift.proofs.edge.edge_is_covered.Goals as goal

pub returns : goal.returns
returns c = edge_is_covered c.gate_is_reservation.ensures
