use Rattle.cqf_laws_shift.proofs.Edges.{gate_is_reservation}
use Rattle.cqf_laws_shift.proofs.edge.gate_is_reservation.Goals as goal

pub returns : goal.returns
returns c = gate_is_reservation c.gate_counts_cycles.ensures
