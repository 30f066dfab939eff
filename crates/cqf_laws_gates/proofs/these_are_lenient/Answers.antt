use Rattle.cqf_laws_shift.proofs.Edges.{gate_is_reservation}
use Rattle.cqf_laws_gates.proofs.SomeGates.{these_are_lenient}
use Rattle.cqf_laws_gates.proofs.these_are_lenient.Goals as goal

pub returns : goal.returns
returns c = these_are_lenient (gate_is_reservation c.gate_counts_cycles.ensures)
