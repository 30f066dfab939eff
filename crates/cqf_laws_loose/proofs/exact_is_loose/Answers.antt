use Rattle.cqf_model.proofs.Links.{accepted_with}
use Rattle.cqf_laws_shift.proofs.CycleLaws.{cycle_laws}
use Rattle.cqf_laws_loose.proofs.Exact.{exact_has_its_slack, exact_is_loose}
use Rattle.cqf_laws_loose.proofs.exact_is_loose.Goals as goal

pub returns-clause-any : goal.returns-clause-any
returns-clause-any c =
    exact_is_loose
    (cycle_laws c.port_is_one_cycle_late.ensures c.streams_are_sent_as_alone.ensures c.gate_gives_class.ensures c.gate_counts_cycles.ensures)

pub returns-clause-stated : goal.returns-clause-stated
returns-clause-stated c =
    exact_has_its_slack
    (cycle_laws c.port_is_one_cycle_late.ensures c.streams_are_sent_as_alone.ensures c.gate_gives_class.ensures c.gate_counts_cycles.ensures)

pub returns-clause-accepted : goal.returns-clause-accepted
returns-clause-accepted c = accepted_with
