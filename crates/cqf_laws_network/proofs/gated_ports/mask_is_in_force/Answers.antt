use Rattle.cqf_laws_network.proofs.Spans.{one_in_force, round_takes_time, some_in_force, states_of_entry}
use Rattle.cqf_laws_network.proofs.gated_ports.mask_is_in_force.Goals as goal

pub returns-clause-states : goal.returns-clause-states
returns-clause-states c = states_of_entry

pub returns-clause-round : goal.returns-clause-round
returns-clause-round c = round_takes_time

pub returns-clause-some : goal.returns-clause-some
returns-clause-some c = some_in_force

pub returns-clause-one : goal.returns-clause-one
returns-clause-one c = one_in_force
