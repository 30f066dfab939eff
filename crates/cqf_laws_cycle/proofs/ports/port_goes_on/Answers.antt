use Rattle.cqf_laws_cycle.proofs.Continued.{port_goes_on, queued_in_cycle}
use Rattle.cqf_laws_cycle.proofs.ports.port_goes_on.Goals as goal

pub returns-clause-queued : goal.returns-clause-queued
returns-clause-queued c = queued_in_cycle

pub returns-clause-goes_on : goal.returns-clause-goes_on
returns-clause-goes_on c = port_goes_on
