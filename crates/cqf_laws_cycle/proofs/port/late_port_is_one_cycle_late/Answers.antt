use Rattle.cqf_laws_cycle.proofs.LatePorts.{late_port_is_one_cycle_late}
use Rattle.cqf_laws_cycle.proofs.port.late_port_is_one_cycle_late.Goals as goal

pub returns : goal.returns
returns c = late_port_is_one_cycle_late
