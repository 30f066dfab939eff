use Rattle.cqf_laws_cycle.proofs.OnePorts.{port_is_one_cycle_late}
use Rattle.cqf_laws_cycle.proofs.port.port_is_one_cycle_late.Goals as goal

pub returns : goal.returns
returns c = port_is_one_cycle_late
