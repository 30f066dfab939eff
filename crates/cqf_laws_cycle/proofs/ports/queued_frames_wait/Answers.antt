use Rattle.cqf_laws_cycle.proofs.PortCycles.{queued_waits}
use Rattle.cqf_laws_cycle.proofs.ports.queued_frames_wait.Goals as goal

pub returns : goal.returns
returns c = queued_waits c.gate_gives_class.ensures c.port_list_is_open.ensures
