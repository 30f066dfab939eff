use Rattle.std.proofs.Common.{subst}
use Rattle.cqf_port.specs.NextStart.{StartsNoMore}
use Rattle.cqf_bridge.specs.PortRecord.{PortRecord}
use Rattle.cqf_bridge.proofs.outgoing.Outgoing.next_start.Goals as goal

pub returns-in-None : goal.returns-in-None
returns-in-None c = subst (λ (r : PortRecord). StartsNoMore r.port) c.self.view_is c.in-None.ensures
