use Rattle.cqf_laws_cycle.proofs.GateLists.{port_list_sends_until}
use Rattle.cqf_laws_cycle.proofs.compiled.port_list_sends.Goals as goal

pub returns : goal.returns
returns c = port_list_sends_until
