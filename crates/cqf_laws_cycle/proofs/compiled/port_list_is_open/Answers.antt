use Rattle.cqf_laws_cycle.proofs.GateLists.{port_list_opens}
use Rattle.cqf_laws_cycle.proofs.compiled.port_list_is_open.Goals as goal

pub returns : goal.returns
returns c = port_list_opens
