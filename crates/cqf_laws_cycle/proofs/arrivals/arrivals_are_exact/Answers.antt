use Rattle.cqf_laws_cycle.proofs.CameToBridge.{bridges_receive_what_comes}
use Rattle.cqf_laws_cycle.proofs.CameToPort.{ports_get_what_comes, verdicts_are_on_what_comes}
use Rattle.cqf_laws_cycle.proofs.arrivals.arrivals_are_exact.Goals as goal

pub returns-clause-bridges : goal.returns-clause-bridges
returns-clause-bridges c = bridges_receive_what_comes

pub returns-clause-verdicts : goal.returns-clause-verdicts
returns-clause-verdicts c = verdicts_are_on_what_comes

pub returns-clause-ports : goal.returns-clause-ports
returns-clause-ports c = ports_get_what_comes
