use Rattle.cqf_laws_cycle.proofs.GateLists.{gate_gives}
use Rattle.cqf_laws_cycle.proofs.compiled.gate_gives_class.Goals as goal

pub returns : goal.returns
returns c = gate_gives
