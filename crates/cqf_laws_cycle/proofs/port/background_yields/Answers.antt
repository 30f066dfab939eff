use Rattle.cqf_laws_cycle.proofs.OnePorts.{background_yields}
use Rattle.cqf_laws_cycle.proofs.port.background_yields.Goals as goal

pub returns : goal.returns
returns c = background_yields
