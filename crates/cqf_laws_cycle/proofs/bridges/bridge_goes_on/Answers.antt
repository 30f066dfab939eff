use Rattle.cqf_laws_cycle.proofs.Continued.{goes_on}
use Rattle.cqf_laws_cycle.proofs.bridges.bridge_goes_on.Goals as goal

pub returns : goal.returns
returns c = goes_on
