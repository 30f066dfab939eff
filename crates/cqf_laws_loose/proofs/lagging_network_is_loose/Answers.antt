use Rattle.cqf_laws_loose.proofs.Lagging.{lagging_is_loose}
use Rattle.cqf_laws_loose.proofs.lagging_network_is_loose.Goals as goal

pub returns : goal.returns
returns c = lagging_is_loose
