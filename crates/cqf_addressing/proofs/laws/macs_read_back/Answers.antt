use Rattle.cqf_addressing.proofs.MacLemmas.{reads_back}
use Rattle.cqf_addressing.proofs.laws.macs_read_back.Goals as goal

pub returns : goal.returns
returns c = reads_back
