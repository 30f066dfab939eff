use Rattle.cqf_network_text.proofs.Ranges.{read_is_expressible}
use Rattle.cqf_network_text.proofs.laws.read_streams_are_expressible.Goals as goal

pub returns : goal.returns
returns c = read_is_expressible
