use Rattle.cqf_laws_relay.proofs.Hindmost.{some_link_can_go_on}
use Rattle.cqf_laws_relay.proofs.some_link_can_go_on.Goals as goal

pub returns : goal.returns
returns c = some_link_can_go_on
