use Rattle.cqf_plain.proofs.ByLink.{ends_in}
use Rattle.cqf_plain.proofs.handing.bridge_at_end.Goals as goal

pub returns-in-Bridge-clause-some : goal.returns-in-Bridge-clause-some
returns-in-Bridge-clause-some c =
    ends_in c.args.domain.now c.args.link c.in-Bridge.bridge c.link.result c.know.ensures.accepted c.link.ensures c.in-Bridge.is
