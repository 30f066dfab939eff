use Rattle.cqf_program_offers.proofs.Making.{plain_part}
use Rattle.cqf_program_offers.proofs.parts.requests_part.Goals as goal

pub returns-in-Ok-clause-ok : goal.returns-in-Ok-clause-ok
returns-in-Ok-clause-ok c = plain_part c.args.network.now c.args.planned c.args.document _ c.if-planned.false c.in-Ok.ensures.ok
