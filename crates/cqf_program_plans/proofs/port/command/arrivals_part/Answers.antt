use Rattle.cqf_program_plans.proofs.PortLemmas.{AreOfferable-read}
use Rattle.cqf_program_plans.proofs.port.command.arrivals_part.Goals as goal

pub returns-in-Ok-clause-order : goal.returns-in-Ok-clause-order
returns-in-Ok-clause-order c = AreOfferable-read c.in-Ok.arrivals.items c.in-Ok.ensures.good
