use Rattle.cqf_laws_cycle.proofs.ByFrame.{by_frame}
use Rattle.cqf_laws_cycle.proofs.Continued.{drops_of_the_cycle}
use Rattle.cqf_laws_cycle.proofs.bridges.drops_are_of_the_cycle.Goals as goal

pub returns-clause-among : goal.returns-clause-among
returns-clause-among c = drops_of_the_cycle

pub returns-clause-sorted : goal.returns-clause-sorted
returns-clause-sorted c = by_frame
