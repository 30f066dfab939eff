use Rattle.cqf_laws_history.proofs.Ends.{ends_are_soon, ring_finds_those_that_end, seal_lets_go_those_that_end}
use Rattle.cqf_laws_history.proofs.seals.seal_empties_a_slot.Goals as goal

pub returns-clause-lets_go : goal.returns-clause-lets_go
returns-clause-lets_go c = seal_lets_go_those_that_end

pub returns-clause-soon : goal.returns-clause-soon
returns-clause-soon c = ends_are_soon

pub returns-clause-slot : goal.returns-clause-slot
returns-clause-slot c = ring_finds_those_that_end
