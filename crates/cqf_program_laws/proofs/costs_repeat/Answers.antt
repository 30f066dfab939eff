use Rattle.cqf_program_laws.proofs.Repeated.{held_costs_repeat, listed_costs_repeat}
use Rattle.cqf_program_laws.proofs.costs_repeat.Goals as goal

pub returns-clause-listed : goal.returns-clause-listed
returns-clause-listed c = listed_costs_repeat

pub returns-clause-held : goal.returns-clause-held
returns-clause-held c = held_costs_repeat
