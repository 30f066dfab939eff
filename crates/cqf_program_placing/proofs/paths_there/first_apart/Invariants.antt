-- The first name to which no path leads is among the rest.
use Rattle.std.proofs.Common.{◌≡◌, drop}
use Rattle.cqf_program_placing.specs.Settled.{first_apart}
use Rattle.cqf_program_placing.proofs.paths_there.first_apart.Given as goal

abbrev pub invariant-loop-name : goal.invariant-loop-name
invariant-loop-name l = first_apart l.at.plan.now l.bridge (drop l.name-index l.names) ≡ first_apart l.at.plan.now l.bridge l.names
