-- There are this many lists without a command.
use Rattle.std.proofs.Common.{[]}
use Rattle.cqf_program_scenario.specs.Parted.{acts_of_each}
use Rattle.cqf_program_scenario.specs.Parting.{AreCommandsBy}
use Rattle.cqf_program_scenario.proofs.parting.no_commands.Given as goal

abbrev pub invariant-loop-admin : goal.invariant-loop-admin
invariant-loop-admin l = AreCommandsBy [] l._admin (acts_of_each l.lists.items)
