-- The commands of the calls so far are listed.
use Rattle.std.proofs.Common.{◌≡◌, ◌++◌, map}
use Rattle.std.specs.Vec.Iter.{into_iter_items}
use Rattle.cqf_admission.specs.Script.{called_of}
use Rattle.cqf_program_scenario.specs.Parted.{acts_of_each}
use Rattle.cqf_program_scenario.specs.Parting.{AreCommandsBy}
use Rattle.cqf_program_scenario.proofs.parting.commands_by.Given as goal

abbrev pub invariant-loop-call : goal.invariant-loop-call
invariant-loop-call l =
    (l.yielded ++ into_iter_items l.call-iterator ≡ l.fn.calls.items)
    × AreCommandsBy (map called_of l.yielded) l.admins (acts_of_each l.lists.items)
