use Rattle.std.proofs.Common.{◌≡◌, take}
use Rattle.cqf_admission.specs.Branches.{branch_of}
use Rattle.cqf_program_placing.proofs.branches.copied_branch.Given as goal

abbrev pub invariant-loop-name : goal.invariant-loop-name
invariant-loop-name l = branch_of l.copies.items ≡ branch_of (take l.name-index l.names)
