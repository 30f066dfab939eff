use Rattle.std.proofs.Common.{◌≡◌, take}
use Rattle.cqf_admission.specs.Branches.{branches_of}
use Rattle.cqf_program_placing.proofs.branches.copied_branches.Given as goal

abbrev pub invariant-loop-path : goal.invariant-loop-path
invariant-loop-path l = branches_of l.copies.items ≡ branches_of (take l.path-index l.paths)
