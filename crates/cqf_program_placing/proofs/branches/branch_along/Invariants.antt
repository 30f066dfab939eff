-- The names so far: those of the bridge, and of the nodes that the links so far end in.
use Rattle.std.proofs.Common.{◌≡◌, take}
use Rattle.cqf_admission.specs.Branches.{branch_of}
use Rattle.cqf_program_placing.specs.Placing.{names_along}
use Rattle.cqf_program_placing.proofs.branches.branch_along.Given as goal

abbrev pub invariant-loop-link : goal.invariant-loop-link
invariant-loop-link l = branch_of l.names.items ≡ names_along l.domain l.bridge (take l.link-index l.link_path)
