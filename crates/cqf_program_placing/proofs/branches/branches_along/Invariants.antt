-- The branches of the paths so far.
use Rattle.std.proofs.Common.{◌≡◌, map, take}
use Rattle.cqf_admission.specs.Branches.{branches_of}
use Rattle.cqf_program_placing.specs.Placing.{names_along}
use Rattle.cqf_program_placing.proofs.branches.branches_along.Given as goal

abbrev pub invariant-loop-link_path : goal.invariant-loop-link_path
invariant-loop-link_path l = branches_of l.paths.items ≡ map (λ link_path. names_along l.domain l.bridge link_path.items) (take l.link_path-index l.link_paths)
