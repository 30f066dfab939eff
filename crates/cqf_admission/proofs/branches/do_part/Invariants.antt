-- The names so far are the same.
use Rattle.std.proofs.Common.{◌≡◌, ◌-◌, drop, length}
use Rattle.cqf_model.specs.History.{part}
use Rattle.cqf_admission.specs.Branches.{branch_of}
use Rattle.cqf_admission.proofs.branches.do_part.Given as goal

abbrev pub invariant-loop-index : goal.invariant-loop-index
invariant-loop-index l = part (branch_of l.names) (branch_of l.others) ≡ part (branch_of (drop l.index l.names)) (branch_of (drop l.index l.others))

abbrev pub decreases-loop-index : goal.decreases-loop-index
decreases-loop-index l = length l.names - l.index
