-- The branches so far pass the check, their names are counted, and the nodes that are left are those of the other branches.
use Rattle.std.proofs.Common.{drop}
use Rattle.std.specs.List.{flat_map}
use Rattle.cqf_admission.specs.Branches.{AreNodes, branches_of}
use Rattle.cqf_admission.proofs.FaultLemmas.{HavePassed}
use Rattle.cqf_admission.proofs.branches.first_fault_of.Given as goal

abbrev pub invariant-loop-branch : goal.invariant-loop-branch
invariant-loop-branch l =
    HavePassed l.domain l.check l.paths l.branch-index l.before × AreNodes l.domain (flat_map (λ b. b) (branches_of (drop l.branch-index l.paths))) l.rest
