use Rattle.std.proofs.Common.{◌+◌, ◌≤◌, inl, inr, arith, sym}
use Rattle.std.proofs.lemmas.Bool.{cases_lt}
use Rattle.cqf_admission.specs.Branches.{branches_of, indices_of}
use Rattle.cqf_admission.proofs.BranchLemmas.{indices_within}
use Rattle.cqf_admission.proofs.branches.count_indices.Goals as goal

pub returns-in_err-count : goal.returns-in_err-count
returns-in_err-count c =
    let within = indices_within c.args.paths.now c.loop-branch.branch-index c.branch-item.result c.loop-branch-test.true (sym c.branch-item.is) in
    let many : 18446744073709551616 ≤ indices_of (branches_of c.args.paths.now) =
    elim (cases_lt (c.loop-branch.count + c.len.result) 18446744073709551616) [
      | inl less ↦ absurd (c.in_err-count.ensures less)
      | inr more ↦ omega (arith, more, within, c.loop-branch.invariant, c.len.ensures)
    ] in
    rw c.from_residual.ensures many
