use Rattle.std.proofs.Common.{◌+◌, ◌∙◌, sym, arith, length, map}
use Rattle.std.specs.Prelude.{string_bytes}
use Rattle.cqf_model.specs.History.{is_loop_at}
use Rattle.cqf_admission.proofs.BranchLemmas.{least_found, least_none_from}
use Rattle.cqf_admission.proofs.branches.looping_index.Goals as goal

pub returns-then-is_branch_looping_at : goal.returns-then-is_branch_looping_at
returns-then-is_branch_looping_at c =
    least_found (is_loop_at c.args.domain.now (map string_bytes c.args.branch.now)) (length c.args.branch.now + 1) c.loop-index.index (omega arith)
    (sym c.is_branch_looping_at.ensures ∙ c.if-is_branch_looping_at.true) c.loop-index.invariant

pub returns : goal.returns
returns c =
    least_none_from (is_loop_at c.args.domain.now (map string_bytes c.args.branch.now)) (length c.args.branch.now + 1)
    (λ k h. c.loop-index.invariant k (omega (arith, h)))
