use Rattle.std.proofs.Common.{◌∙◌, ◌+◌, sym, arith, below_more, length, map}
use Rattle.std.specs.Prelude.{string_bytes}
use Rattle.cqf_model.specs.History.{is_broken_at}
use Rattle.cqf_admission.proofs.BranchLemmas.{least_found, least_none_from}
use Rattle.cqf_admission.proofs.branches.broken_index.Goals as goal

pub returns-then-is_branch_broken_at : goal.returns-then-is_branch_broken_at
returns-then-is_branch_broken_at c =
    least_found (is_broken_at c.args.domain.now (map string_bytes c.args.branch.now)) (length c.args.branch.now + 1) c.loop-index.index (omega arith)
    (sym c.is_branch_broken_at.ensures ∙ c.if-is_branch_broken_at.true) c.loop-index.invariant

pub loop-index-preserved : goal.loop-index-preserved
loop-index-preserved c = below_more _ _ c.loop-index.invariant (sym c.is_branch_broken_at.ensures ∙ c.if-is_branch_broken_at.false)

pub returns : goal.returns
returns c =
    least_none_from (is_broken_at c.args.domain.now (map string_bytes c.args.branch.now)) (length c.args.branch.now + 1)
    (λ k h. c.loop-index.invariant k (omega (arith, h)))
