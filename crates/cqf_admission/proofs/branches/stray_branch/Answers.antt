use Rattle.std.proofs.Common.{◌∙◌, sym, arith, below_more, length}
use Rattle.cqf_model.specs.History.{is_stray}
use Rattle.cqf_admission.specs.Branches.{branches_of}
use Rattle.cqf_admission.proofs.BranchLemmas.{least_found, least_none_from}
use Rattle.cqf_admission.proofs.branches.stray_branch.Goals as goal

pub returns-then-is_branch_stray : goal.returns-then-is_branch_stray
returns-then-is_branch_stray c =
    least_found (is_stray (branches_of c.args.paths.now)) (length c.args.paths.now) c.loop-number.number (omega arith)
    (sym c.is_branch_stray.ensures ∙ c.if-is_branch_stray.true) c.loop-number.invariant

pub loop-number-preserved : goal.loop-number-preserved
loop-number-preserved c = below_more _ _ c.loop-number.invariant (sym c.is_branch_stray.ensures ∙ c.if-is_branch_stray.false)

pub returns : goal.returns
returns c =
    least_none_from (is_stray (branches_of c.args.paths.now)) (length c.args.paths.now) (λ k h. c.loop-number.invariant k (omega (arith, h)))
