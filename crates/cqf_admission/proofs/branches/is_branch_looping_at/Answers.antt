use Rattle.std.proofs.Common.{refl, ap, not, sym, take, arith, ◌∙◌}
use Rattle.std.specs.Prelude.{is_none, string_bytes}
use Rattle.cqf_admission.specs.Branches.{branch_of}
use Rattle.cqf_admission.proofs.BranchLemmas.{looping_by_name, node_of_name, not_looping_past, not_looping_unknown}
use Rattle.cqf_admission.proofs.branches.is_branch_looping_at.Goals as goal

pub returns-then-index-branch : goal.returns-then-index-branch
returns-then-index-branch c = not_looping_past string_bytes c.args.domain.now c.args.branch.now c.args.index (omega arith)

pub returns-then-is_none : goal.returns-then-is_none
returns-then-is_none c =
    not_looping_unknown c.args.domain.now (branch_of c.args.branch.now) c.args.index
    (ap is_none (sym c.node_of.ensures) ∙ ap not c.if-is_none.ensures)

pub returns : goal.returns
returns c =
    let d = c.args.domain.now in
    let branch = c.args.branch.now in
    let name = c.index-branch-index.result in
    looping_by_name string_bytes d branch (take c.args.index branch) c.args.index name c.has_name.result (omega arith) c.index-branch-index.is
    (ap is_none (sym (node_of_name string_bytes d branch c.args.index name (omega arith) c.index-branch-index.is) ∙ sym c.node_of.ensures)
    ∙ ap not c.if-is_none.ensures) c.has_name.ensures refl
