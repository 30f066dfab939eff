use Rattle.std.proofs.Common.{◌≡◌, ◌+◌, fold, ap, sym, subst, arith, length, drop, take, [], refl, List}
use Rattle.std.specs.Prelude.{String, Vec}
use Rattle.std.specs.List.{flat_map}
use Rattle.std.proofs.lemmas.List.{take_all}
use Rattle.std.specs.declared.alloc.Global.{Global}
use Rattle.cqf_model.specs.History.{hops_along}
use Rattle.cqf_admission.specs.Branches.{AreAsFarAsRoom, AreNodes, branch_of, branches_of, keep_link}
use Rattle.cqf_admission.proofs.NodeLemmas.{nodes_here, nodes_next, one_branch_more}
use Rattle.cqf_admission.proofs.TreeLemmas.{few_here}
use Rattle.cqf_admission.proofs.trees.tree_along.Goals as goal

pub add_branch-requires-clause-few_nodes : goal.add_branch-requires-clause-few_nodes
add_branch-requires-clause-few_nodes c =
    omega (
      arith,
      few_here c.args.paths.now c.loop-branch.branch-index c.branch-item.result c.requires.few c.loop-branch-test.true (sym c.branch-item.is),
      c.as_slice.ensures.len,
      ap (λ (xs : List (String Global)). length xs) c.as_slice.ensures.value,
    )

pub add_branch-requires-clause-nodes : goal.add_branch-requires-clause-nodes
add_branch-requires-clause-nodes c =
    subst (λ (xs : List (String Global)). AreNodes c.args.domain.now (branch_of xs) c.loop-branch.rest.now) (sym c.as_slice.ensures.value)
    (nodes_here c.args.domain.now c.args.paths.now c.loop-branch.branch-index c.branch-item.result c.loop-branch.rest.now
    c.loop-branch-test.true (sym c.branch-item.is) c.loop-branch.invariant.1)

pub loop-branch-preserved : goal.loop-branch-preserved
loop-branch-preserved c =
    let d = c.args.domain.now in
    let index = c.loop-branch.branch-index in
    let branch = c.branch-item.result in
    let counted : c.len.result ≡ length branch.items =
    omega (arith, c.len.ensures, c.as_slice.ensures.len, ap (λ (xs : List (String Global)). length xs) c.as_slice.ensures.value) in
    let whole = fold keep_link [] (flat_map (hops_along d) (branches_of (take index c.args.paths.now))) in
    let far = subst (λ (xs : List (String Global)). AreAsFarAsRoom c.add_branch.new.tree.items (fold keep_link whole (hops_along d (branch_of xs))))
    c.as_slice.ensures.value (c.add_branch.ensures whole c.loop-branch.invariant.0) in (
      subst (AreAsFarAsRoom c.add_branch.new.tree.items)
          (one_branch_more d c.args.paths.now index branch whole (fold keep_link whole (hops_along d (branch_of branch.items))) c.loop-branch-test.true
          (sym c.branch-item.is) refl refl) far,
      subst (AreNodes d (flat_map (λ b. b) (branches_of (drop (index + 1) c.args.paths.now)))) (sym c.nodes_after-rest.ensures)
          (nodes_next d c.args.paths.now index branch c.loop-branch.rest.now c.loop-branch-test.true (sym c.branch-item.is) c.loop-branch.invariant.1
          c.len.result counted),
    )

pub returns : goal.returns
returns c =
    let paths = c.args.paths.now in
    subst (λ (ps : List (Vec (String Global) Global)). AreAsFarAsRoom c.loop-branch.tree.items
    (fold keep_link [] (flat_map (hops_along c.args.domain.now) (branches_of ps))))
    (take_all c.loop-branch.branch-index paths (omega (arith, c.loop-branch-test.false))) c.loop-branch.invariant.0
