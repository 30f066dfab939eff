use Rattle.std.proofs.Common.{◌≡◌, ◌∙◌, ◌+◌, ℕ, Option, Some, None, sym, subst, arith}
use Rattle.std.specs.Prelude.{suc}
use Rattle.arrayvec.specs.ArrayVec.{ArrayVec}
use Rattle.cqf_model.specs.declared.topology.Hop.{Hop}
use Rattle.cqf_admission.specs.Branches.{branch_of}
use Rattle.cqf_admission.proofs.TreeLemmas.{AreAdded, none_more, one_added}
use Rattle.cqf_admission.proofs.trees.add_branch.Goals as goal
use Rattle.cqf_admission.proofs.trees.add_branch.Goals.{in-Some, in_default}

pub loop-index-preserved : goal.loop-index-preserved
loop-index-preserved c =
    let d = c.args.domain.now in
    let branch = branch_of c.args.branch.now in
    let first = c.args.tree.now.items in
    let index = c.loop-index.index in
    let next : suc index ≡ index + 1 = omega arith in
    subst (λ (k : ℕ). AreAdded d branch first c.match-link.tree.items k c.match-link.link) next (elim c.match-link.branch [
      | in-Some w ↦ (let more = one_added d branch first c.loop-index.tree.items w.add_hop.new.tree.items index c.loop-index.before c.loop-index.invariant w.in-Some.link
          (sym c.link_after-link.ensures ∙ w.in-Some.is) w.add_hop.ensures in
          subst (λ (o : Option ℕ). AreAdded d branch first c.match-link.tree.items (suc index) o) (sym w.link-is)
          (subst (λ (t : ArrayVec Hop). AreAdded d branch first t.items (suc index) (Some w.in-Some.link)) (sym w.tree-is) more))
      | in_default w ↦ (let more = none_more d branch first c.loop-index.tree.items c.loop-index.tree.items index c.loop-index.before c.loop-index.invariant (sym c.link_after-link.ensures ∙ w.in_default.is) in
          subst (λ (o : Option ℕ). AreAdded d branch first c.match-link.tree.items (suc index) o) (sym (w.link-is ∙ w.in_default.is))
          (subst (λ (t : ArrayVec Hop). AreAdded d branch first t.items (suc index) None) (sym w.tree-is) more))
    ])
