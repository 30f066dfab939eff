use Rattle.std.proofs.Common.{◌∙◌, ◌==◌, ap, sym}
use Rattle.std.specs.List.{list_any}
use Rattle.cqf_model.specs.declared.topology.Hop.{Hop}
use Rattle.cqf_admission.proofs.TreeLemmas.{far_added, far_kept}
use Rattle.cqf_admission.proofs.trees.add_hop.Goals as goal

pub returns-then-has_link : goal.returns-then-has_link
returns-then-has_link c whole far =
    far_kept c.args.tree.now.items whole c.args.hop
    (ap (list_any (λ (kept : Hop). kept.link == c.args.hop.link)) (sym c.as_slice.ensures.value) ∙ sym c.has_link.ensures ∙ c.if-has_link.true) far

pub returns : goal.returns
returns c whole far =
    far_added c.args.tree.now.items c.push.new.self.items whole c.args.hop
    (ap (list_any (λ (kept : Hop). kept.link == c.args.hop.link)) (sym c.as_slice.ensures.value) ∙ sym c.has_link.ensures ∙ c.if-has_link.false)
    c.push.ensures.items far
