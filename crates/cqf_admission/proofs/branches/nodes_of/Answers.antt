use Rattle.std.proofs.Common.{◌∙◌, ap, arith, fold, [], List}
use Rattle.std.specs.Prelude.{String, Vec}
use Rattle.std.specs.List.{flat_map}
use Rattle.std.proofs.lemmas.List.{take_all}
use Rattle.std.specs.declared.alloc.Global.{Global}
use Rattle.cqf_admission.specs.Branches.{branches_of, with_node}
use Rattle.cqf_admission.proofs.NodeLemmas.{looked_up}
use Rattle.cqf_admission.proofs.branches.nodes_of.Goals as goal

pub returns : goal.returns
returns c =
    looked_up c.args.domain.now (flat_map (λ b. b) (branches_of c.args.paths.now)) c.loop-branch.nodes.items
    (c.loop-branch.invariant ∙ ap (λ (ps : List (Vec (String Global) Global)). fold (with_node c.args.domain.now) [] (flat_map (λ b. b) (branches_of ps)))
    (take_all c.loop-branch.branch-index c.args.paths.now (omega (arith, c.loop-branch-test.false))))
