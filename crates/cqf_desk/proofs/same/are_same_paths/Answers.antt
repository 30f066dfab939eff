use Rattle.std.proofs.Common.{sym, ◌∙◌}
use Rattle.cqf_desk.proofs.Alike.{branches_same, same_branches}
use Rattle.cqf_desk.proofs.same.are_same_paths.Goals as goal

pub returns : goal.returns
returns c = (
  λ same. same_branches c.args.these.now c.args.those.now (sym c.eq.ensures ∙ same),
  λ same. c.eq.ensures ∙ branches_same c.args.these.now c.args.those.now same,
)
