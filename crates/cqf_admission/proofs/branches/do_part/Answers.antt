use Rattle.std.proofs.Common.{◌∙◌, sym}
use Rattle.cqf_admission.proofs.PartLemmas.{none_left}
use Rattle.cqf_admission.proofs.branches.do_part.Goals as goal

pub returns-else-index-others : goal.returns-else-index-others
returns-else-index-others c = sym (c.loop-index.invariant ∙ none_left c.args.names.now c.args.others.now c.loop-index.index c.if-index-others.false)
