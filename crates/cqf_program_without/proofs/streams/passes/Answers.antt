use Rattle.std.proofs.Common.{◌∙◌, sym}
use Rattle.cqf_program_without.proofs.Branches.{passes_later}
use Rattle.cqf_program_without.proofs.streams.passes.Goals as goal

pub loop-index-preserved : goal.loop-index-preserved
loop-index-preserved c =
    passes_later c.args.link.now c.args.path.now c.loop-index.index (sym c.begins_along.ensures ∙ c.if-begins_along.false) c.loop-index.invariant
