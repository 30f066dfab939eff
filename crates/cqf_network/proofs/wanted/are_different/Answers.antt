use Rattle.std.proofs.Common.{◌∙◌, ap, sym}
use Rattle.std.specs.Prelude.{is_none}
use Rattle.cqf_network.proofs.TwiceLemmas.{taken_here, taken_later}
use Rattle.cqf_network.proofs.wanted.are_different.Goals as goal

pub returns-then-is_among : goal.returns-then-is_among
returns-then-is_among c =
    ap is_none
    (sym (taken_here c.args.names.now c.loop-index.index c.index-names-index.result c.loop-index-test.true c.index-names-index.is
    (sym c.is_among.ensures ∙ c.if-is_among.true))
    ∙ c.loop-index.invariant)

pub loop-index-preserved : goal.loop-index-preserved
loop-index-preserved c =
    taken_later c.args.names.now c.loop-index.index c.index-names-index.result c.loop-index-test.true c.index-names-index.is
    (sym c.is_among.ensures ∙ c.if-is_among.false)
    ∙ c.loop-index.invariant
