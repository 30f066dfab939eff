use Rattle.std.proofs.Common.{◌∙◌, sym}
use Rattle.cqf_admission.proofs.Left.{no_hop, short_here, short_later}
use Rattle.cqf_admission.proofs.state.short_of.Goals as goal

pub returns-then-left-cost : goal.returns-then-left-cost
returns-then-left-cost c =
    sym (c.loop-hop.invariant
    ∙ short_here c.args.domain.now c.args.holdings.now.rows c.args.cost c.args.pace c.args.tree.now c.loop-hop.hop-index c.left_of-left.result no_hop
    c.loop-hop-test.true c.requires.apart c.left_of-left.ensures c.if-left-cost.true)

pub loop-hop-preserved : goal.loop-hop-preserved
loop-hop-preserved c =
    c.loop-hop.invariant
    ∙ short_later c.args.domain.now c.args.holdings.now.rows c.args.cost c.args.pace c.args.tree.now c.loop-hop.hop-index c.left_of-left.result no_hop
    c.loop-hop-test.true c.requires.apart c.left_of-left.ensures c.if-left-cost.false
