use Rattle.std.proofs.Common.{sym, subst}
use Rattle.cqf_topology.specs.JoinedLink.{HasSmallEnds}
use Rattle.cqf_topology.proofs.Fronts.{take-more}
use Rattle.cqf_topology.proofs.joined.links_of.Goals as goal

pub link_of-requires : goal.link_of-requires
link_of-requires c = subst HasSmallEnds (sym c.link-item.is) (c.requires c.loop-link.link-index c.link-item.result c.loop-link-test.true)

pub loop-link-preserved : goal.loop-link-preserved
loop-link-preserved c =
    take-more c.args.joined.now c.loop-link.link-index c.link-item.result c.loop-link-test.true c.link-item.is c.loop-link.links.items _ c.link_of.result
    c.in_ok-push.ensures.items c.link_of.ensures c.loop-link.invariant
