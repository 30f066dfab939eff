use Rattle.std.proofs.Common.{arith}
use Rattle.cqf_topology.proofs.LinkEnds.{ends-next-read}
use Rattle.cqf_topology.proofs.link_list.ends_of.Goals as goal

pub loop-link-preserved : goal.loop-link-preserved
loop-link-preserved c =
    ends-next-read c.args.links.now c.loop-link.link-index _ c.loop-link.ends.keys _ c.requires (omega (arith, c.loop-link-test.true)) c.loop-link.invariant
    c.in_ok-insert.ensures.keys
