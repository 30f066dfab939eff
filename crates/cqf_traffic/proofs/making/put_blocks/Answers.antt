use Rattle.cqf_traffic.specs.Offering.{words_of}
use Rattle.cqf_traffic.proofs.Putting.{one_put}
use Rattle.cqf_traffic.proofs.making.put_blocks.Goals as goal

pub loop-block-preserved : goal.loop-block-preserved
loop-block-preserved c =
    one_put c.args.until.end.0 c.args.sender.now c.args.traffic (words_of c.args.until.seed c.args.number) _ c.loop-block.block c.loop-block.talker
    c.next-at.new.self c.loop-block.list.items c.put_block_before.new.list.items c.next-at.result c.loop-block.invariant c.next-at.ensures.at
    c.next-at.ensures.next c.in_ok-put_block_before.ensures
