use Rattle.cqf_traffic.proofs.Putting.{sent_more}
use Rattle.cqf_traffic.proofs.making.sent_from.Goals as goal

pub loop-number-preserved : goal.loop-number-preserved
loop-number-preserved c =
    sent_more c.args.until.end.0 c.args.until.seed c.args.senders.now c.loop-number.number c.index-senders-number.result c.loop-number-test.true
    c.index-senders-number.is c.loop-number.list.items c.put_sent.new.list.items c.loop-number.invariant c.in_ok-put_sent.ensures
