use Rattle.cqf_plain.proofs.Sent.{backed_so, batches_so, halfway_so}
use Rattle.cqf_plain.proofs.sending.send_one.Goals as goal

pub send-requires-clause-frames : goal.send-requires-clause-frames
send-requires-clause-frames c =
    let p = c.requires.part in
    backed_so p.0 p.1 c.args.cycle.0 p.3 p.2 c.args.driven.now p.4 _ c.background-background.ensures c.new_bridge_follows.ensures.background

pub returns-in-Ok-clause-halfway : goal.returns-in-Ok-clause-halfway
returns-in-Ok-clause-halfway c = λ run net bridge of stands.
    halfway_so run net c.args.cycle.0 of bridge c.args.driven.now stands _ c.background-background.ensures _ _ _ c.in-Ok.ensures.sends c.sending_follows.ensures

pub returns-in-Ok-clause-sends : goal.returns-in-Ok-clause-sends
returns-in-Ok-clause-sends c = λ run net bridge of stands.
    batches_so run net c.args.cycle.0 of bridge c.args.driven.now stands _ c.background-background.ensures _ _ _ c.in-Ok.ensures.sends c.sending_follows.ensures
