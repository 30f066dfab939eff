use Rattle.std.proofs.Common.{None, arith, get_or, refl}
use Rattle.std.proofs.lemmas.List.{length-drop}
use Rattle.cqf_model.specs.Port.{no_arrival}
use Rattle.cqf_bridge.specs.PortRecord.{frames_of}
use Rattle.cqf_bridge.proofs.Handing.{none_handed, one_handed}
use Rattle.cqf_bridge.proofs.MadeBatch.{backed_at, sent_at}
use Rattle.cqf_bridge.proofs.outgoing.hand_all.Goals as goal

pub loop-sent-init : goal.loop-sent-init
loop-sent-init c = none_handed (frames_of c.args.arrivals.now c.args.streams.now) c.args.made.now c.args.batch.now c.args.background.now.items

pub hand_one-requires : goal.hand_one-requires
hand_one-requires c =
    omega (arith, c.loop-sent.invariant.few, c.requires.few, c.loop-sent-test.true, length-drop c.loop-sent.sent-index c.args.made.now)

pub loop-sent-preserved : goal.loop-sent-preserved
loop-sent-preserved c =
    let below = c.requires.inside c.loop-sent.sent-index (0, 0) c.loop-sent-test.true in
    let x = get_or c.args.made.now c.loop-sent.sent-index (0, 0) in
    one_handed (frames_of c.args.arrivals.now c.args.streams.now) c.args.made.now c.args.batch.now c.args.background.now.items c.loop-sent.sent-index
    x (0, 0) (get_or c.args.arrivals.now x.0 no_arrival) (get_or c.args.streams.now x.0 None) _ _ _ _ c.loop-sent.invariant c.loop-sent-test.true refl
    (sent_at c.args.arrivals.now c.args.streams.now c.requires.beside x no_arrival None below)
    (backed_at c.args.arrivals.now c.args.streams.now c.requires.beside x no_arrival None below)
    c.in_ok-hand_one.ensures.batch c.in_ok-hand_one.ensures.background
