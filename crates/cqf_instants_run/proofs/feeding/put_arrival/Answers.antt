use Rattle.std.proofs.Common.{arith}
use Rattle.cqf_lists.proofs.ByNumber.{put_to}
use Rattle.cqf_instants_run.proofs.feeding.put_arrival.Goals as goal

-- it is in its link's list
pub returns : goal.returns
returns c =
    put_to c.args.lists.now.items c.from.result c.args.link c.push.new.self c.index_mut.result.now _ c.args.arrival
    c.from.ensures (omega (arith, c.requires, c.from.ensures)) c.index_mut.ensures.value c.in_ok-push.ensures.items
