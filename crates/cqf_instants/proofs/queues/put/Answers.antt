use Rattle.std.proofs.Common.{arith}
use Rattle.cqf_instants.proofs.Adding.{Adds-put, room_there}
use Rattle.cqf_instants.proofs.queues.put.Goals as goal

pub push_reserved-requires : goal.push_reserved-requires
push_reserved-requires c =
    room_there c.args.queues.now.items c.from.result c.args.link c.index_mut.result.now c.index_mut.result.now c.args.frame
    c.from.ensures (omega (arith, c.requires.is_link, c.from.ensures)) c.index_mut.ensures.value c.requires.space

pub returns : goal.returns
returns c =
    Adds-put c.args.queues.now.items c.from.result c.args.link c.push_reserved.new.self c.index_mut.result.now _ c.args.frame
    c.from.ensures (omega (arith, c.requires.is_link, c.from.ensures)) c.index_mut.ensures.value c.push_reserved.ensures.items c.push_reserved.ensures.capacity
