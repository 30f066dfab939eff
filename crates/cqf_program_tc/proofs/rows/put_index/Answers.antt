use Rattle.std.proofs.Common.{arith}
use Rattle.cqf_lists.proofs.ByNumber.{put_to}
use Rattle.cqf_program_tc.proofs.rows.put_index.Goals as goal

pub returns : goal.returns
returns c =
    put_to c.args.lists.now.items c.from.result c.args.bridge c.push.new.self c.index_mut.result.now _ c.args.index
    c.from.ensures (omega (arith, c.requires, c.from.ensures)) c.index_mut.ensures.value c.in_ok-push.ensures.items
